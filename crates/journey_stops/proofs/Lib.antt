pub mod Behind
pub mod WhereItStops
