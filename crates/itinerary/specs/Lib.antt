pub mod Itinerary
pub mod Inner
