pub mod HopMac
pub mod Numbers
