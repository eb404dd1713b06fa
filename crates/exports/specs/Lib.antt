pub mod Journey
