pub mod Copies
pub mod Stalling
pub mod Answers
pub mod Finished
pub mod Rooms
pub mod Planned
pub mod Forecasts
