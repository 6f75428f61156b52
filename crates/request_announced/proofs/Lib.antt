pub mod WantedLaws
pub mod PerformLaws
pub mod RequestedLaws
pub mod FrontLaws
pub mod PlacesLaws
pub mod AskLaws
pub mod ByTypeLaws
