pub mod MoveLaws
pub mod WordLaws
