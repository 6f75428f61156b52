pub mod ProgressLaws
pub mod TickLaws
