pub mod UnlikeLaws
pub mod FindLaws
pub mod HasLaws
pub mod PlaceLaws
pub mod WithinLaws
