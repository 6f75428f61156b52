pub mod AimLaws
pub mod RegionLaws
pub mod WorkedLaws
pub mod RemovalLaws
pub mod CheckLaws
pub mod RetriedLaws
