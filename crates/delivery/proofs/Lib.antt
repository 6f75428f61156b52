pub mod AgeLaws
pub mod HeldLaws
pub mod ListedLaws
pub mod OtherLaws
pub mod OrphanLaws
