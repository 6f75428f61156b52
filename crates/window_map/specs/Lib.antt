pub mod Answer
pub mod Around
pub mod Changes
pub mod Parts
pub mod Slides
