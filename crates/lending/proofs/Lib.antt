pub mod LendLaws
