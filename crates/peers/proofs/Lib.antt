pub mod StalledLaws
pub mod PeerLaws
pub mod AimLaws
