pub mod Carrying
pub mod Staged
pub mod Stages
