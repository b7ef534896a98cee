pub mod Scripted
pub mod Staged
pub mod Status
pub mod Echo
pub mod Said
pub mod Checked
pub mod Closed
