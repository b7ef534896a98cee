pub mod Login
pub mod Members
pub mod Oops
pub mod Seats
