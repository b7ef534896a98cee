pub mod Edit
pub mod Fault
pub mod Calls
pub mod Expiry
pub mod Holding
pub mod Token
