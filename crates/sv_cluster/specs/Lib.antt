pub mod Fault
pub mod Request
pub mod Script
pub mod Words
