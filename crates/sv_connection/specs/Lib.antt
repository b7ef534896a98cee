pub mod Request
pub mod Reply
pub mod Arrive
pub mod Speak
pub mod Receive
pub mod Connection
