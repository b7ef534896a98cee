pub mod Attributes
pub mod Call
pub mod ReplyState
pub mod Fields
pub mod Reply
pub mod Servlet
pub mod Filter
