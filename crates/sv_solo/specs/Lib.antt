pub mod Table
pub mod Solo
pub mod Reply
pub mod Manner
pub mod Reading
pub mod Serve
