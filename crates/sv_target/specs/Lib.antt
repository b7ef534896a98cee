pub mod Cookies
pub mod CookieString
pub mod Digits
pub mod Params
pub mod Path
pub mod Segment
pub mod SessionCookie
pub mod Target
