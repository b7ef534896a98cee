mod Prelude
pub mod ByteLemmas
mod CookieLemmas
mod CommonLemmas
pub mod CookieStringLemmas
mod DigitLemmas
pub mod NamedLemmas
mod OriginLemmas
mod PathLemmas
mod PlainLemmas
mod SegmentLemmas
pub mod SessionCookieLemmas
