mod Prelude
pub mod FormatLaws
pub mod FieldLaws
pub mod KindLaws
pub mod WholeLaws
pub mod FrameLaws
pub mod SizeLemmas
pub mod Loop
pub mod Names
pub mod WrittenLemmas
pub mod RangeLemmas
pub mod WithinLemmas
pub mod GreetingLaws
