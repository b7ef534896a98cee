mod Prelude
pub mod FieldLemmas
pub mod AttributesLemmas
pub mod KeyLemmas
pub mod KeptLemmas
pub mod SameLemmas
pub mod EntryLemmas
pub mod KnownLemmas
pub mod JournalLemmas
pub mod RangeLemmas
pub mod RowLemmas
