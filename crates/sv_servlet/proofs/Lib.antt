pub mod ReplyLemmas
pub mod AttributesLemmas
pub mod KeepsLemmas
pub mod FieldsLemmas
