mod Prelude
pub mod DocumentLemmas
pub mod MappingLemmas
pub mod AgainLemmas
