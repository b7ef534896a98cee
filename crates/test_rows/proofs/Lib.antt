pub mod ScriptedLemmas
pub mod StageLemmas
