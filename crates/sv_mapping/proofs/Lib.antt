mod Prelude
pub mod TestLemmas
pub mod PathLemmas
pub mod PatternLemmas
pub mod EntryLemmas
pub mod TableLemmas
pub mod LengthLemmas
pub mod MatchLemmas
pub mod PrefixLemmas
pub mod BestLemmas
mod CompareLemmas
pub mod ContextLemmas
pub mod ChainLemmas
