mod Prelude
pub mod RowLemmas
pub mod ChainLemmas
pub mod ViewLemmas
pub mod TurnLemmas
pub mod RunLemmas
pub mod StepLemmas
pub mod OpenLemmas
pub mod FirstLemmas
pub mod MappedPathLemmas
pub mod PageLemmas
pub mod SoundLemmas
pub mod KeepingLemmas
