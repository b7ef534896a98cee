mod Prelude
pub mod CookieLemmas
pub mod LoopLemmas
pub mod TellLemmas
pub mod LifeLemmas
pub mod ArrangeLemmas
pub mod StartingLemmas
pub mod FollowingLemmas
pub mod EngineLemmas
pub mod AssembleLemmas
pub mod ShownLemmas
pub mod ContainerLemmas
pub mod PrepareLemmas
pub mod OnceLemmas
pub mod ServeLemmas
pub mod PlainLemmas
pub mod OrderLemmas
