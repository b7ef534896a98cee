mod Prelude
mod UnreadLemmas
mod ServeLemmas
pub mod QuietLemmas
mod TableLemmas
mod SoloLemmas
mod FollowLemmas
pub mod TraceLemmas
