mod Prelude
pub mod PlaceLemmas
pub mod SayingLemmas
pub mod SpareLemmas
pub mod SendingLemmas
pub mod ContinueLemmas
pub mod LifeLemmas
pub mod WritingLemmas
