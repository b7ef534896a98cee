pub mod LeftLemmas
pub mod LoginLemmas
