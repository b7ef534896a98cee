pub mod EditLemmas
pub mod LimitLemmas
