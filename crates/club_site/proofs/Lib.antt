pub mod BookingsLemmas
