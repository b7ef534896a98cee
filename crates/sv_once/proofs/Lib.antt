pub mod PartsLemmas
pub mod EntryLemmas
pub mod AnswerLemmas
pub mod AskedLemmas
pub mod RoomLemmas
