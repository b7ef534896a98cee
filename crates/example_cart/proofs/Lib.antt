pub mod FormsLemmas
pub mod JoinLemmas
pub mod KeptLemmas
pub mod RowsLemmas
