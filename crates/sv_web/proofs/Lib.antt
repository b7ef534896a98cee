pub mod DoneLemmas
pub mod FoundLemmas
pub mod HtmlLemmas
pub mod JsonLemmas
pub mod NumeralLemmas
pub mod PartLemmas
pub mod WorkLemmas
