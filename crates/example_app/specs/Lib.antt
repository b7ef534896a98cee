pub mod Welcome
