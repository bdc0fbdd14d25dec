pub mod OrderLines
pub mod InOrder
pub mod TableSource
pub mod TableMeaning
pub mod Orderly
pub mod Given
