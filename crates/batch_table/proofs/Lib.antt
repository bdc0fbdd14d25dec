mod Starts
pub mod Orderly
pub mod TableLimits
pub mod TableLines
pub mod GivenRecords
pub mod Built
pub mod InWords
