pub mod Lawfulness
pub mod Places
pub mod Filed
pub mod PastEntries
pub mod Written
pub mod LineParts
pub mod Widths
