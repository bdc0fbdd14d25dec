pub mod Entries
pub mod Readings
pub mod Filing
pub mod Balances
pub mod Lines
pub mod Writing
pub mod Stores
