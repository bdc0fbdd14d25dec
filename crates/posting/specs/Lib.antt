pub mod Sources
pub mod Alone
pub mod Standing
pub mod Moves
