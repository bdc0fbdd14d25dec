pub mod Leaf
pub mod Pages
pub mod Stores
