pub mod Customer
