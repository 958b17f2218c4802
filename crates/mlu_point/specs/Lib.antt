-- The definitions of this crate.
pub mod Orders
pub mod Views
pub mod Vertices
pub mod Factors
pub mod Powers
pub mod Steps
pub mod Rules
pub mod Batches
