-- The definitions of this crate, and the laws that its impls cite.
pub mod Eleven
pub mod Quartic
pub mod QuarticLaws
pub mod Transposed
pub mod QuarticMaps
pub mod QuarticPacked
pub mod Product
pub mod ProductMaps
