-- The definitions of this crate, and the laws that its impls cite.
pub mod LaneRing
pub mod Columns
pub mod Entrywise
pub mod Residues
pub mod BabyBear
pub mod WrappingU64
pub mod Packed
pub mod Words
