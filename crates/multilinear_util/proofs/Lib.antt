pub mod Lengths
pub mod EqualityTables
pub mod Outcomes
pub mod Packed
pub mod Scaled
pub mod Splits
pub mod Successors
pub mod Shares
