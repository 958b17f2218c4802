pub mod Counts
pub mod Decimals
pub mod Packing
pub mod Texts
