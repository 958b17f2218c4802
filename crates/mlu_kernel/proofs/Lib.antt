pub mod DoubleSums
pub mod Blocks
pub mod LaneDots
pub mod PlusRows
pub mod BasisDots
pub mod Columns
pub mod FourRows
