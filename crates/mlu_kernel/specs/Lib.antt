pub mod Kernels
pub mod Columns
