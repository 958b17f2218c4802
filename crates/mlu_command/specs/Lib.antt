pub mod Commands
pub mod Elements
pub mod Emit
pub mod Faults
pub mod Operands
pub mod Outcomes
pub mod Words
