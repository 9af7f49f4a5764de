-- What is promised, as statements about the definitions: second readings of 003, of rounding and of printed lines, the demands, what
-- document 02 asks.
pub mod Tariff
pub mod Rounding
pub mod Lines
pub mod Demands
pub mod Finals
pub mod Writing
pub mod Imports
pub mod Engines
pub mod Deciding
pub mod SixLines
pub mod Intervals
pub mod TenMinutes
