-- The laws of `whole`.
pub mod Tests
pub mod Linear
pub mod Ranges
pub mod Sums
pub mod Gathering
pub mod Totals
pub mod Search
pub mod Tables
pub mod Buffers
pub mod Filling
pub mod Adding
pub mod Stores
pub mod Division
pub mod Rank
pub mod Handing
pub mod Machine
pub mod Chains
