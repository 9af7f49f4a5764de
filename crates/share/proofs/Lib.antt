-- The laws behind the engine: its sums and divisions, its bound, all together, and both its uses.
pub mod Parts
pub mod Above
pub mod Shared
pub mod Uses
