-- What the contracts of `hour`, and of the crates that sum over an hour, cite beside `rules`.
pub mod Prices
pub mod Held
