-- What the contracts of `explain` cite beside `rules`.
pub mod Posted
pub mod Settled
pub mod HandedOut
