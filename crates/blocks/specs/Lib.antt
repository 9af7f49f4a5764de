-- What the contracts of `blocks` cite beside `rules`.
pub mod Part
pub mod Broken
