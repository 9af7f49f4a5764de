-- What the contracts of `formula` cite beside `rules`.
pub mod Meant
pub mod Room
