-- What the contracts of `tenminutes` cite beside `rules`.
pub mod Room
pub mod Chain
pub mod Link
pub mod Shared
pub mod HandedOut
