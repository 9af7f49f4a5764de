-- What the contracts of `writer` cite beside `rules`.
pub mod Stored
pub mod Lists
pub mod Promised
pub mod HandedOut
