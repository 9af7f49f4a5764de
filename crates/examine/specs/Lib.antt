-- What the contracts of `examine` cite beside `rules`.
pub mod Whole
pub mod Fault
pub mod Span
