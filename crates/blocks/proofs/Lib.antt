-- What the floors above learn of a part of a file.
pub mod Parts
pub mod Broken
