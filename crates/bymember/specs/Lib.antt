-- What the contracts of `bymember`, and of the crates that go on from charges, cite beside `rules`.
pub mod Lined
pub mod Charged
