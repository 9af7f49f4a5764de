-- What the contracts of `byarea`, and of the crates that go on from a tally, cite beside `rules`.
pub mod Posted
