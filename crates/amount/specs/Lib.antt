-- What the contracts of `amount` cite beside the definitions of `rules`, and what they promise as a whole.
pub mod Parts
pub mod Promised
