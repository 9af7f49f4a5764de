-- What several proofs of `formula` share, and what its callers need to show that a posting has room.
mod Terms
pub mod Room
