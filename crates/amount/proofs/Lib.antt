-- What several proofs of `amount` share, and what follows from the contracts of `write` and `read` alone.
mod Left
pub mod RoundTrips
