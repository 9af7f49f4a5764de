-- What the proofs of `tenminutes` share: where a file's words lie, a member's nets, record by record, the chains of records, and what the
-- checks tell.
pub mod Inside
pub mod Adding
pub mod Chaining
pub mod Settled
