-- What the contracts of `streams` cite.
pub mod Failed
pub mod Texts
