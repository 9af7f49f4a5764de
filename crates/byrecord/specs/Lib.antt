-- What the contracts of `byrecord` cite beside `rules`.
pub mod Shared
