-- What the contracts of `pool` cite beside `rules`.
pub mod Buffers
pub mod AsSettled
pub mod Unlined
