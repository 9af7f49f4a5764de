-- What the contracts of `printing` cite beside `rules`.
pub mod Put
pub mod Charged
pub mod Shown
pub mod Page
