-- What the contracts of `report` cite beside `rules`, `printing` and `explain`.
pub mod Stated
pub mod Worded
pub mod Filing
pub mod TenMinutes
