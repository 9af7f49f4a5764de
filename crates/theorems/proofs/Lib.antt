-- For each public function, crate by crate: no second result fits its contract; and what the contracts of the entry points give, and that
-- they ask nothing.
pub mod Laws
pub mod Values
pub mod Blocks
pub mod Files
pub mod AnyForm
pub mod Filled
pub mod Demanded
pub mod HourFiles
pub mod Explaining
pub mod SixLines
pub mod Asked
pub mod TenMinutes
pub mod TenMinutesText
