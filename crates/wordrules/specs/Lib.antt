-- What the trait of a kind of file asks, and that both kinds keep it.
pub mod Laws
pub mod Hourly
pub mod TenMinutes
