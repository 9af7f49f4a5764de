pub mod Determined
pub mod Demanded
pub mod Texts
pub mod Given
