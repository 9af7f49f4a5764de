-- What the floors above learn of a file that was examined, and of lists; laws of an hour by its words.
pub mod Examined
pub mod Listed
mod Cut
mod Head
mod Ranges
mod Records
mod Compared
mod Spanned
