-- Laws of text that is put on a page, for the proofs here and of whoever puts line after line.
pub mod Putting
pub mod Pages
pub mod Heads
pub mod Showing
