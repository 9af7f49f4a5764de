-- That a caller in C is asked nothing.
pub mod Asked
