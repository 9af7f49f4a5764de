-- Laws of words stored in a buffer of bytes, of a block's sum, of the hour that lists say, of its file's blocks, and of the definition of
-- writing. Nobody above cites them.
mod Storing
mod Sums
mod Said
mod FileBlocks
mod Written
