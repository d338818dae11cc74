-- tables of values
pub mod Values
-- what is written is read back
pub mod ReadBack
-- what is read was written so
pub mod WrittenSo
-- entries in pieces of four bytes
pub mod Pieces
-- contents as tables
pub mod Storing
-- the pieces of a file, one after another
pub mod Filling
