-- What the promises of this crate speak of, in the order to read it in.
-- how large the tables in a file may be
pub mod FileLimits
-- what a file holds
pub mod Contents
-- the bytes of a file, written and read, and the rows of layer 1
pub mod Files
-- values that a file stores
pub mod Stored
-- and that kinds, dimensions and entries are such values
pub mod StoredTypes
-- the faults of a file in numbers
pub mod FileFaults
-- what is written
pub mod Parts
-- what holds of every file
pub mod FileLaws
