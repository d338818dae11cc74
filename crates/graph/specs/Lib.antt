-- What the promises of this crate speak of, in the order to read it in.
-- how large a plate may be
pub mod Limits
-- sets of elements held as bits, and how two sets meet
pub mod ElementSets
-- the refusal table: rows, and which of them refuses
pub mod Rows
-- lists of kinds and dimensions: the lawful ones, and the rows of layer 2
pub mod Lists
-- the faults of a list in numbers
pub mod ListFaults
