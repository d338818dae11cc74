-- What the promises of this crate speak of, in the order to read it in.
-- the faults in numbers
pub mod SketchFaults
-- a text written into a buffer
pub mod Buffers
-- what every sketch keeps
pub mod Keeping
-- the calls on a sketch
pub mod Sketches
-- the line that tells an outcome
pub mod Reports
