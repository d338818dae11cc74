-- contents that check accepts, and what a file can hold of them
pub mod Accepting
-- adopting a file
pub mod Adopting
-- one file for each sketch
pub mod Filing
