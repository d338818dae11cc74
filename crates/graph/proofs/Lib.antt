-- bits and members
pub mod Bits
-- what two sets, and three, have in common
pub mod Sharing
-- what the searches of the library find
pub mod Found
-- answers with their faults in numbers
pub mod Told
-- ReadingLaw
pub mod Reading
-- the rows of a list, and the lawful ones
pub mod Lawfully
