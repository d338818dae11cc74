-- the entries of a plan as those of a table, and what the row on names says
pub mod Naming
-- what an entry reaches, from what the entries that it names reach
pub mod Reaching
-- three sets that are hinged, by what they share two by two
pub mod Hinging
-- the rows of a plan are its rules
pub mod Rules
-- what check's answers mean
pub mod Exactly
-- plans of trees
pub mod Complete
-- how many entries pass a test
pub mod Counted
-- the search for three entries
pub mod Searching
-- a plan in the making, and one entry more
pub mod Drafting
-- the three entries that the search takes
pub mod Fitting
-- a leaf or a step more
pub mod Joining
-- when the table of the merging rule is a plan
pub mod Standing
-- what merge's answers mean
pub mod Merging
-- the merging rule on small lists
pub mod MergeExamples
