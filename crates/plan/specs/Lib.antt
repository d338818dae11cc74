-- What the promises of this crate speak of, in the order to read it in.
-- the entries of a plan
pub mod Entries
-- what an entry reaches
pub mod Reach
-- three sets that are hinged
pub mod Hinges
-- the rows of layer 3
pub mod PlanRows
-- the faults of a plan in numbers
pub mod PlanFaults
-- what check answers, and what its answers mean
pub mod Check
-- what merge answers, and the law of merging
pub mod Merge
-- a plan in the making, inside merge
pub mod Drafts
