-- The proofs of the laws, each file after those that it rests on.
-- bits, sums and counts
pub mod Sums
-- the lowest number that passes a test
pub mod Lowest
-- the nodes of a tree
pub mod Positions
-- what a tree reaches and names, and how its edges are counted
pub mod Trees
-- hinged sets
pub mod Hinges
-- CornersLaw
pub mod Corners
-- the test for three hinged sets
pub mod HingeTest
-- how many elements, edges and nodes a tree decomposition of a list has
pub mod Plans
-- entries that a function gives, and their trees
pub mod Entries
-- the entries of a table in order are the nodes of a tree
pub mod InOrder
-- the rules of a table are those of its tree
pub mod Accepted
-- RulesLaw
pub mod Graphs
-- AcceptanceLaw
pub mod Checker
-- WrittenLaw
pub mod Writing
-- CountsLaw
pub mod Counts
-- OverlapLaw
pub mod Overlap
-- NeverStuckLaw
pub mod Progress
-- tables that the merging rule has brought so far
pub mod Underway
-- the merging rule leaves no choice
pub mod MergedOnce
-- the lowest three that can be joined, found
pub mod Search
-- MergingRuleLaw
pub mod MergedExists
-- PlanningLaw
pub mod Merged
