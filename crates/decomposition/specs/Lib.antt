-- The subject, in the order to read it in.
-- sets of elements, sums and counts
pub mod Sets
-- the lowest number that passes a test
pub mod Lowest
-- ternary trees over edges, what they reach, and hinged sets
pub mod Trees
-- graphs, and what a tree decomposition of a graph is
pub mod Graphs
-- tree decompositions of a list of edges, rule by rule
pub mod Lists
-- tables that write down trees, and which of them are accepted
pub mod Tables
-- the parts that a merge has come to
pub mod Forest
-- the merging rule
pub mod Merging
-- the laws
pub mod Laws
