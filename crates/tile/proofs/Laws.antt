-- How it is proved: one idea a file, in this order.

-- what there is after a call
pub mod IfDone
-- the first "no" of a list of questions
pub mod FirstNo
-- a side and its depth
pub mod Sides
-- what is not refused can be drawn
pub mod Answers
-- so what is known of an accepted outline, and of the table that building leaves
pub mod Accepted
pub mod BuiltTable
-- a level and a table that no drawing call refuses; a drawn area beside the exact one
pub mod DrawnTable
pub mod DrawnArea
-- a given outline's table and pictures, by computing them
pub mod Computed
-- contours written as an outline
pub mod Written
-- contours with their points in the reverse order
pub mod ReversedContours
-- ---- for the proofs of code, here and in the crates of 02's calls: questions one after the other; the counts' sum; room for edges; from a cleared table
-- to an outline's
pub mod Asking
pub mod CountsSum
pub mod Room
pub mod Building
