-- What is proved of the definitions of specs/, file by file, in its order.

-- ---- the numbers of refusals
pub mod Numbers
-- ---- demand 1: each number comes under its question, and under no other condition; a refusal leaves everything as it was
pub mod Refusals
-- ---- demand 2: each entry of the table that building left; each figure and grey of a table
pub mod TableEntries
pub mod DrawnFigures
-- all levels in one call
pub mod AllLevels
pub mod Theorem
-- ---- 02's placements: what is built is the outline as placed, so demands 2 and 3 are of that one
pub mod PlacedOutline
-- ---- 01's letters
pub mod Letters
-- ---- 02's wrong-handed tracing: a letter and the same one traced the other way round have the same greys; with the points in the reverse order
pub mod EitherWay
pub mod EitherWayGreys
pub mod ReversedOutline
-- ---- and the search behind question 9 (02, P2)
pub mod EntrySearch
