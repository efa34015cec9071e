-- How it is proved: one idea a file, in this order.

-- what the answers of a call say: the first "no" of its questions, at either kind of site
pub mod Answered
-- contours that building accepts; contours whose values add up to a table
pub mod Accepted
pub mod AddingUp
-- of edges: the table that their values add up to, and how large these are
pub mod Parts
-- the tile that holds contours, by sums
pub mod Held
-- the contour of a call; what the call makes of a tile that holds contours
pub mod AskedContour
pub mod Kept
-- a series of calls of any kind
pub mod Runs
