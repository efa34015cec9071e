-- How it is proved: one idea a file, in this order.

-- a sum counted down from what it is to be
pub mod CountingDown
-- the number of an outline's edges, as far as it is counted
pub mod CappedChords
-- contours written as an outline
pub mod Written
-- the tile that holds contours, by sums
pub mod CurvedSums
-- what a call makes of a tile that holds contours
pub mod CurvedKept
