-- Lemmas on the way to the laws, and shared with the functions' proofs.

-- records with equal fields; spans and cuts of equal numbers
pub mod Records
-- one direction across a cell, by equal numbers
pub mod CrossedCells
-- signs and extents, both ends of a walk
pub mod Ends
-- a step between two sides, or outside of them
pub mod Steps
-- an integral, run by run
pub mod Runs
-- the steps between two sides are consecutive
pub mod Crossings
-- linear up to the middle, and from it on; linear between the crossings of two sides
pub mod OneDirection
-- how large a sum along a walk is
pub mod SumBounds
