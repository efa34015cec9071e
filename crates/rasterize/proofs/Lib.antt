-- What is proved, and what the functions' proofs share.

-- laws, as other crates and the proofs of the code know them
pub mod Laws
-- a cell quarter by quarter, and in the order of a slanted walk; the way down to the smallest cell that an edge lies in
pub mod QuarterLoop
pub mod SlantedLoop
pub mod SlantedBits
pub mod Descending
