-- What is proved, and what the functions' proofs share.

-- what is proved of the definitions of specs/
pub mod Theorems
-- laws, as other crates and the proofs of the code know them
pub mod Laws
-- how large a level's numbers are
pub mod LevelNumbers
-- a cell's details, and the figures of two children
pub mod CellDetails
-- one level up
pub mod Above
-- two rows of a level, from the row of their parents
pub mod TwoRows
-- a level, from the one above
pub mod NextLevel
-- pictures, one after the other
pub mod Stacking
