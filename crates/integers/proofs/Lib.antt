-- What is proved.

-- what is proved of the definitions of specs/
pub mod Theorems
-- what the functions' proofs share
pub mod Correction
