-- What is proved, and what the functions' proofs share.

-- what is proved of the definitions of specs/
pub mod Theorems
-- laws, as other crates and the proofs of the code know them
pub mod Laws
