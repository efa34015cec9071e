-- What is proved, and what the functions' proofs share.

-- laws, as other crates and the proofs of the code know them
pub mod Laws
-- sums and what is rounded of them, of numbers that are read back from their bits
pub mod SumBits
-- definitions by the half, and the smaller and the larger of two numbers, as the code tests them
pub mod HalfTests
-- a piece whose numbers are read back
pub mod PieceBits
