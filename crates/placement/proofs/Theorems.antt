-- What is proved of the definitions of specs/, file by file, in its order.

-- a part, a multiple of it, the rounding
pub mod Parts
-- what the test of a float says, and what it answers for single ones
pub mod Multiples
-- every product and every sum is exact
pub mod Exact
-- question 12 in words
pub mod Placeable
