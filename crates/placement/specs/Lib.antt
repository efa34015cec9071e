-- The placement of an outline by floats that are multiples of 1/65,536 (02, P1). Read in this order.

-- a part, a multiple of it, the rounding
pub mod Parts
-- where a placement takes a point; question 12
pub mod Placed
-- what functions ask of their callers
pub mod Ready
-- every product and every sum is exact
pub mod Exact
-- question 12 in words
pub mod Placeable
pub mod Coordinates
