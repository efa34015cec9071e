-- What other crates, and the proofs of the code, know of the definitions. Read in this order.

-- floats: a value; exact products and sums; whole numbers; comparisons with a limit
pub mod Values
pub mod ExactArithmetic
pub mod PartsOf
pub mod Comparisons
pub mod WholeFloats
-- a float in parts; and the test of a float
pub mod InParts
pub mod TestedFloats
-- a × x + b × y + c: how large it gets
pub mod Turning
-- the rounding, by a shift
pub mod NearestStep
-- a shift and a scale as turns
pub mod Turns
-- the placed coordinates
pub mod PlacedPoints
