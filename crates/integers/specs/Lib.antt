-- The integers: what the rest of the project knows of ℤ. Read in this order.

-- 01's and 02's numbers, by name
pub mod Units
pub mod Polynomial
pub mod Ring
-- inequalities, proved in one line: `lin≤`, `lin<`, `lin≡`, `lin⊥`
pub mod Order
pub mod Elimination
pub mod Linear
-- the machine's signed integers: `linfits`, comparisons, division
pub mod Machine
pub mod Division
-- a test of all numbers below one
pub mod Below
-- magnitude and bounds
pub mod Magnitude
pub mod Within
pub mod MinMax
-- the machine's numbers with a bound: their bits, and what operations make of them
pub mod Bits
pub mod Held
-- sums over a range
pub mod RangeSum
-- how far past a side, and how far from the nearer side
pub mod Clamp
pub mod Tent
pub mod Interpolation
-- plus in the first half, minus in the second
pub mod HalfSign
-- the trapezoid sum, sums over a list
pub mod Trapezoid
pub mod ListSum
-- what a test says; a test and then another, and a test of every element, as code has them
pub mod Tests
-- a search that ends at the first element that fails a test
pub mod Search
-- the two roundings
pub mod Rounding
pub mod RoundHalfAway
pub mod RoundHalfUp
-- sums of fractions, exact and rounded term by term
pub mod Fraction
