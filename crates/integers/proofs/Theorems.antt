-- What is proved of the definitions of specs/, file by file, in its order.

-- 01's and 02's numbers, by name
pub mod Units
-- equations of polynomials, proved in one line: `ring`, `comb`
pub mod RingLaws
pub mod Polynomial
pub mod Ring
-- inequalities, proved in one line: `lin≤`, `lin<`, `lin≡`, `lin⊥`
pub mod Order
pub mod Elimination
pub mod Linear
-- the machine's signed integers: `linfits`, comparisons, division
pub mod Machine
pub mod Division
-- each of these at work
pub mod Tour
-- a test of all numbers below one
pub mod Below
-- magnitude and bounds
pub mod Magnitude
pub mod Within
pub mod MinMax
-- the machine's numbers with a bound: their bits, and what operations make of them
pub mod Bits
pub mod Held
-- sums over a range
pub mod RangeSum
-- how far past a side, and how far from the nearer side
pub mod Clamp
pub mod Tent
pub mod Interpolation
-- plus in the first half, minus in the second
pub mod HalfSign
-- the trapezoid sum, sums over a list
pub mod Trapezoid
pub mod ListSum
-- what a test says; a test and then another, and a test of every element, as code has them
pub mod Tests
pub mod Conjunction
pub mod Every
-- a search that ends at the first element that fails a test
pub mod Search
pub mod RoundHalfAway
pub mod NearestAway
pub mod RoundHalfUp
-- sums of fractions, exact and rounded term by term
pub mod Fraction
pub mod RoundedSum
