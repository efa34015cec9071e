-- The exact integrals of an edge in a cell. Read in this order.

-- ---- what is computed
-- the walk along an edge
pub mod Walk
-- the four integrals
pub mod Integrals
-- some part of the edge lies strictly inside the cell
pub mod Inside
-- the rounded details, the root term, and the rounded area
pub mod Rounded
-- level, upright and 45-degree edges
pub mod Octilinear
-- ---- what the contracts cite besides
-- the ranges that keep the arithmetic in 64 bits
pub mod Room
-- a cell's quarters, cells in cells, edges in cells; both as seen from elsewhere
pub mod Nested
-- what every `Walk` is, and yes or no; a walk's numbers alone
pub mod WalkOf
pub mod CourseOf
-- the steps inside a cell, and where its middles cut them; those in its rows, and where its sides cut them
pub mod Cuts
-- what the functions below the public ones ask and answer
pub mod Code
