-- A slanted edge in the cells of the quadtree, counted in the steps of its walk. Read in this order. What is cited of the crates below is defined in Walk,
-- Rounded, Cuts, Room, WalkOf and Nested of `edge`; Rounding, Clamp, MinMax, Magnitude and Within of `integers`.

-- ---- what is computed
-- the sum under a tent
pub mod Under
-- a walk in a cell, and its details by these sums
pub mod Pieces
-- a walk in the quarters of a cell
pub mod Parts
