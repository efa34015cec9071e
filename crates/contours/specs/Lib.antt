-- What a contour and an outline add to a table. Read in this order.

-- the edges of a contour
pub mod Contour
-- a run of edges in one cell, in the cells above it
pub mod Runs
-- laws
pub mod Laws
