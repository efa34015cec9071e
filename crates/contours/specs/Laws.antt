-- What other crates, and the proofs of the code, know of the definitions. Read in this order.

-- the edges of a contour, one by one
pub mod ContourEdges
-- a run of edges in one quarter of a cell, and in all the cells above one; what an edge adds there; how large that is
pub mod RunDetails
pub mod Runs
pub mod RunsAdded
pub mod RunBounds
-- the cell of a run
pub mod RunCells
