-- What the functions' proofs share.

-- whether a point lies on a cell
pub mod CellTests
-- a run in its cell and below, and in the cells above
pub mod RunLoop
pub mod AboveLoop
-- a contour edge by edge, and an outline contour by contour
pub mod ContourLoop
pub mod OutlineLoop
