-- The table of Haar coefficients, figures and greys. Read in this order.

-- cells, and the sign of a detail at a child, in any number of dimensions
pub mod Cells
pub mod Signs
-- the table: where each coefficient stands
pub mod Table
-- figures, pictures, greys
pub mod Figures
pub mod Pictures
pub mod Greys
-- the list of a table's entries, made from its coefficients
pub mod Entries
-- two dimensions
pub mod Plane
-- what drawing asks of its caller, and what the contracts of its inner functions cite
pub mod Drawable
pub mod Pairs
pub mod Levels
-- all levels in one list
pub mod Pyramid
