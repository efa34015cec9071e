-- What other crates, and the proofs of the code, know of the definitions. Read in this order.

-- cells, and where their details stand
pub mod Cells
pub mod Layout
-- the signs: one row for each detail, orthogonal
pub mod Signs
-- figures: of a child, of areas, bounds, sums of tables
pub mod Figures
pub mod Areas
pub mod FigureBounds
pub mod FigureLinear
-- a table is known by its coefficients
pub mod Stored
-- two dimensions: 01's own formula, and question 9's range
pub mod Quarters
pub mod FigureLimit
-- pictures
pub mod Pictures
-- all levels in one list
pub mod Pyramid
-- the list of a table's entries has its coefficients, and no other list has
pub mod Entries
-- totals of a level
pub mod CellSums
pub mod Totals
pub mod PictureTotals
-- greys: 01's rule, and that of a magnitude
pub mod InkGreys
pub mod CloseInkGreys
pub mod Greys
-- a table with every sign turned
pub mod Opposite
