-- How the claim is proved: one idea a file, in this order.

-- the edges of an outline: around closed contours, what depends on the end points alone cancels
pub mod Contours
pub mod Coordinates
pub mod OnTile
-- a cell of the next level is a quarter
pub mod Squares
-- the exact areas: their denominator is above 0; a quarter's from its cell's, and so the details from the quarters'; and the whole tile's
pub mod Denominator
pub mod OutlineQuarter
pub mod Differences
pub mod OutlineWhole
-- so the figures, without rounding, are 4^L times these areas
pub mod ExactFigures
-- h, v and d at once
pub mod Numbered
-- what rounding does to each edge's details
pub mod RoundingErrors
-- so how far a figure misses: a sum over the cells in which its cell lies, of the edges that come inside, beside what the root misses by
pub mod Closeness
pub mod Roots
-- and how far two greys are apart
pub mod CloseGreys
pub mod MostEdges
-- the table: how large its entries are, that the order of edges does not matter, and that an outline walked the other way has the opposite one
pub mod EntryBounds
pub mod Order
pub mod Reversal
-- the ends of an outline's edges are its points
pub mod EdgeEnds
-- and the table by the closed form of the edges' details, which computes
pub mod ClosedTable
-- ---- the tiles of a sheet: what each sees of the edges, and that their roots add up
pub mod SheetTiles
