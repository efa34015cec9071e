-- From an outline to how near its figures and greys are to its exact areas. Read in this order. What is cited of the crates below is defined in Walk,
-- Integrals, Rounded and Octilinear of `edge`; Cells, Signs, Table, Figures, Pictures, Greys and Plane of `haar`; Fraction, Rounding, Clamp,
-- ListSum, HalfSign, Magnitude and Units of `integers`.

-- ---- what is spoken of
-- points, contours, edges
pub mod Outline
-- the tile and its cells
pub mod Tile
-- the exact area of a cell, and its exact details, as fractions
pub mod ExactArea
pub mod ExactDetails
-- the table: sums over the edges of rounded details
pub mod OutlineTable
-- the tiles of a sheet: the outline as it is seen from a tile's corner
pub mod Sheet
-- ---- the claim
pub mod Accurate
