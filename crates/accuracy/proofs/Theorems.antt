-- What is proved of the definitions of specs/, file by file, in its order.

-- ---- what is spoken of
-- points, contours, edges
pub mod Outline
-- the tile and its cells
pub mod Tile
-- the table: sums over the edges of rounded details
pub mod OutlineTable
-- ---- and that it holds
pub mod Theorem
