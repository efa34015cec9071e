-- Laws.

-- additions to a table, and the room that they need
pub mod Adding
pub mod Spare
-- half of a width, and the quarters of a cell of the tile; which cells lie in which; so what an edge adds in the whole tile is its table
pub mod Nodes
pub mod Covering
pub mod EdgeEntries
-- from a cell to its quarters; what an edge adds there, and nothing where it has no part inside; what the recursion asks for
pub mod OnSheet
pub mod Contributions
pub mod ReadyCells
-- from cell to cell on the way down
pub mod Stages
-- a slanted walk in a cell and in its quarters
pub mod SlantedCells
-- the edges that a tile has in view, alone or on a sheet; and what such an edge adds
pub mod EdgesInView
pub mod EdgeAdded
-- to take an edge out is to add the way back along it
pub mod TurnedEdges
-- the tables of several edges add up, and so does the room that they need
pub mod Sums
pub mod Fitting
