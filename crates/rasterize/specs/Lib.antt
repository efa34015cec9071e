-- What an edge adds to a table. Read in this order.

-- a table with something added to each entry
pub mod Added
-- cells of the quadtree, with their squares
pub mod Nodes
-- what an edge adds in a cell and below it
pub mod Contribution
-- what the functions ask of their callers
pub mod Ready
-- a cell on the way down to the smallest one that an edge lies in
pub mod Stages
-- a slanted walk from cell to cell
pub mod Slanted
-- a tile alone or on a sheet: how it has the edges, and what an edge adds then
pub mod Views
-- laws
pub mod Laws
