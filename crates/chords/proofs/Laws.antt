-- Laws.

-- what holds of every coordinate of a contour holds of its sides' points
pub mod SidesWithin
-- the chords of closed sides are closed edges, on the tile where the coordinates are
pub mod ClosedChords
-- the edges of a side as a list, one by one
pub mod ChordList
