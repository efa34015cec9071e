-- What other crates may cite of the integrals, one law a file.

-- the number of steps is above 0
pub mod StepCount
-- more and shorter steps change neither the integrals nor what lies inside: the sums are the integrals
pub mod Refinement
pub mod InsideRefinement
-- h by the left and the right half, d by the upper and the lower
pub mod Halves
-- 4 × area(quarter) = area ± h ± v ± d, and terms of the end points
pub mod Quarter
-- the area of an edge on the tile is its root term, and terms of the end points
pub mod WholeTile
-- a square cut into tiles: its area is theirs, added up
pub mod Tiling
-- an edge and a cell moved together: the same values
pub mod Translation
-- how large the integrals, the rounded details and the numerators are
pub mod Bounds
-- no part strictly inside: no details, here and in each cell inside
pub mod Zero
-- nor in a cell beside the one that an edge lies in
pub mod Beside
-- level, upright and 45-degree edges: whole values
pub mod OctilinearEdges
-- the other way along an edge: opposite values
pub mod Reversal
-- the sum over at most three pieces; and the rounded details by it, which compute; the same of the area
pub mod ClosedForm
pub mod ClosedDetails
pub mod ClosedArea
-- what the methods of numbers answer, by the definitions here
pub mod Methods
-- a walk comes inside where its edge does; what the type says of it
pub mod WalkInside
pub mod WalkKnown
-- cells in cells, and the room that an edge has in each
pub mod Cells
-- an edge in one quarter: whole values
pub mod InQuarter
-- the slanted edges of 01's letters F and G
pub mod Letters
