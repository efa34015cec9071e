-- What is proved of the definitions of specs/, file by file, in its order.

-- ---- from sides to edges
pub mod Chords
-- ---- "no chord leaves its curve by more than one step", of every curve of an outline
pub mod NearCurves
-- ---- with every mark 0 the edges are 01's
pub mod AllStraight
