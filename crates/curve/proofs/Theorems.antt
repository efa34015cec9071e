-- What is proved of the definitions of specs/, file by file, in its order.

-- ---- the curve, its chords, and how many there are
pub mod Curve
-- ---- "no chord leaves its curve by more than one step in x or y"
pub mod ChordsNear
