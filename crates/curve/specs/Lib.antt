-- The chords of a quadratic Bézier curve (02, P6), one coordinate at a time. Read in this order.

-- ---- the curve, its chords, and how many there are
pub mod Curve
-- ---- "no chord leaves its curve by more than one step in x or y"
pub mod ChordsNear
