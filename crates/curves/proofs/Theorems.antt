-- What is proved of the definitions of specs/, file by file, in its order.

-- ---- demand 1: each number comes under its question, and under no other condition; a refusal leaves everything as it was
pub mod CurveRefusals
pub mod CurveTheorem
-- ---- demand 2: each entry of the table
pub mod CurveEntries
-- ---- with every mark 0 it is building without marks
pub mod NoCurves
pub mod CurvedRefusals
pub mod CurvedInverse
pub mod CurvedSeriesTheorem
