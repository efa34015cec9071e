-- Contours with curved edges, and the edges that they are drawn as (02, P6). Read in this order.

-- ---- from marks and coordinates to sides
pub mod Sides
-- ---- from sides to edges
pub mod Chords
-- ---- "no chord leaves its curve by more than one step", of every curve of an outline
pub mod NearCurves
-- ---- as the code hands them on; what an inner function answers
pub mod Marked
pub mod Inner
-- ---- how it is proved, and what else is known of the edges
pub mod Laws
