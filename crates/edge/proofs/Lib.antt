-- What is proved, and what the functions' proofs share.

-- what is proved of the definitions of specs/
pub mod Theorems
-- lemmas of the laws
pub mod Lemmas
-- laws, as other crates and the proofs of the code know them
pub mod Laws
-- definitions by the sign, as the code tests it
pub mod Signs
-- what `Room` says of coordinates, extents, widths, of each direction of a walk, and of what is formed from them
pub mod Sizes
pub mod AxisNumbers
pub mod WalkRoom
pub mod PieceBounds
-- sums along a walk are the edge's; the closed form at the four cuts, of the details and of the area
pub mod WalkForm
pub mod CutForm
pub mod AreaForm
