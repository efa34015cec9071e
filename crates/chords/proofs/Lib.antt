-- What is proved, and what the functions' proofs share.

-- what is proved of the definitions of specs/
pub mod Theorems
-- laws, as other crates and the proofs of the code know them
pub mod Laws
-- a coordinate, and its bits
pub mod Coordinates
-- a curve's chords are few
pub mod FewChords
-- edges that are left to add
pub mod Left
-- the mark that is next
pub mod NextMark
-- the side that is next
pub mod NextSide
-- the contour that is next
pub mod NextContour
