-- How it is proved: one idea a file, in this order.

-- how many chords: the least that will do, and at most 128
pub mod Splits
-- the ends of chords: the first and the last are the curve's, and all lie where its three points do
pub mod ChordEnds
-- how far a chord is from its curve
pub mod ChordDistance
