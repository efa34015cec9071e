-- What other crates may cite of a slanted walk, by subject.

-- the sum under a tent, by its ends
pub mod Sums
-- a direction that moves is p − |t − m| from the nearer side
pub mod Tents
-- h, v and d of a slanted walk are such sums
pub mod SlantedSums
-- the ranges of a walk in a cell; neither direction stands still
pub mod Walks
-- the details of a walk in a cell by its six numbers
pub mod PieceDetails
-- what the functions ask of them holds
pub mod PieceSound
-- those of a quarter
pub mod PieceParts
-- the slanted edge of 01's letter G
pub mod LetterG
-- a slanted edge on a cell: all its steps are inside
pub mod WholeSpan
