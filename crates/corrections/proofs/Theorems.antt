-- What is proved of the definitions of specs/, file by file, in its order.

-- the part of it that does not know what kind of contour it is
pub mod Amending
pub mod CorrectingRefusals
-- taking out is the inverse of putting in
pub mod Inverse
pub mod SeriesTheorem
-- what is in can be taken out, so there are such series
pub mod NotRefused
-- tiles that hold a letter, and the same one traced the other way round
pub mod EitherWay
