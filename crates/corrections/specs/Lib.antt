-- What putting a contour in and taking it out answer and leave, for every input, of a tile alone and of a tile of a sheet, and what is promised of them (02, P3
-- and P5). Read in this order.
--
-- What is cited of the crates below: `Sites` of `sheet`, which has what goes by the site; `Questions`, `Outcomes`, `Faithful` and `Written` of `tile`; Added of
-- `rasterize`; Sides and Chords of `chords`.

-- ---- what the calls answer and leave, and when each number is answered
pub mod Corrections
-- the part of it that does not know what kind of contour it is
pub mod Amending
pub mod CorrectingRefusals
-- ---- what a tile holds, what each call makes of it, the law of a series of calls
pub mod Holding
pub mod Series
