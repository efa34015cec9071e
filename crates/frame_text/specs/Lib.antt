-- The text of frames: what a text says, and the lines that are printed. Read in this order.

-- ---- what is read: digits and lines; a frame and its text; question 11's test, and what a text says
pub mod Digits
pub mod Lines
pub mod Frames
pub mod Reading
-- ---- what is printed: its lines; a list over another's start
pub mod OutputLines
pub mod Over
-- ---- what is proved of these
-- the texts that pass question 11 are those of frames, and reading gives back what was written
pub mod RoundTrip
-- ---- what inner functions answer
pub mod Inner
