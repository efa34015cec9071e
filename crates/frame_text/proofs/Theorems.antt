-- What is proved of the definitions of specs/, file by file, in its order.

-- ---- what is proved of these
-- the texts that pass question 11 are those of frames, and reading gives back what was written
pub mod RoundTrip
