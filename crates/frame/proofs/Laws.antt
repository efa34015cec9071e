-- How it is proved: one idea a file, in this order.

-- what the program's calls answer
pub mod Output
-- the questions that a frame can fail
pub mod FrameNumber
-- what a refusal's line says
pub mod RefusalLines
