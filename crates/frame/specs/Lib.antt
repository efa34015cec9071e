-- The tile program, from bytes to bytes: what it prints of a text, by the questions and by the table and greys of `tile`. The texts of frames, what is read
-- of them and the lines that are printed are defined in `frame_text`, which comes first. Read in this order.

-- ---- the whole program
pub mod Output
-- ---- what is proved of it
-- demand 1: each refusal comes under its question alone, and leaves the table as it was
pub mod Refusals
-- demand 3: the greys that are printed are at most one from those of the exact areas
pub mod Printed
-- ---- what inner functions answer
pub mod Inner
