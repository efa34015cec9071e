-- What the six public calls answer and leave, for every input; and what is promised of an outline and of what is drawn of it. Read in this order.
--
-- What is cited of the crates below is defined in their files of definitions. The trail of an entry: Outline, OutlineTable and Tile of `accuracy`,
-- then Rounded, Integrals and Walk of `edge`, with Clamp, Tent, Trapezoid and Rounding of `integers`. Of an exact area: ExactArea of `accuracy`, then
-- Integrals of `edge`, with Fraction of `integers`. Of a figure and a grey: Plane, Figures, Signs, Table, Entries, Pictures and Greys of `haar`, with
-- Magnitude, Clamp and Rounding of `integers`. The numbers of 01 and 02 are in Units of `integers`; where a placement takes a point is in Parts and Placed
-- of `placement`. The words of the three demands are in docs/ARCHITECTURE.md. The calls for a tile of a sheet are in `sheet`, putting in and taking out in
-- `corrections`.

-- ---- the calls
-- the questions, and the order in which each call asks them
pub mod Questions
-- what an answer says: a value, or a refusal and its number
pub mod Answers
-- and the words of a refusal
pub mod Words
-- what each call answers, and what its buffers hold afterwards
pub mod Outcomes
-- ---- demand 1: each number comes under its question, and under no other condition; a refusal leaves everything as it was
pub mod Refusals
-- ---- demand 2: each entry of the table that building left; each figure and grey of a table
pub mod TableEntries
pub mod DrawnFigures
-- all levels in one call
pub mod AllLevels
-- ---- demand 3: the claim from the outline to what is drawn of it
pub mod Faithful
-- ---- 01's letters
pub mod Letters
-- ---- 02's wrong-handed tracing: a letter and the same one traced the other way round have the same greys; with the points in the reverse order
pub mod EitherWay
pub mod ReversedOutline
-- contours written as an outline
pub mod Written
-- ---- what inner functions answer
pub mod Inner
-- ---- and the search behind question 9 (02, P2)
pub mod EntrySearch
