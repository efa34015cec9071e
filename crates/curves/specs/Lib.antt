-- What the calls for outlines with curved edges answer and leave, for every input; and what is promised of them (02, P6). Read in this order.
--
-- What an outline with marks is drawn as is in Sides and Chords of `chords`, with Curve of `curve`. Everything after that is said of edges, and is what it is
-- without curves: the questions about a site in `sheet`, the claim in `tile`'s Faithful.

-- ---- the calls
-- the questions, and the order in which they are asked
pub mod MarkedQuestions
-- what building answers, and what the table holds afterwards
pub mod CurveOutcomes
-- ---- demand 1: each number comes under its question, and under no other condition; a refusal leaves everything as it was
pub mod CurveRefusals
-- ---- demand 3, with 02's distance of chords from their curves: the claim, and that it holds
pub mod FaithfulCurves
pub mod CurveTheorem
-- ---- with every mark 0 it is building without marks
pub mod NoCurves
-- ---- putting in and taking out: what the calls answer and leave, and what a tile then holds
pub mod CurvedCorrections
pub mod CurvedRefusals
pub mod CurvedHolding
-- the law of a series of corrections in which both kinds of contours are mixed
pub mod CurvedSeries
