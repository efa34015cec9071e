-- What building on a sheet answers and leaves, for every input, and what is promised of it (02, P5). Read in this order.
--
-- What is cited of the crates below: `Questions`, `Outcomes` and `Faithful` of `tile`, whose records of demand 3 serve here as they are; Sheet, OutlineTable and
-- Accurate of `accuracy`; Views of `rasterize`; and the sheet's numbers in Units of `integers`.

-- ---- the call
-- questions 14 and 15, and the order in which the call asks its questions
pub mod SheetQuestions
-- what it answers, and what the table holds afterwards
pub mod SheetOutcomes
-- ---- demand 1: each number comes under its question, and under no other condition
pub mod SheetRefusals
-- ---- demands 2 and 3: the claim, and that it holds
pub mod FaithfulOnSheet
pub mod SheetTheorem
-- the tiles' roots add up to the outline's area
pub mod TilesAddUp
-- ---- a tile alone or on a sheet, as the calls of `corrections` have it
pub mod Sites
