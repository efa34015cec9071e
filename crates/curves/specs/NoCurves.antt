-- With every mark 0, building with marks is building without: the edges are the same, an outline is accepted by the one where it is by the other, and then answer
-- and table are the same. (Where it is refused the number may be another: 5 comes before 3 there, and after 6 here.) Of putting in and taking out it is said by
-- `no_curves_call` of `CurvedSeriesTheorem`.
--
-- Definitions
--   zeros counts                 a mark 0 for each edge
-- Main results (the laws among them are in proofs/Theorems/NoCurves.antt)
--   marks_yes                    zeros are marks
--   no_curves_edges              the edges of an outline
--   no_curves_alone,
--   no_curves_on_sheet           building accepts it, with marks or without
--   no_curves_alone_same,
--   no_curves_on_sheet_same      and then it answers and leaves the same
use Rattle.std.specs.Prelude.{List, ℕ, replicate}
use Rattle.accuracy.specs.Outline.{edge_count}

abbrev pub zeros : List ℕ → List ℕ
zeros counts = replicate (edge_count counts) 0
