-- Two accepted outlines, the edges of one those of the other, each walked backwards: the greys are the same.
use Rattle.std.specs.Prelude.{◌≡◌, List, ℕ, ℤ}
use Rattle.std.proofs.Common.{◌∙◌, ap}
use Rattle.accuracy.proofs.Laws.Reversal.{EdgesReversed}
use Rattle.tile.specs.Outcomes.{edges_of, build_refusal, build_table, greys_picture}
use Rattle.tile.proofs.Theorems.EitherWay.{opposite_greys, either_way_table}

module _ (side : ℕ) (points : List ℤ) (counts : List ℕ) (before points' : List ℤ) (counts' : List ℕ) (other : List ℤ) where
  module _ (done : build_refusal side points counts before ≡ 0) (done' : build_refusal side points' counts' other ≡ 0)
      (back : EdgesReversed (edges_of points counts) (edges_of points' counts')) where
    pub either_way_greys : (level : ℕ) (picture : List ℕ)
        → greys_picture side level (build_table side points' counts' other) picture ≡ greys_picture side level (build_table side points counts before) picture
    either_way_greys level picture =
        ap (λ t. greys_picture side level t picture) (either_way_table side points counts before points' counts' other done done' back)
        ∙ opposite_greys side (build_table side points counts before) level picture
