-- A slanted walk in the quarters of a cell, in the order of its way. What holds, holds of every walk and square of the slope and the piece that the
-- recursion is handed.
--
-- Main results
--   way_order                                    the walk's order takes each quarter once
--   SlantedLoop                                  the table when the first q quarters on the way have had the edge
--   slanted_own                                  the table when the cell has added its own details
--   slanted_start, slanted_step, slanted_skip    before the first quarter; to the next, when one had the edge or was passed over
--   slanted_asks                                 what the call for a quarter asks for
--   slanted_end, slanted_last                    the cell has added all of the edge: after the fourth quarter, and on the last level
use mathlib.Core.Path.{◌≡◌, refl, sym, ◌∙◌, ap}
use mathlib.Core.List.{List, [], ◌∷◌}
use Prim.Native.Nat.{ℕ, suc, ◌+◌, ◌*◌, ◌/◌, ◌%◌, ◌<◌, ◌≤◌}
use lib.IntN.{ℤ, pos, negsuc, ◌+ℤ◌}
use lib.Signed.{◌≤ℤ◌, ◌<ℤ◌}
use Rattle.integers.proofs.Theorems.Ring.{read, ring}
use Rattle.integers.specs.RangeSum.{Σ<}
use Rattle.integers.proofs.Theorems.RangeSum.{Σ-zero, Σ-suc}
use Rattle.edge.specs.declared.Cell.{Cell as Square}
use Rattle.edge.specs.declared.Details.{Details}
use Rattle.edge.specs.WalkOf.{Course}
use Rattle.slanted.specs.declared.Slope.{Slope}
use Rattle.slanted.specs.declared.Piece.{Piece}
use Rattle.slanted.specs.Pieces.{rounded_details}
use Rattle.slanted.specs.Parts.{half_on, IsPart}
use Rattle.rasterize.specs.declared.Spot.{Spot}
use Rattle.rasterize.specs.Added.{added}
use Rattle.rasterize.specs.Nodes.{quarters, quarter_node}
use Rattle.rasterize.specs.Contribution.{first_detail, own_part}
use Rattle.rasterize.specs.Ready.{OnSheet}
use Rattle.rasterize.specs.Slanted.{node_on, Slants, quarter_on_way, quarter_spot, SlantedReady, SlantedAdds}
use Rattle.rasterize.proofs.Laws.OnSheet.{quarter_on_sheet}
use Rattle.rasterize.proofs.Laws.SlantedCells.{way_below, slants_details, slants_quarter, slants_outside}
use Rattle.rasterize.proofs.QuarterLoop.{Order, OwnAdded, QuarterLoop, own_added, own_end}
use Rattle.rasterize.proofs.QuarterLoop.{quarters_start, quarters_asks, quarters-step, quarters-skip, quarters_end}

-- ---- the order
four : (f : ℕ → ℤ) → Σ< 4 f ≡ f 0 +ℤ f 1 +ℤ f 2 +ℤ f 3
four f =
    Σ-suc 3 f ∙ ap (λ z. z +ℤ f 3) (Σ-suc 2 f ∙ ap (λ z. z +ℤ f 2) (Σ-suc 1 f ∙ ap (λ z. z +ℤ f 1) (Σ-suc 0 f ∙ ap (λ z. z +ℤ f 0) (Σ-zero f))))
    ∙ ring (f 0 ∷ f 1 ∷ f 2 ∷ f 3 ∷ []) (search read depth 40) tt

pub way_order : (l : Slope) → Order (quarter_on_way l)
unfolding half_on
way_order l = record { below = way_below l; whole = λ f. four (λ q. f (quarter_on_way l q)) ∙ same f l.x l.y ∙ sym (four f) }
  where
    at : ℤ → ℤ → ℕ → ℕ
    at s t q = half_on s (q % 2) + 2 * half_on t (q / 2)

    same : (f : ℕ → ℤ) (s t : ℤ) → f (at s t 0) +ℤ f (at s t 1) +ℤ f (at s t 2) +ℤ f (at s t 3) ≡ f 0 +ℤ f 1 +ℤ f 2 +ℤ f 3
    same f (pos s) (pos t) = refl
    same f (negsuc s) (pos t) = ring (f 0 ∷ f 1 ∷ f 2 ∷ f 3 ∷ []) (search read depth 40) tt
    same f (pos s) (negsuc t) = ring (f 0 ∷ f 1 ∷ f 2 ∷ f 3 ∷ []) (search read depth 40) tt
    same f (negsuc s) (negsuc t) = ring (f 0 ∷ f 1 ∷ f 2 ∷ f 3 ∷ []) (search read depth 40) tt

-- ---- the table on the way
-- `left` is the number of levels below the cell, `entry` the table when the cell has added its own details
pub record SlantedLoop (l : Slope) (p : Spot) (k : Piece) (left : ℕ) (entry table : List ℤ) (q : ℕ) : Type 0 where
  pub sums : {w : Course} {s : Square} → Slants w s l k → OnSheet w.edge (suc left) s → QuarterLoop (quarter_on_way l) w.edge (node_on p s) left entry table q

pub record SlantedOwn (l : Slope) (p : Spot) (k : Piece) (left : ℕ) (before entry : List ℤ) : Type 0 where
  pub own : {w : Course} {s : Square} → Slants w s l k → OnSheet w.edge (suc left) s → OwnAdded w.edge (node_on p s) before entry

module _ {l : Slope} {p : Spot} {k : Piece} where
  pub slanted_own : {left : ℕ} {before entry : List ℤ} {w : Details} {first : ℕ} → k.first <ℤ k.last → w ≡ rounded_details l k → first ≡ first_detail (node_on p (record { left = pos 0; top = pos 0; width = pos 0 }))
      → entry ≡ added before (own_part w first) → SlantedOwn l p k left before entry
  slanted_own i d f e = record { own = λ h o. own_added (d ∙ slants_details h o i) f e }

  pub slanted_start : (left : ℕ) (entry : List ℤ) → SlantedLoop l p k left entry entry 0
  slanted_start left entry = record { sums = λ h o. quarters_start (quarter_on_way l) left entry }

  module _ {left : ℕ} {before entry : List ℤ} (own : SlantedOwn l p k left before entry) where
    pub slanted_end : {table : List ℤ} {q : ℕ} → quarters ≤ q → SlantedLoop l p k left entry table q → SlantedAdds before table l p k (suc left)
    slanted_end h g = record { adds = λ s o. quarters_end (own.own s o) (way_order l) h (g.sums s o) }

    pub slanted_last : left ≡ 0 → SlantedAdds before entry l p k (suc left)
    slanted_last z = record { adds = λ s o. own_end (own.own s o) z }

-- ---- with levels below
module _ {l : Slope} {p : Spot} {k : Piece} {left : ℕ} {entry table : List ℤ} {q : ℕ} (g : SlantedLoop l p k (suc left) entry table q) (h : q < quarters)
    {r : Piece} (part : IsPart k q r) where
  pub slanted_step : {after : List ℤ} → SlantedAdds table after l (quarter_spot p (quarter_on_way l q)) r (suc left) → SlantedLoop l p k (suc left) entry after (q + 1)
  slanted_step a = record {
    sums = λ s o. quarters-step (g.sums s o) h refl
        (a.adds (slants_quarter s o p q h part) (quarter_on_sheet (node_on p _) (quarter_on_way l q) (way_below l q h) o));
  }

  pub slanted_skip : {after : List ℤ} → r.last ≤ℤ r.first → after ≡ table → SlantedLoop l p k (suc left) entry after (q + 1)
  slanted_skip e t = record {
    sums = λ s o. quarters-skip o (way_order l) (g.sums s o) h refl (slants_outside (slants_quarter s o p q h part) e) t;
  }

  module _ {before : List ℤ} (m : SlantedReady before l p k (suc (suc left))) (own : SlantedOwn l p k (suc left) before entry) where
    pub slanted_asks : r.first <ℤ r.last → SlantedReady table l (quarter_spot p (quarter_on_way l q)) r (suc left)
    slanted_asks i = record {
      walk = m.walk;
      square = (quarter_node (node_on p m.square) (quarter_on_way l q)).square;
      slants = slants_quarter m.slants m.ready.on_sheet p q h part;
      inside = i;
      ready = quarters_asks m.ready (own.own m.slants m.ready.on_sheet) (way_order l) (g.sums m.slants m.ready.on_sheet) h refl;
    }
