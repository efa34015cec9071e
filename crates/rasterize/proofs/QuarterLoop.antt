-- A cell quarter by quarter, in an order that takes each of them once. A quarter inside which no part of the edge lies is passed over, and nothing is
-- missed.
--
-- Main results
--   Order, as_numbered_lem                            such an order: all quarters together, whatever they add; that of their numbers
--   OwnAdded, own_added                               the table when the cell has added its own details
--   first_quarters, QuarterLoop                       what the first q quarters add; the table when they have had the edge too
--   quarters_start, quarters-step, quarters-skip      before the first quarter; to the next, when one had the edge or was passed over
--   own_spare, quarters_asks                          the room that is left for the quarters; what the call for one of them asks for
--   own_length, quarters-length                       the table is as long as it was
--   quarters_end, own_end                             the cell has added all of the edge: after the fourth quarter, and on the last level
--   not-inside_of_span                                no steps inside: no part of the edge lies inside
use mathlib.Core.Path.{◌≡◌, refl, sym, ◌∙◌, ap, ap₂, subst⁻¹}
use mathlib.Core.List.{List, [], ◌∷◌}
use Prim.Native.Nat.{ℕ, suc, ◌+◌, ◌*◌, ◌<◌, ◌≤◌}
use native.Mathlib.Omega.{arith}
use native.Mathlib.Numerals.{add-one}
use native.Mathlib.Nat.{mul-le-mul_right}
use lib.ListN.{length}
use lib.IntN.{ℤ, pos, ◌+ℤ◌}
use lib.Signed.{◌≤ℤ◌, ◌<ℤ◌}
use Rattle.integers.specs.Units.{detail_limit}
use Rattle.integers.proofs.Theorems.Linear.{le, lt, ◌&◌, linear, lin⊥}
use Rattle.integers.specs.Within.{Within}
use Rattle.integers.proofs.Theorems.Within.{within_is}
use Rattle.integers.specs.RangeSum.{Σ<}
use Rattle.integers.proofs.Theorems.RangeSum.{Σ-zero, Σ-suc, Σ_cong, Σ_const, Σ_within}
use Rattle.edge.specs.declared.Edge.{Edge}
use Rattle.edge.specs.declared.Cell.{Cell as Square}
use Rattle.edge.specs.declared.Details.{Details}
use Rattle.edge.specs.declared.Span.{Span}
use Rattle.edge.specs.Inside.{Inside}
use Rattle.edge.specs.Cuts.{span}
use Rattle.edge.specs.WalkOf.{Course, IsWalk}
use Rattle.edge.specs.Rounded.{details}
use Rattle.edge.proofs.Laws.WalkInside.{span_of_inside}
use Rattle.rasterize.specs.declared.Node.{Node}
use Rattle.rasterize.specs.Added.{added}
use Rattle.rasterize.specs.Nodes.{quarters, quarter_node}
use Rattle.rasterize.specs.Contribution.{first_detail, own_part, contribution}
use Rattle.rasterize.specs.Ready.{visits, Spare, OnSheet, Ready}
use Rattle.rasterize.proofs.Laws.Adding.{added-length, added-both, added_none}
use Rattle.rasterize.proofs.Laws.Spare.{spare_le, spare_added}
use Rattle.rasterize.proofs.Laws.OnSheet.{on_sheet_details, quarter_on_sheet}
use Rattle.rasterize.proofs.Laws.Contributions.{own_within, contribution-zero, contribution-suc, contribution_outside, contribution_within}
use Rattle.rasterize.proofs.Laws.ReadyCells.{ready-quarter}

-- ---- which quarter comes when
pub record Order (order : ℕ → ℕ) : Type 0 where
  pub below : (q : ℕ) → q < quarters → order q < quarters
  pub whole : (f : ℕ → ℤ) → Σ< quarters (λ q. f (order q)) ≡ Σ< quarters f

abbrev pub as_numbered : ℕ → ℕ
as_numbered q = q

pub as_numbered_lem : Order as_numbered
as_numbered_lem = record { below = λ q h. h; whole = λ f. refl }

-- ---- the table on the way
module _ (order : ℕ → ℕ) (e : Edge) (c : Node) where
  -- what the first q quarters add, with everything below them
  abbrev pub first_quarters : ℕ → ℕ → ℕ → ℤ
  first_quarters left q i = Σ< q (λ p. contribution e left (quarter_node c (order p)) i)

module _ (e : Edge) (c : Node) where
  -- what the cell's own details add
  abbrev own : ℕ → ℤ
  own i = own_part (details e c.square) (first_detail c) i

  pub record OwnAdded (before entry : List ℤ) : Type 0 where
    pub sum : entry ≡ added before (own)

-- `entry` is the table when the cell has added its own details, `left` the number of levels below the cell
pub record QuarterLoop (order : ℕ → ℕ) (e : Edge) (c : Node) (left : ℕ) (entry table : List ℤ) (q : ℕ) : Type 0 where
  pub reached : q ≤ quarters
  pub sum : table ≡ added entry (first_quarters order e c left q)

module _ {e : Edge} {c : Node} where
  pub own_added : {before entry : List ℤ} {w : Details} {first : ℕ} → w ≡ details e c.square → first ≡ first_detail c
      → entry ≡ added before (own_part w first) → OwnAdded e c before entry
  own_added {before} f g h = record { sum = h ∙ ap₂ (λ w first. added before (own_part w first)) f g }

  pub own_length : {before entry : List ℤ} → OwnAdded e c before entry → length entry ≡ length before
  own_length {before} o = ap length o.sum ∙ added-length before (own e c)

  pub quarters_start : (order : ℕ → ℕ) (left : ℕ) (entry : List ℤ) → QuarterLoop order e c left entry entry 0
  quarters_start order left entry = record {
    reached = omega arith;
    sum = sym (added_none entry (first_quarters order e c left 0) (λ i. Σ-zero (λ p. contribution e left (quarter_node c (order p)) i)));
  }

  module _ {order : ℕ → ℕ} {left : ℕ} {entry table : List ℤ} {q : ℕ} (g : QuarterLoop order e c left entry table q) where
    pub quarters-length : length table ≡ length entry
    quarters-length = ap length g.sum ∙ added-length entry (first_quarters order e c left q)

    pub quarters-step : {quarter : Node} {after : List ℤ} → q < quarters → quarter ≡ quarter_node c (order q)
        → after ≡ added table (contribution e left quarter) → QuarterLoop order e c left entry after (q + 1)
    quarters-step {quarter} {after} h k s = record {
      reached = omega arith;
      sum = s
          ∙ ap₂ (λ t n. added t (contribution e left n)) g.sum k
          ∙ added-both entry (first_quarters order e c left q) (contribution e left (quarter_node c (order q))) (first_quarters order e c left (q + 1)) (λ i l. next i);
    }
      where
        next : (i : ℕ) → first_quarters order e c left q i +ℤ contribution e left (quarter_node c (order q)) i ≡ first_quarters order e c left (q + 1) i
        next i = let f : ℕ → ℤ = λ p. contribution e left (quarter_node c (order p)) i in sym (ap (λ n. Σ< n f) (add-one q) ∙ Σ-suc q f)

  -- ---- the cell has added all of the edge
  module _ {left : ℕ} {before entry : List ℤ} (o : OwnAdded e c before entry) where
    pub quarters_end : {order : ℕ → ℕ} {table : List ℤ} {q : ℕ} → Order order → quarters ≤ q → QuarterLoop order e c left entry table q
        → table ≡ added before (contribution e (suc left) c)
    quarters_end {order} {table} {q} once h g =
        let all : q ≡ quarters = omega (arith, g.reached) in
        g.sum
        ∙ ap₂ (λ t n. added t (first_quarters order e c left n)) o.sum all
        ∙ added-both before (own e c) (first_quarters order e c left quarters) (contribution e (suc left) c)
        (λ i l. ap (λ z. own e c i +ℤ z) (once.whole (λ p. contribution e left (quarter_node c p) i)) ∙ sym (contribution-suc e left c i))

    -- below the last level nothing is added
    pub own_end : left ≡ 0 → entry ≡ added before (contribution e (suc left) c)
    own_end z = quarters_end {q = quarters} as_numbered_lem (omega arith) (record {
      reached = omega arith;
      sum = sym (added_none entry (first_quarters as_numbered e c left quarters) none);
    })
      where
        none : (i : ℕ) → first_quarters as_numbered e c left quarters i ≡ pos 0
        none i =
            Σ_cong quarters (λ p. contribution e left (quarter_node c p) i) (λ p. pos 0)
            (λ p l. ap (λ n. contribution e n (quarter_node c p) i) z ∙ contribution-zero e (quarter_node c p) i)
            ∙ Σ_const quarters (pos 0)

-- ---- a quarter that the edge does not come into
pub not-inside_of_span : {w : Course} {s : Span} (cell : Square) → IsWalk w → s ≡ span w.x w.y cell w.steps
    → s.last ≤ℤ s.first → Inside w.edge cell → ⊥
not-inside_of_span {w} {s} cell k e h i =
    lin⊥ (s.first ∷ s.last ∷ []) (le h & lt (subst⁻¹ (λ (z : Span). z.first <ℤ z.last) e (span_of_inside k cell i))) (search linear depth 40) tt

pub quarters-skip : {order : ℕ → ℕ} {e : Edge} {c : Node} {left : ℕ} {entry table after : List ℤ} {q : ℕ} {quarter : Node}
    → OnSheet e (suc left) c.square → Order order → QuarterLoop order e c left entry table q → q < quarters → quarter ≡ quarter_node c (order q)
    → (Inside e quarter.square → ⊥) → after ≡ table → QuarterLoop order e c left entry after (q + 1)
quarters-skip {order} {e} {c} {left} {entry} {table} {after} {q} {quarter} o once g h k out s =
    quarters-step g h k (s ∙ sym (added_none table (contribution e left quarter) none))
  where
    none : (i : ℕ) → contribution e left quarter i ≡ pos 0
    none = contribution_outside left quarter (subst⁻¹ (λ n. OnSheet e left n.square) k (quarter_on_sheet c (order q) (once.below q h) o)) out

-- ---- of a table, an edge and a cell that the call was ready for
module _ {before : List ℤ} {e : Edge} {left : ℕ} {c : Node} (r : Ready before e (suc left) c) where
  module _ {entry : List ℤ} (o : OwnAdded e c before entry) where
    -- the cell's own details have used up the room for one
    pub own_spare : Spare entry (quarters * visits left)
    unfolding visits
    own_spare = subst⁻¹ (λ t. Spare t (quarters * visits left)) o.sum
        (spare_added 1 (quarters * visits left) (own e c)
        (λ i h. own_within (on_sheet_details r.on_sheet) (first_detail c) i) r.spare)

    -- each quarter before this one has used up its own
    pub quarters_asks : {order : ℕ → ℕ} {table : List ℤ} {q : ℕ} {quarter : Node} → Order order → QuarterLoop order e c left entry table q → q < quarters
        → quarter ≡ quarter_node c (order q) → Ready table e left quarter
    quarters_asks {order} {table} {q} once g h k = subst⁻¹ (Ready table e left) k
        (ready-quarter r (order q) (once.below q h) (quarters-length g ∙ own_length o) (subst⁻¹ (λ t. Spare t (visits left)) g.sum
        (spare_added (q * visits left) (visits left) (first_quarters order e c left q) (λ i l. used i)
        (spare_le (omega (arith, mul-le-mul_right (visits left) h)) own_spare))))
      where
        used : (i : ℕ) → Within (pos (q * visits left * detail_limit)) (first_quarters order e c left q i)
        used i = within_is (ap pos {y = q * visits left * detail_limit} (omega arith)) refl
            (Σ_within q (λ p. contribution e left (quarter_node c (order p)) i)
            (λ p l. contribution_within left (quarter_node c (order p)) (quarter_on_sheet c (order p) (once.below p (omega arith)) r.on_sheet) i))
