-- What an edge adds in a cell and below it: it is bounded, and nothing where no part of the edge lies inside.
--
-- Main results
--   own_within, own_zero                             how much a cell's own details add to an entry; details that are 0 add nothing
--   contribution-zero, contribution-suc              what an edge adds on no levels, and on one more
--   contribution_outside                             an edge with no part inside a cell adds nothing in it or below it
--   contribution-quarter                             and one that lies in a quarter of it adds nothing in the other three
--   contribution_within                              to an entry an edge adds at most a detail for each cell that it visits
use Rattle.std.specs.Prelude.{◌≡◌, refl, ℕ, zero, suc, ◌+◌, ◌*◌, ◌-◌, ◌<◌, pos, ◌+ℤ◌, ◌*ℤ◌}
use Rattle.std.proofs.Common.{sym, ◌∙◌, ap, ap₂, arith}
use Rattle.integers.specs.Units.{detail_limit}
use Rattle.integers.specs.Within.{Within}
use Rattle.integers.proofs.Theorems.Within.{within_is, within_zero, within_add}
use Rattle.integers.specs.RangeSum.{Σ<}
use Rattle.integers.proofs.Theorems.RangeSum.{Σ_cong, Σ_const, Σ_one, Σ_within}
use Rattle.edge.specs.declared.Edge.{Edge}
use Rattle.edge.specs.declared.Details.{Details}
use Rattle.edge.specs.Inside.{Inside}
use Rattle.edge.specs.Rounded.{details}
use Rattle.edge.specs.Nested.{OnCell}
use Rattle.edge.proofs.Laws.Zero.{details-zero}
use Rattle.accuracy.proofs.Laws.Numbered.{numbered_any}
use Rattle.rasterize.specs.declared.Node.{Node}
use Rattle.rasterize.specs.Nodes.{quarters, quarter_node}
use Rattle.rasterize.specs.Contribution.{first_detail, own_part, contribution}
use Rattle.rasterize.specs.Ready.{visits, SmallDetails, OnSheet}
use Rattle.rasterize.proofs.Laws.OnSheet.{on_sheet_width, on_sheet_details, quarter_on_sheet, quarter_outside, quarter-beside}

-- ---- a cell's own details
pub own_within : {w : Details} → SmallDetails w → (first i : ℕ) → Within (pos detail_limit) (own_part w first i)
own_within {w} s first i = numbered_any (Within (pos detail_limit)) w (within_zero detail_limit) s.h s.v s.d (suc i - first)

pub own_zero : (first i : ℕ) → own_part (record { h = pos 0; v = pos 0; d = pos 0 }) first i ≡ pos 0
own_zero first i = numbered_any (λ z. z ≡ pos 0) (record { h = pos 0; v = pos 0; d = pos 0 }) refl refl refl refl (suc i - first)

-- ---- what an edge adds
pub contribution-zero : (e : Edge) (c : Node) (i : ℕ) → contribution e 0 c i ≡ pos 0
unfolding contribution
contribution-zero e c i = refl

pub contribution-suc : (e : Edge) (left : ℕ) (c : Node) (i : ℕ)
    → contribution e (suc left) c i ≡ own_part (details e c.square) (first_detail c) i +ℤ Σ< quarters (λ q. contribution e left (quarter_node c q) i)
unfolding contribution
contribution-suc e left c i = refl

pub contribution_outside : {e : Edge} (left : ℕ) (c : Node) → OnSheet e left c.square → (Inside e c.square → ⊥) → (i : ℕ) → contribution e left c i ≡ pos 0
contribution_outside {e} zero c p out i = contribution-zero e c i
contribution_outside {e} (suc left) c p out i =
    contribution-suc e left c i
    ∙ ap₂ ◌+ℤ◌ (ap (λ w. own_part w (first_detail c) i) (details-zero e c.square (on_sheet_width p) out) ∙ own_zero (first_detail c) i)
    (Σ_cong quarters (λ q. contribution e left (quarter_node c q) i) (λ q. pos 0)
    (λ q h. contribution_outside left (quarter_node c q) (quarter_on_sheet c q h p) (quarter_outside c q h p out) i)
    ∙ Σ_const quarters (pos 0))

-- an edge in one quarter adds nothing in the other three
pub contribution-quarter : {e : Edge} (left : ℕ) (c : Node) (q : ℕ) → q < quarters → OnSheet e (suc left) c.square → OnCell (quarter_node c q).square e → (i : ℕ)
    → contribution e (suc left) c i ≡ own_part (details e c.square) (first_detail c) i +ℤ contribution e left (quarter_node c q) i
contribution-quarter {e} left c q h p o i =
    contribution-suc e left c i
    ∙ ap (λ z. own_part (details e c.square) (first_detail c) i +ℤ z)
    (Σ_one quarters (λ r. contribution e left (quarter_node c r) i) q h
    (λ r k n. contribution_outside left (quarter_node c r) (quarter_on_sheet c r k p) (quarter-beside c q r h k n o) i))

pub contribution_within : {e : Edge} (left : ℕ) (c : Node) → OnSheet e left c.square → (i : ℕ)
    → Within (pos (visits left * detail_limit)) (contribution e left c i)
unfolding visits
contribution_within {e} zero c p i = within_is refl (sym (contribution-zero e c i)) (within_zero 0)
contribution_within {e} (suc left) c p i =
    within_is total (sym (contribution-suc e left c i))
    (within_add (own_within (on_sheet_details p) (first_detail c) i)
    (Σ_within quarters (λ q. contribution e left (quarter_node c q) i) (λ q h. contribution_within left (quarter_node c q) (quarter_on_sheet c q h p) i)))
  where
    total : pos detail_limit +ℤ pos quarters *ℤ pos (visits left * detail_limit) ≡ pos ((1 + quarters * visits left) * detail_limit)
    total = ap pos (omega arith)
