-- A run of edges in one cell, in the cells above it.
--
-- Main results
--   parent_on, details-parent        an edge in a cell lies in its parent, and its details there are those by numbers
--   on_ancestor, in_ancestor         what lies in a cell lies in each cell above it, and there in the quarter of `half_at`
--   details-ancestor                 so its details there are those by numbers
--   above_zero, above-suc            no cells above the tile; above a cell of the next level: its parent, and the cells above that
--   above_join                       an edge after a run: the new chord, and the run's area with the triangle's
--   above_none                       a point adds nothing
use Rattle.std.specs.Prelude.{◌≡◌, [], ◌∷◌, ℕ, zero, suc, ◌-◌, ◌/◌, ◌%◌, ◌^◌, ◌<◌, ◌≤◌, ℤ, pos, ◌+ℤ◌}
use Rattle.std.proofs.Common.{sym, ◌∙◌, ap, ap₂, subst, arith, pow-suc, div-one}
use Rattle.std.proofs.Math.Nat.{pow-succ', div-div-eq-div-mul}
use Rattle.integers.proofs.Theorems.Ring.{read, ring, comb}
use Rattle.integers.proofs.Theorems.Order.{nonneg, ≤ℤ_trans}
use Rattle.integers.proofs.Theorems.RangeSum.{Σ-zero, Σ-suc, Σ_cong, Σ-add}
use Rattle.edge.specs.declared.Edge.{Edge}
use Rattle.edge.specs.declared.Cell.{Cell as Square}
use Rattle.edge.specs.Rounded.{details, root_term}
use Rattle.edge.specs.Nested.{quarter, Contains, OnCell}
use Rattle.edge.proofs.Laws.Cells.{contains_quarter}
use Rattle.haar.specs.Plane.{at}
use Rattle.accuracy.specs.Outline.{Point, edge_between}
use Rattle.accuracy.specs.Tile.{cell_width, square}
use Rattle.accuracy.proofs.Laws.Squares.{cell_width-halves, square-quarter}
use Rattle.rasterize.specs.Nodes.{node_at}
use Rattle.rasterize.specs.Contribution.{first_detail}
use Rattle.contours.specs.Runs.{ancestor, half_at, part_in, level_part, above, triangle, details_in}
use Rattle.contours.specs.Laws.RunDetails.{details_in_quarter, details-join}

-- ---- up the quadtree
div_pow_suc : (x n : ℕ) → x / 2 ^ suc n ≡ x / 2 ^ n / 2
div_pow_suc x n = ap (λ m. x / m) (pow-suc 2 n) ∙ sym (div-div-eq-div-mul x (2 ^ n) 2)

on_wider : {c b : Square} {e : Edge} → Contains c b → OnCell b e → OnCell c e
on_wider {c} {b} {e} k o = record {
  x0 = record { low = ≤ℤ_trans k.left o.x0.low; high = ≤ℤ_trans o.x0.high k.right };
  y0 = record { low = ≤ℤ_trans k.top o.y0.low; high = ≤ℤ_trans o.y0.high k.bottom };
  x1 = record { low = ≤ℤ_trans k.left o.x1.low; high = ≤ℤ_trans o.x1.high k.right };
  y1 = record { low = ≤ℤ_trans k.top o.y1.low; high = ≤ℤ_trans o.y1.high k.bottom };
}

-- in one cell of the next level, and so in a quarter of this one
parent-quarter : {e : Edge} {depth : ℕ} (j x y : ℕ) → j < depth → OnCell (square depth (suc j) (at x y)) e
    → OnCell (quarter (square depth j (at (x / 2) (y / 2))) (pos (cell_width depth (suc j))) (x % 2) (y % 2)) e
parent-quarter {e} {depth} j x y h o = subst (λ s. OnCell s e) (square-quarter depth j x y h) o

pub details-parent : {e : Edge} {depth : ℕ} (j x y : ℕ) → j < depth → OnCell (square depth (suc j) (at x y)) e
    → details e (node_at depth j (x / 2) (y / 2)).square ≡ details_in e (node_at depth j (x / 2) (y / 2)).square (x % 2) (y % 2)
details-parent {e} {depth} j x y h o =
    details_in_quarter e (node_at depth j (x / 2) (y / 2)).square (x % 2) (y % 2) (omega arith) (omega arith) (cell_width-halves depth j h)
    (nonneg (cell_width depth (suc j))) (parent-quarter j x y h o)

pub parent_on : {e : Edge} {depth : ℕ} (j x y : ℕ) → j < depth → OnCell (square depth (suc j) (at x y)) e → OnCell (square depth j (at (x / 2) (y / 2))) e
parent_on {e} {depth} j x y h o =
    let w = cell_width depth (suc j) in
    on_wider (contains_quarter (square depth j (at (x / 2) (y / 2))) (pos w) (cell_width-halves depth j h) (nonneg w) (x % 2) (y % 2) (omega arith) (omega arith))
    (parent-quarter j x y h o)

module _ {e : Edge} {depth : ℕ} (K x y : ℕ) (k : K ≤ depth) (o : OnCell (square depth K (at x y)) e) where
  -- n levels up
  up : (n : ℕ) → n ≤ K → OnCell (square depth (K - n) (at (x / 2 ^ n) (y / 2 ^ n))) e
  up zero h =
      let same : K ≡ K - 0 = omega arith in
      subst (λ s. OnCell s e)
      (ap (λ j. square depth j (at x y)) same ∙ ap₂ (λ a b. square depth (K - 0) (at a b)) (sym (div-one x)) (sym (div-one y))) o
  up (suc n) h =
      let next : K - n ≡ suc (K - suc n) = omega arith in
      subst (λ s. OnCell s e) (ap₂ (λ a b. square depth (K - suc n) (at a b)) (sym (div_pow_suc x n)) (sym (div_pow_suc y n)))
      (parent_on (K - suc n) (x / 2 ^ n) (y / 2 ^ n) (omega arith) (subst (λ j. OnCell (square depth j (at (x / 2 ^ n) (y / 2 ^ n))) e) next (up n (omega arith))))

  pub on_ancestor : (j : ℕ) → j ≤ K → OnCell (ancestor depth K x y j).square e
  on_ancestor j h =
      let back : K - (K - j) ≡ j = omega arith in
      subst (λ l. OnCell (square depth l (at (x / 2 ^ (K - j)) (y / 2 ^ (K - j)))) e) back (up (K - j) (omega arith))

  pub in_ancestor : (j : ℕ) → j < K → OnCell (quarter (ancestor depth K x y j).square (pos (cell_width depth (suc j))) (half_at K x j) (half_at K y j)) e
  in_ancestor j h =
      let n = K - suc j in
      let next : suc n ≡ K - j = omega arith in
      subst (λ s. OnCell (quarter s (pos (cell_width depth (suc j))) (half_at K x j) (half_at K y j)) e)
      (ap₂ (λ a b. square depth j (at a b)) (sym (div_pow_suc x n)) (sym (div_pow_suc y n)) ∙ ap (λ m. square depth j (at (x / 2 ^ m) (y / 2 ^ m))) next)
      (parent-quarter j (x / 2 ^ n) (y / 2 ^ n) (omega arith) (on_ancestor (suc j) h))

  -- ---- by numbers
  pub details-ancestor : (j : ℕ) → j < K
      → details e (ancestor depth K x y j).square ≡ details_in e (ancestor depth K x y j).square (half_at K x j) (half_at K y j)
  details-ancestor j h =
      details_in_quarter e (ancestor depth K x y j).square (half_at K x j) (half_at K y j) (omega arith) (omega arith) (cell_width-halves depth j (omega arith))
      (nonneg (cell_width depth (suc j))) (in_ancestor j h)

-- ---- level by level
pub above_zero : (e : Edge) (a : ℤ) (depth x y i : ℕ) → above e a depth 0 x y i ≡ pos 0
above_zero e a depth x y i = Σ-zero (λ j. level_part e a depth 0 x y j i)

pub above-suc : (e : Edge) (a : ℤ) (depth K x y i : ℕ)
    → above e a depth (suc K) x y i ≡ above e a depth K (x / 2) (y / 2) i +ℤ part_in e a (node_at depth K (x / 2) (y / 2)) (x % 2) (y % 2) i
above-suc e a depth K x y i =
    Σ-suc K (λ j. level_part e a depth (suc K) x y j i)
    ∙ ap₂ ◌+ℤ◌ (Σ_cong K (λ j. level_part e a depth (suc K) x y j i) (λ j. level_part e a depth K (x / 2) (y / 2) j i) higher) last
  where
    -- the numbers of a cell, and the quarter
    part : (j p q u v : ℕ) → ℤ
    part j p q u v = part_in e a (node_at depth j p q) u v i

    from-parent : (n m : ℕ) → m ≡ suc n → (z : ℕ) → z / 2 ^ m ≡ z / 2 / 2 ^ n
    from-parent n m h z = ap (λ k. z / 2 ^ k) h ∙ ap (λ k. z / k) (pow-succ' 2 n) ∙ sym (div-div-eq-div-mul z 2 (2 ^ n))

    higher : (j : ℕ) → j < K → level_part e a depth (suc K) x y j i ≡ level_part e a depth K (x / 2) (y / 2) j i
    higher j h =
        let up = from-parent (K - j) (suc K - j) (omega arith) in
        let down = from-parent (K - suc j) (suc K - suc j) (omega arith) in
        ap₂ (λ p q. part j p q (half_at (suc K) x j) (half_at (suc K) y j)) (up x) (up y)
        ∙ ap₂ (λ p q. part j (x / 2 / 2 ^ (K - j)) (y / 2 / 2 ^ (K - j)) (p % 2) (q % 2)) (down x) (down y)

    last : level_part e a depth (suc K) x y K i ≡ part K (x / 2) (y / 2) (x % 2) (y % 2)
    last =
        let one : suc K - K ≡ 1 = omega arith in
        let none : suc K - suc K ≡ 0 = omega arith in
        ap (λ n. part K (x / 2 ^ n) (y / 2 ^ n) (half_at (suc K) x K) (half_at (suc K) y K)) one
        ∙ ap (λ n. part K (x / 2) (y / 2) (x / 2 ^ n % 2) (y / 2 ^ n % 2)) none
        ∙ ap₂ (λ p q. part K (x / 2) (y / 2) (p % 2) (q % 2)) (div-one x) (div-one y)

-- ---- a run, edge by edge
pub above_join : {depth : ℕ} (K x y : ℕ) → K ≤ depth → {s m t : Point} (a : ℤ) → OnCell (square depth K (at x y)) (edge_between s m)
    → OnCell (square depth K (at x y)) (edge_between m t) → (i : ℕ)
    → above (edge_between s m) a depth K x y i +ℤ above (edge_between m t) (pos 0) depth K x y i
    ≡ above (edge_between s t) (a +ℤ triangle s m t) depth K x y i
above_join {depth} K x y k {s} {m} {t} a o p i =
    sym (Σ-add K (λ j. level_part (edge_between s m) a depth K x y j i) (λ j. level_part (edge_between m t) (pos 0) depth K x y j i))
    ∙ Σ_cong K (λ j. level_part (edge_between s m) a depth K x y j i +ℤ level_part (edge_between m t) (pos 0) depth K x y j i)
    (λ j. level_part (edge_between s t) (a +ℤ triangle s m t) depth K x y j i) level
  where
    level : (j : ℕ) → j < K
        → level_part (edge_between s m) a depth K x y j i +ℤ level_part (edge_between m t) (pos 0) depth K x y j i
        ≡ level_part (edge_between s t) (a +ℤ triangle s m t) depth K x y j i
    level j h =
        details-join (ancestor depth K x y j).square (half_at K x j) (half_at K y j) (omega arith) (omega arith) s m t a (cell_width-halves depth j (omega arith))
        (nonneg (cell_width depth (suc j))) (in_ancestor K x y k o j h) (in_ancestor K x y k p j h) (suc i - first_detail (ancestor depth K x y j))

-- three times one point
triangle_none : (s : Point) → pos 0 +ℤ triangle s s s ≡ pos 0
unfolding root_term
triangle_none s = ring (s.x ∷ s.y ∷ []) (search read depth 40) tt

-- joined to itself it is itself again
pub above_none : {depth : ℕ} (K x y : ℕ) → K ≤ depth → {s : Point} → OnCell (square depth K (at x y)) (edge_between s s) → (i : ℕ)
    → above (edge_between s s) (pos 0) depth K x y i ≡ pos 0
above_none {depth} K x y k {s} o i =
    comb (above (edge_between s s) (pos 0) depth K x y i ∷ [])
    (above_join K x y k (pos 0) o o i ∙ ap (λ a. above (edge_between s s) a depth K x y i) (triangle_none s)) (search read depth 40) tt
