-- The edges of a contour by their numbers: edge k runs from point k to the next one.
--
-- Main results
--   next_within, next_last       the point after k: k + 1, and after the last the first
--   next_lt                      it is one of the points
--   contour_edges_entry          they are a contour's edges
--   contour_edges-sum            so a sum over a contour's edges is the sum over their numbers
--   edge_of-has                  and what is known of all of them is known of each
use Rattle.std.specs.Prelude.{◌≡◌, refl, cond, List, [], ◌∷◌, ◌++◌, ℕ, zero, suc, ◌+◌, ◌/◌, ◌<◌, ◌≤◌, length, get_or, ℤ, pos}
use Rattle.std.proofs.Common.{sym, ◌∙◌, ap, ap₂, subst, arith, add-one, lt-ltb, le-ltb}
use Rattle.std.proofs.Math.Decide.{dec_lt}
use Rattle.std.proofs.Math.ListN.{get_or-append}
use Rattle.std.proofs.lemmas.List.{get_or_at}
use Rattle.integers.specs.ListSum.{All, total}
use Rattle.integers.proofs.Theorems.ListSum.{all_entry, total-entries}
use Rattle.integers.specs.RangeSum.{Σ<}
use Rattle.integers.proofs.Theorems.RangeSum.{Σ_cong}
use Rattle.edge.specs.declared.Edge.{Edge}
use Rattle.accuracy.specs.Outline.{Point, points_of, edge_between, through, contour_edges}
use Rattle.accuracy.proofs.Laws.Contours.{contour_edges-length}
use Rattle.accuracy.proofs.Laws.Coordinates.{points_of-length, points_of_entry}
use Rattle.contours.specs.Contour.{next, edge_of}

-- ---- the next point
module _ (n k : ℕ) where
  pub next_within : k + 1 < n → next n k ≡ k + 1
  next_within h = ap (λ b. cond b (k + 1) 0) (lt-ltb (k + 1) n h)

  pub next_last : n ≤ k + 1 → next n k ≡ 0
  next_last h = ap (λ b. cond b (k + 1) 0) (le-ltb (k + 1) n h)

  pub next_lt : k < n → next n k < n
  next_lt h = elim (dec_lt (k + 1) n) [ yes l ↦ omega (arith, next_within l) | no l ↦ (let m : n ≤ k + 1 = omega arith in omega (arith, next_last m)) ]

-- a point that no list is asked for
abbrev none : Point
none = record { x = pos 0; y = pos 0 }

-- ---- the edges
-- in a contour the last edge ends at the first point
next_entry : (p : Point) (ps : List Point) (k : ℕ) → k < suc (length ps) → get_or (ps ++ (p ∷ [])) k none ≡ get_or (p ∷ ps) (next (suc (length ps)) k) none
next_entry p ps k h = elim (dec_lt k (length ps)) [ yes l ↦ within l | no l ↦ after (omega arith) ]
  where
    within : k < length ps → get_or (ps ++ (p ∷ [])) k none ≡ get_or (p ∷ ps) (next (suc (length ps)) k) none
    within l =
        get_or-append ps (p ∷ []) none k l
        ∙ ap (λ i. get_or (p ∷ ps) i none) {x = suc k} (sym (add-one k) ∙ sym (next_within (suc (length ps)) k (omega arith)))

    after : length ps ≡ k → get_or (ps ++ (p ∷ [])) k none ≡ get_or (p ∷ ps) (next (suc (length ps)) k) none
    after e = get_or_at ps p [] none k e ∙ ap (λ i. get_or (p ∷ ps) i none) {x = 0} (sym (next_last (suc (length ps)) k (omega arith)))

-- an edge that no list is asked for
abbrev no_edge : Edge
no_edge = edge_between none none

-- edge k starts at point k of `p ∷ qs`, and ends at the one after it, or at the last
through_entry : (p : Point) (qs : List Point) (last : Point) (k : ℕ) → k < suc (length qs)
    → get_or (through p qs last) k no_edge ≡ edge_between (get_or (p ∷ qs) k none) (get_or (qs ++ (last ∷ [])) k none)
unfolding through
through_entry p [] last zero h = refl
through_entry p [] last (suc k) h = absurd (omega arith)
through_entry p (q ∷ qs) last zero h = refl
through_entry p (q ∷ qs) last (suc k) h = through_entry q qs last k (omega arith)

contour_entry : (ps : List Point) (k : ℕ) → k < length ps → get_or (contour_edges ps) k no_edge ≡ edge_between (get_or ps k none) (get_or ps (next (length ps) k) none)
unfolding contour_edges
contour_entry [] k h = absurd (omega arith)
contour_entry (p ∷ ps) k h = through_entry p ps p k h ∙ ap (edge_between (get_or (p ∷ ps) k none)) (next_entry p ps k h)

-- of a contour's list of coordinates
module _ (l : List ℤ) where
  abbrev points : ℕ
  points = length l / 2

  edges_length : length (contour_edges (points_of l)) ≡ points
  edges_length = contour_edges-length (points_of l) ∙ points_of-length l

  pub contour_edges_entry : (k : ℕ) → k < points → get_or (contour_edges (points_of l)) k no_edge ≡ edge_of l points k
  contour_edges_entry k h =
      contour_entry (points_of l) k (omega (arith, points_of-length l))
      ∙ ap (λ n. edge_between (get_or (points_of l) k none) (get_or (points_of l) (next n k) none)) (points_of-length l)
      ∙ ap₂ edge_between (points_of_entry none l k h) (points_of_entry none l (next points k) (next_lt points k h))

  pub contour_edges-sum : (f : Edge → ℤ) → total f (contour_edges (points_of l)) ≡ Σ< points (λ k. f (edge_of l points k))
  contour_edges-sum f =
      total-entries f no_edge (contour_edges (points_of l)) ∙ ap (λ n. Σ< n (λ k. f (get_or (contour_edges (points_of l)) k no_edge))) edges_length
      ∙ Σ_cong points (λ k. f (get_or (contour_edges (points_of l)) k no_edge)) (λ k. f (edge_of l points k)) (λ k h. ap f (contour_edges_entry k h))

  -- what is known of all edges is known of each
  pub edge_of-has : (P : Edge → Type 0) → All P (contour_edges (points_of l)) → (k : ℕ) → k < points → P (edge_of l points k)
  edge_of-has P all k h = subst P (contour_edges_entry k h) (all_entry P no_edge (contour_edges (points_of l)) all k (omega (arith, edges_length)))
