-- Edges in one quarter of a cell: their details by numbers, and those of two edges, one after the other, and of their chord.
--
-- Main results
--   details_in_quarter           the details of an edge in quarter (i, j) of a square
--   on_cell_join                 the chord of two edges lies where they do
--   details-join                 those of two edges add up to those of their chord, with the triangle's area
use Rattle.std.specs.Prelude.{◌≡◌, refl, [], ◌∷◌, ℕ, zero, suc, ◌<◌, ℤ, negsuc, neg_ℤ, ◌+ℤ◌, ◌-ℤ◌, ◌*ℤ◌, ◌≤ℤ◌}
use Rattle.std.proofs.Common.{sym, ◌∙◌, ap, ap₂, arith}
use Rattle.std.proofs.Math.Path.{subst⁻¹}
use Rattle.std.proofs.Math.IntN.{pos}
use Rattle.integers.proofs.Theorems.Ring.{read, ring, comb, ◌⊗◌}
use Rattle.integers.proofs.Theorems.Linear.{le, eq, ◌&◌, linear, lin≤, lin≡}
use Rattle.integers.specs.HalfSign.{half_sign}
use Rattle.integers.specs.Magnitude.{abs}
use Rattle.integers.proofs.Theorems.Magnitude.{abs-nonneg}
use Rattle.edge.specs.declared.Edge.{Edge}
use Rattle.edge.specs.declared.Cell.{Cell as Square}
use Rattle.edge.specs.declared.Details.{Details}
use Rattle.edge.specs.Walk.{dx, dy}
use Rattle.edge.specs.Rounded.{details, root_term}
use Rattle.edge.specs.Nested.{quarter, OnRange, OnCell}
use Rattle.edge.specs.Code.{before_middle, half_with, turned}
use Rattle.edge.proofs.Lemmas.Records.{details-eq}
use Rattle.edge.proofs.Laws.Cells.{HalfView, first, second, half_view}
use Rattle.edge.proofs.Laws.InQuarter.{in_quarter}
use Rattle.accuracy.specs.Outline.{Point, edge_between}
use Rattle.accuracy.specs.ExactDetails.{numbered}
use Rattle.contours.specs.Runs.{with_area, triangle, from_half, details_in}

-- ---- one direction: p and q in half i of a range
-- Where their sum says half k, they lie in that too: on the middle they lie in both.
record Sides (side w half p q : ℤ) (i k : ℕ) : Type 0 where
  p_on : OnRange (side +ℤ pos k *ℤ half) half p
  q_on : OnRange (side +ℤ pos k *ℤ half) half q
  sum : w -ℤ abs (before_middle side w p q) ≡ from_half i side w p q
  turn : (t : ℤ) → turned k (t *ℤ (q -ℤ p)) ≡ turned i (t *ℤ (q -ℤ p))

module _ (side w half p q : ℤ) (m : w ≡ half +ℤ half) where
  abbrev u : ℤ
  u = before_middle side w p q

  sides : (i : ℕ) → i < 2 → OnRange (side +ℤ pos i *ℤ half) half p → OnRange (side +ℤ pos i *ℤ half) half q → Sides side w half p q i (half_with u)
  sides i l a b = go (half_view u) i l a b
    where
      go : HalfView u → (i : ℕ) → i < 2 → OnRange (side +ℤ pos i *ℤ half) half p → OnRange (side +ℤ pos i *ℤ half) half q → Sides side w half p q i (half_with u)
      go (first e f g) zero l a b = subst⁻¹ (Sides side w half p q 0) e (record {
        p_on = a;
        q_on = b;
        sum = comb (side ∷ w ∷ p ∷ q ∷ abs u ∷ []) (sym f) (search read depth 40) tt;
        turn = λ t. refl;
      })
      go (second e f g) zero l a b =
          let same : q -ℤ p ≡ pos 0 =
          lin≡ (side ∷ w ∷ half ∷ p ∷ q ∷ abs u ∷ []) (le a.high & le b.high & eq m & eq f & le (abs-nonneg u)) (search linear depth 40) (tt, tt) in
          subst⁻¹ (Sides side w half p q 0) e (record {
            p_on = record {
              low = lin≤ (side ∷ w ∷ half ∷ p ∷ q ∷ abs u ∷ []) (le b.high & eq m & eq f & le (abs-nonneg u)) (search linear depth 40) tt;
              high = lin≤ (side ∷ w ∷ half ∷ p ∷ q ∷ abs u ∷ []) (le a.high & le a.low) (search linear depth 40) tt;
            };
            q_on = record {
              low = lin≤ (side ∷ w ∷ half ∷ p ∷ q ∷ abs u ∷ []) (le a.high & eq m & eq f & le (abs-nonneg u)) (search linear depth 40) tt;
              high = lin≤ (side ∷ w ∷ half ∷ p ∷ q ∷ abs u ∷ []) (le b.high & le b.low) (search linear depth 40) tt;
            };
            sum = lin≡ (side ∷ w ∷ half ∷ p ∷ q ∷ abs u ∷ []) (le a.high & le b.high & eq m & eq f & le (abs-nonneg u)) (search linear depth 40) (tt, tt);
            turn = λ t. comb (t ∷ p ∷ q ∷ []) ((neg_ℤ (pos 2) *ℤ t) ⊗ same) (search read depth 40) tt;
          })
      go (first e f g) (suc zero) l a b =
          let same : q -ℤ p ≡ pos 0 =
          lin≡ (side ∷ w ∷ half ∷ p ∷ q ∷ abs u ∷ []) (le a.low & le b.low & eq m & eq f & le (abs-nonneg u)) (search linear depth 40) (tt, tt) in
          subst⁻¹ (Sides side w half p q 1) e (record {
            p_on = record {
              low = lin≤ (side ∷ w ∷ half ∷ p ∷ q ∷ abs u ∷ []) (le a.high & le a.low) (search linear depth 40) tt;
              high = lin≤ (side ∷ w ∷ half ∷ p ∷ q ∷ abs u ∷ []) (le b.low & eq m & eq f & le (abs-nonneg u)) (search linear depth 40) tt;
            };
            q_on = record {
              low = lin≤ (side ∷ w ∷ half ∷ p ∷ q ∷ abs u ∷ []) (le b.high & le b.low) (search linear depth 40) tt;
              high = lin≤ (side ∷ w ∷ half ∷ p ∷ q ∷ abs u ∷ []) (le a.low & eq m & eq f & le (abs-nonneg u)) (search linear depth 40) tt;
            };
            sum = lin≡ (side ∷ w ∷ half ∷ p ∷ q ∷ abs u ∷ []) (le a.low & le b.low & eq m & eq f & le (abs-nonneg u)) (search linear depth 40) (tt, tt);
            turn = λ t. comb (t ∷ p ∷ q ∷ []) ((pos 2 *ℤ t) ⊗ same) (search read depth 40) tt;
          })
      go (second e f g) (suc zero) l a b = subst⁻¹ (Sides side w half p q 1) e (record {
        p_on = a;
        q_on = b;
        sum = comb (side ∷ w ∷ p ∷ q ∷ abs u ∷ []) (sym f) (search read depth 40) tt;
        turn = λ t. refl;
      })
      go h (suc (suc i)) l a b = absurd (omega arith)

-- ---- both
pub details_in_quarter : (e : Edge) (s : Square) {half : ℤ} (i j : ℕ) → i < 2 → j < 2 → s.width ≡ half +ℤ half → pos 0 ≤ℤ half
    → OnCell (quarter s half i j) e → details e s ≡ details_in e s i j
details_in_quarter e s {half} i j k l m h o =
    let x = sides s.left s.width half e.x0 e.x1 m i k o.x0 o.x1 in
    let y = sides s.top s.width half e.y0 e.y1 m j l o.y0 o.y1 in
    let near = ap (λ z. z *ℤ dy e) x.sum in
    in_quarter e s m h (record { x0 = x.p_on; y0 = y.p_on; x1 = x.q_on; y1 = y.q_on })
    ∙ details-eq near (ap (λ z. neg_ℤ (z *ℤ dx e)) y.sum) (y.turn (s.width -ℤ abs (before_middle s.left s.width e.x0 e.x1)) ∙ ap (turned j) near)

-- ---- two edges, one after the other
-- one direction, and another that is y for x and x for y: p and y at s, q and z at m, r and x at t
from-join : (i : ℕ) → i < 2 → (side w p q r y z x a : ℤ)
    → (from_half i side w p q *ℤ (z -ℤ y) +ℤ half_sign i *ℤ a) +ℤ (from_half i side w q r *ℤ (x -ℤ z) +ℤ half_sign i *ℤ pos 0)
    ≡ from_half i side w p r *ℤ (x -ℤ y) +ℤ half_sign i *ℤ (a +ℤ ((p *ℤ z -ℤ q *ℤ y) +ℤ (q *ℤ x -ℤ r *ℤ z) -ℤ (p *ℤ x -ℤ r *ℤ y)))
from-join zero k side w p q r y z x a = ring (side ∷ p ∷ q ∷ r ∷ y ∷ z ∷ x ∷ a ∷ []) (search read depth 40) tt
from-join (suc zero) k side w p q r y z x a = ring (side ∷ w ∷ p ∷ q ∷ r ∷ y ∷ z ∷ x ∷ a ∷ []) (search read depth 40) tt
from-join (suc (suc i)) k side w p q r y z x a = absurd (omega arith)

-- d is h, or minus h below
turned-join : (j : ℕ) → j < 2 → (s a b f g h : ℤ) → (f +ℤ s *ℤ a) +ℤ (g +ℤ s *ℤ pos 0) ≡ h +ℤ s *ℤ b
    → (turned j f +ℤ s *ℤ half_sign j *ℤ a) +ℤ (turned j g +ℤ s *ℤ half_sign j *ℤ pos 0) ≡ turned j h +ℤ s *ℤ half_sign j *ℤ b
turned-join zero k s a b f g h e = comb (s ∷ a ∷ b ∷ f ∷ g ∷ h ∷ []) e (search read depth 40) tt
turned-join (suc zero) k s a b f g h e = comb (s ∷ a ∷ b ∷ f ∷ g ∷ h ∷ []) (negsuc 0 ⊗ e) (search read depth 40) tt
turned-join (suc (suc j)) k s a b f g h e = absurd (omega arith)

-- the three by their numbers
numbered-add : (w w' w'' : Details) → w.h +ℤ w'.h ≡ w''.h → w.v +ℤ w'.v ≡ w''.v → w.d +ℤ w'.d ≡ w''.d → (k : ℕ)
    → numbered w k +ℤ numbered w' k ≡ numbered w'' k
unfolding numbered
numbered-add w w' w'' h v d zero = refl
numbered-add w w' w'' h v d (suc zero) = h
numbered-add w w' w'' h v d (suc (suc zero)) = v
numbered-add w w' w'' h v d (suc (suc (suc zero))) = d
numbered-add w w' w'' h v d (suc (suc (suc (suc k)))) = refl

-- two edges that meet in a point, and their chord, lie in the cell where the two do
pub on_cell_join : {c : Square} {s m t : Point} → OnCell c (edge_between s m) → OnCell c (edge_between m t) → OnCell c (edge_between s t)
on_cell_join p q = record { x0 = p.x0; y0 = p.y0; x1 = q.x1; y1 = q.y1 }

module _ (c : Square) (i j : ℕ) (k : i < 2) (l : j < 2) (s m t : Point) (a : ℤ) where
  -- in their forms by numbers
  forms_join : (n : ℕ)
      → numbered (with_area (details_in (edge_between s m) c i j) a i j) n +ℤ numbered (with_area (details_in (edge_between m t) c i j) (pos 0) i j) n
      ≡ numbered (with_area (details_in (edge_between s t) c i j) (a +ℤ triangle s m t) i j) n
  unfolding root_term
  forms_join n =
      let across = from-join i k c.left c.width s.x m.x t.x s.y m.y t.y a in
      let down = from-join j l c.top c.width s.y m.y t.y s.x m.x t.x (neg_ℤ a) in
      let near = from_half i c.left c.width in
      let far = from_half j c.top c.width in
      numbered-add (with_area (details_in (edge_between s m) c i j) a i j) (with_area (details_in (edge_between m t) c i j) (pos 0) i j)
      (with_area (details_in (edge_between s t) c i j) (a +ℤ triangle s m t) i j) across
      (comb (far s.y m.y ∷ far m.y t.y ∷ far s.y t.y ∷ pos j ∷ s.x ∷ s.y ∷ m.x ∷ m.y ∷ t.x ∷ t.y ∷ a ∷ []) (negsuc 0 ⊗ down)
      (search read depth 40) tt)
      (turned-join j l (half_sign i) a (a +ℤ triangle s m t) (near s.x m.x *ℤ (m.y -ℤ s.y)) (near m.x t.x *ℤ (t.y -ℤ m.y))
      (near s.x t.x *ℤ (t.y -ℤ s.y)) across)
      n

  pub details-join : {half : ℤ} → c.width ≡ half +ℤ half → pos 0 ≤ℤ half → OnCell (quarter c half i j) (edge_between s m)
      → OnCell (quarter c half i j) (edge_between m t) → (n : ℕ)
      → numbered (with_area (details (edge_between s m) c) a i j) n +ℤ numbered (with_area (details (edge_between m t) c) (pos 0) i j) n
      ≡ numbered (with_area (details (edge_between s t) c) (a +ℤ triangle s m t) i j) n
  details-join {half} w h o o' n =
      ap₂ (λ x y. numbered (with_area x a i j) n +ℤ numbered (with_area y (pos 0) i j) n) (is o) (is o')
      ∙ forms_join n ∙ ap (λ x. numbered (with_area x (a +ℤ triangle s m t) i j) n) (sym (is (on_cell_join o o')))
    where
      is : {p q : Point} → OnCell (quarter c half i j) (edge_between p q) → details (edge_between p q) c ≡ details_in (edge_between p q) c i j
      is {p} {q} on = details_in_quarter (edge_between p q) c i j k l w h on
