-- An edge that lies in one quarter of a cell: along it nothing is held and no middle is crossed, so one piece from end to end is the whole integral,
-- and the three details are whole numbers.
--
-- Main results
--   in_quarter                                the details of an edge in one quarter
use Rattle.std.specs.Prelude.{◌≡◌, [], ◌∷◌, ℕ, zero, suc, ◌<◌, ℤ, ◌+ℤ◌, ◌-ℤ◌, ◌*ℤ◌, ◌≤ℤ◌}
use Rattle.std.proofs.Common.{sym, ◌∙◌, ap₂, arith}
use Rattle.std.proofs.Math.Path.{ap}
use Rattle.std.proofs.Math.IntN.{pos, neg_ℤ}
use Rattle.integers.proofs.Theorems.Ring.{read, ring, comb, ◌⊕◌}
use Rattle.integers.proofs.Theorems.Order.{nonneg}
use Rattle.integers.proofs.Theorems.Linear.{le, eq, ◌&◌, linear, lin≤}
use Rattle.integers.specs.MinMax.{min}
use Rattle.integers.proofs.Theorems.MinMax.{min_eqˡ, min_eqʳ}
use Rattle.integers.proofs.Theorems.Clamp.{clamp-inside}
use Rattle.integers.proofs.Theorems.Tent.{tent-inside}
use Rattle.edge.specs.declared.Edge.{Edge}
use Rattle.edge.specs.declared.Cell.{Cell}
use Rattle.edge.specs.declared.Axis.{Axis}
use Rattle.edge.specs.Walk.{dx, dy, ax, ay, steps, x_axis, y_axis, beyond, past, near}
use Rattle.edge.specs.Nested.{quarter, OnRange, OnCell}
use Rattle.edge.proofs.Lemmas.Records.{details-eq}
use Rattle.edge.proofs.Laws.StepCount.{rounded_whole}
use Rattle.edge.proofs.Lemmas.Ends.{beyond_start, x_end, y_end, past_scale, near_scale}
use Rattle.edge.specs.Integrals.{along, h_num, v_num, d_num}
use Rattle.edge.specs.Rounded.{details}
use Rattle.edge.proofs.Lemmas.Runs.{piece, LinearOn, upto, upto_zero, upto_all, linear_run}
use Rattle.edge.proofs.Lemmas.OneDirection.{ClosedRun, OneHalf, before, behind, past_linear, near_linear}
use Rattle.edge.proofs.Laws.WholeTile.{stays_between}
use Rattle.edge.proofs.Laws.Cells.{HalfView, first, second, half_view, half_below}
use Rattle.integers.specs.Magnitude.{abs}
use Rattle.edge.specs.Code.{before_middle, half_with, turned, quarter_details}

-- from a point in half i to the side of that half; u: how far it lies past the middle
abbrev from_side : ℕ → ℤ → ℤ → ℤ
from_side zero half u = half +ℤ u
from_side (suc i) half u = half -ℤ u

-- from both, added up
abbrev from_sides : ℕ → ℤ → ℤ → ℤ
from_sides zero w u = w +ℤ u
from_sides (suc i) w u = w -ℤ u

-- how far p and q lie past the middle, added up
abbrev past_middle : ℤ → ℤ → ℤ → ℤ
past_middle middle p q = (p -ℤ middle) +ℤ (q -ℤ middle)

abbrev quarter_h : Edge → Cell → ℤ → ℕ → ℤ
quarter_h e c half i = from_sides i c.width (past_middle (c.left +ℤ half) e.x0 e.x1) *ℤ dy e

abbrev quarter_v : Edge → Cell → ℤ → ℕ → ℤ
quarter_v e c half j = neg_ℤ (from_sides j c.width (past_middle (c.top +ℤ half) e.y0 e.y1) *ℤ dx e)

abbrev quarter_d : Edge → Cell → ℤ → ℕ → ℕ → ℤ
quarter_d e c half i j = turned j (quarter_h e c half i)

-- ---- half i of a range from `side` on
abbrev half_side : ℤ → ℤ → ℕ → ℤ
half_side side half i = side +ℤ pos i *ℤ half

module _ (side half : ℤ) {w : ℤ} (m : w ≡ half +ℤ half) (h : pos 0 ≤ℤ half) where
  in_range_lem : (i : ℕ) → i < 2 → (p : ℤ) → OnRange (half_side side half i) half p → OnRange side w p
  in_range_lem zero k p o = record {
    low = lin≤ (p ∷ side ∷ half ∷ []) (le o.low) (search linear depth 40) tt;
    high = lin≤ (p ∷ side ∷ half ∷ w ∷ []) (le o.high & le h & eq m) (search linear depth 40) tt;
  }
  in_range_lem (suc zero) k p o = record {
    low = lin≤ (p ∷ side ∷ half ∷ []) (le o.low & le h) (search linear depth 40) tt;
    high = lin≤ (p ∷ side ∷ half ∷ w ∷ []) (le o.high & eq m) (search linear depth 40) tt;
  }
  in_range_lem (suc (suc i)) k p o = absurd (omega arith)

  -- the nearer of the two sides is that of the half
  nearer_is : (i : ℕ) → i < 2 → (p : ℤ) → OnRange (half_side side half i) half p → min (p -ℤ side) (w -ℤ (p -ℤ side)) ≡ from_side i half (p -ℤ (side +ℤ half))
  nearer_is zero k p o =
      min_eqˡ (lin≤ (p ∷ side ∷ half ∷ w ∷ []) (le o.high & eq m) (search linear depth 40) tt)
      ∙ ring (p ∷ side ∷ half ∷ []) (search read depth 40) tt
  nearer_is (suc zero) k p o =
      min_eqʳ (lin≤ (p ∷ side ∷ half ∷ w ∷ []) (le o.low & eq m) (search linear depth 40) tt)
      ∙ ap (λ z. z -ℤ (p -ℤ side)) m ∙ ring (p ∷ side ∷ half ∷ []) (search read depth 40) tt
  nearer_is (suc (suc i)) k p o = absurd (omega arith)

-- ---- one direction of a walk of n steps, whose two ends lie in half i: its start, and q
stays_in_half : (a : Axis) (side half q : ℤ) {n : ℤ} (i : ℕ) → i < 2 → pos 0 ≤ℤ a.scale → beyond a side n ≡ a.scale *ℤ (q -ℤ side)
    → OnRange (half_side side half i) half a.start → OnRange (half_side side half i) half q → OneHalf a side half (pos 0) n
stays_in_half a side half q {n} i k g e o₀ o₁ = go i k run
  where
    run : ClosedRun a (half_side side half i) half (pos 0) n
    run = stays_between a (half_side side half i) half q g o₀ o₁
        (comb (a.scale ∷ a.start ∷ a.sign ∷ side ∷ half ∷ q ∷ n ∷ pos i ∷ []) e (search read depth 40) tt)

    go : (i : ℕ) → i < 2 → ClosedRun a (half_side side half i) half (pos 0) n → OneHalf a side half (pos 0) n
    go zero k r = before (λ t l h. lin≤ (a.scale ∷ a.start ∷ a.sign ∷ side ∷ half ∷ t ∷ []) (le (r.at t l h).high) (search linear depth 40) tt)
    go (suc zero) k r = behind (λ t l h. lin≤ (a.scale ∷ a.start ∷ a.sign ∷ side ∷ half ∷ t ∷ []) (le (r.at t l h).low) (search linear depth 40) tt)
    go (suc (suc i)) k r = absurd (omega arith)

-- f is linear from step 0 to step n, and goes from f₀ to f₁
record Ramp (f : ℤ → ℤ) (n f₀ f₁ : ℤ) : Type 0 where
  run : LinearOn f (pos 0) n
  start : f (pos 0) ≡ f₀
  end : f n ≡ f₁

-- held nowhere, and the middle not crossed
record Unbent (a : Axis) (side half w q : ℤ) (i : ℕ) (n : ℤ) : Type 0 where
  whole : Ramp (past a side w) n (a.scale *ℤ (a.start -ℤ side)) (a.scale *ℤ (q -ℤ side))
  tented : Ramp (near a side w) n (a.scale *ℤ from_side i half (a.start -ℤ (side +ℤ half))) (a.scale *ℤ from_side i half (q -ℤ (side +ℤ half)))

unbent : (a : Axis) (side half q : ℤ) {w n : ℤ} (i : ℕ) → i < 2 → w ≡ half +ℤ half → pos 0 ≤ℤ half → pos 0 ≤ℤ a.scale
    → beyond a side n ≡ a.scale *ℤ (q -ℤ side) → OnRange (half_side side half i) half a.start → OnRange (half_side side half i) half q
    → Unbent a side half w q i n
unbent a side half q {w} {n} i k m h g e o₀ o₁ =
    let r = stays_between a side w q g (in_range_lem side half m h i k a.start o₀) (in_range_lem side half m h i k q o₁) e in
    record {
      whole = record { run = past_linear r; start = past_at (pos 0) a.start o₀ (beyond_start a side); end = past_at n q o₁ e };
      tented = record {
        run = near_linear a side half m r (stays_in_half a side half q i k g e o₀ o₁);
        start = near_at_lem (pos 0) a.start o₀ (beyond_start a side);
        end = near_at_lem n q o₁ e;
      };
    }
  where
    w≥0 : pos 0 ≤ℤ w
    w≥0 = lin≤ (w ∷ half ∷ []) (eq m & le h) (search linear depth 40) tt

    low : (p : ℤ) → OnRange (half_side side half i) half p → pos 0 ≤ℤ (p -ℤ side)
    low p o = lin≤ (p ∷ side ∷ []) (le (in_range_lem side half m h i k p o).low) (search linear depth 40) tt

    high : (p : ℤ) → OnRange (half_side side half i) half p → (p -ℤ side) ≤ℤ w
    high p o = lin≤ (p ∷ side ∷ w ∷ []) (le (in_range_lem side half m h i k p o).high) (search linear depth 40) tt

    past_at : (t p : ℤ) → OnRange (half_side side half i) half p → beyond a side t ≡ a.scale *ℤ (p -ℤ side) → past a side w t ≡ a.scale *ℤ (p -ℤ side)
    past_at t p o d = past_scale a side w t p g w≥0 d ∙ ap (λ z. a.scale *ℤ z) (clamp-inside (low p o) (high p o))

    near_at_lem : (t p : ℤ) → OnRange (half_side side half i) half p → beyond a side t ≡ a.scale *ℤ (p -ℤ side)
        → near a side w t ≡ a.scale *ℤ from_side i half (p -ℤ (side +ℤ half))
    near_at_lem t p o d = near_scale a side w t p g w≥0 d ∙ ap (λ z. a.scale *ℤ z) (tent-inside (low p o) (high p o) ∙ nearer_is side half m h i k p o)

one_piece : {f g : ℤ → ℤ} {n : ℕ} {f₀ f₁ g₀ g₁ : ℤ} → Ramp f (pos n) f₀ f₁ → Ramp g (pos n) g₀ g₁ → along f g n ≡ (f₀ +ℤ f₁) *ℤ (g₁ -ℤ g₀)
one_piece {f} {g} {n} k l =
    let e : along f g n ≡ piece f g (pos 0) (pos n) =
    comb (along f g n ∷ upto f g (pos n) ∷ upto f g (pos 0) ∷ f (pos 0) ∷ f (pos n) ∷ g (pos 0) ∷ g (pos n) ∷ [])
    (sym (upto_all f g n) ⊕ linear_run f g (nonneg 0) (nonneg n) k.run l.run ⊕ upto_zero f g) (search read depth 40) tt in
    e ∙ ap₂ ◌*ℤ◌ (ap₂ ◌+ℤ◌ k.start k.end) (ap₂ ◌-ℤ◌ l.end l.start)

-- ---- an edge
module _ (e : Edge) (c : Cell) {half : ℤ} {i j : ℕ} (m : c.width ≡ half +ℤ half) (h : pos 0 ≤ℤ half) (k : i < 2) (l : j < 2)
    (o : OnCell (quarter c half i j) e) where
  abbrev tx0 : ℤ
  tx0 = from_side i half (e.x0 -ℤ (c.left +ℤ half))

  abbrev tx1 : ℤ
  tx1 = from_side i half (e.x1 -ℤ (c.left +ℤ half))

  abbrev ty0 : ℤ
  ty0 = from_side j half (e.y0 -ℤ (c.top +ℤ half))

  abbrev ty1 : ℤ
  ty1 = from_side j half (e.y1 -ℤ (c.top +ℤ half))

  x_unbent : Unbent (x_axis e) c.left half c.width e.x1 i (pos (steps e))
  x_unbent = unbent (x_axis e) c.left half e.x1 i k m h (nonneg (ay e)) (x_end e c.left) o.x0 o.x1

  y_unbent : Unbent (y_axis e) c.top half c.width e.y1 j (pos (steps e))
  y_unbent = unbent (y_axis e) c.top half e.y1 j l m h (nonneg (ax e)) (y_end e c.top) o.y0 o.y1

  -- both ends
  sides : (i : ℕ) (u v : ℤ) → from_side i half u +ℤ from_side i half v ≡ from_sides i c.width (u +ℤ v)
  sides zero u v = comb (c.width ∷ half ∷ u ∷ v ∷ []) (sym m) (search read depth 40) tt
  sides (suc i) u v = comb (c.width ∷ half ∷ u ∷ v ∷ []) (sym m) (search read depth 40) tt

  h_in_quarter : h_num e c ≡ quarter_h e c half i *ℤ pos (steps e)
  unfolding h_num
  h_in_quarter =
      one_piece x_unbent.tented y_unbent.whole ∙ ring (pos (ax e) ∷ pos (ay e) ∷ e.y0 ∷ e.y1 ∷ c.top ∷ tx0 ∷ tx1 ∷ []) (search read depth 40) tt
      ∙ ap (λ z. z *ℤ dy e *ℤ pos (steps e)) (sides i (e.x0 -ℤ (c.left +ℤ half)) (e.x1 -ℤ (c.left +ℤ half)))

  v_in_quarter : v_num e c ≡ quarter_v e c half j *ℤ pos (steps e)
  unfolding v_num
  v_in_quarter =
      ap neg_ℤ (one_piece y_unbent.tented x_unbent.whole)
      ∙ ring (pos (ax e) ∷ pos (ay e) ∷ e.x0 ∷ e.x1 ∷ c.left ∷ ty0 ∷ ty1 ∷ []) (search read depth 40) tt
      ∙ ap (λ z. neg_ℤ (z *ℤ dx e) *ℤ pos (steps e)) (sides j (e.y0 -ℤ (c.top +ℤ half)) (e.y1 -ℤ (c.top +ℤ half)))

  -- the distance from y to the side of its half moves with y, or against it
  moves : (j : ℕ) (t : ℤ)
      → t *ℤ (from_side j half (e.y1 -ℤ (c.top +ℤ half)) -ℤ from_side j half (e.y0 -ℤ (c.top +ℤ half))) ≡ turned j (t *ℤ dy e)
  moves zero t = ring (t ∷ half ∷ e.y0 ∷ e.y1 ∷ c.top ∷ []) (search read depth 40) tt
  moves (suc j) t = ring (t ∷ half ∷ e.y0 ∷ e.y1 ∷ c.top ∷ []) (search read depth 40) tt

  d_in_quarter : d_num e c ≡ quarter_d e c half i j *ℤ pos (steps e)
  unfolding d_num
  d_in_quarter =
      one_piece x_unbent.tented y_unbent.tented ∙ ring (pos (ax e) ∷ pos (ay e) ∷ tx0 ∷ tx1 ∷ ty0 ∷ ty1 ∷ []) (search read depth 40) tt
      ∙ ap (λ z. z *ℤ pos (steps e)) (moves j (tx0 +ℤ tx1) ∙ ap (λ z. turned j (z *ℤ dy e)) (sides i (e.x0 -ℤ (c.left +ℤ half)) (e.x1 -ℤ (c.left +ℤ half))))

  -- ---- rounding
  whole : details e c ≡ record { h = quarter_h e c half i; v = quarter_v e c half j; d = quarter_d e c half i j }
  unfolding details
  whole =
      details-eq (rounded_whole e (quarter_h e c half i) h_in_quarter) (rounded_whole e (quarter_v e c half j) v_in_quarter)
      (rounded_whole e (quarter_d e c half i j) d_in_quarter)

-- ---- by how far the ends lie before the middles
module _ (side w half p q : ℤ) (m : w ≡ half +ℤ half) where
  abbrev u : ℤ
  u = before_middle side w p q

  sides_is : from_sides (half_with u) w (past_middle (side +ℤ half) p q) ≡ w -ℤ abs u
  sides_is = go (half_view u)
    where
      go : HalfView u → from_sides (half_with u) w (past_middle (side +ℤ half) p q) ≡ w -ℤ abs u
      go (first e f g) =
          ap (λ i. from_sides i w (past_middle (side +ℤ half) p q)) e
          ∙ comb (side ∷ w ∷ half ∷ p ∷ q ∷ abs u ∷ []) (m ⊕ f) (search read depth 40) tt
      go (second e f g) =
          ap (λ i. from_sides i w (past_middle (side +ℤ half) p q)) e
          ∙ comb (side ∷ w ∷ half ∷ p ∷ q ∷ abs u ∷ []) (sym m ⊕ f) (search read depth 40) tt

abbrev left_of : Edge → Cell → ℤ
left_of e c = before_middle c.left c.width e.x0 e.x1

abbrev above : Edge → Cell → ℤ
above e c = before_middle c.top c.width e.y0 e.y1

pub in_quarter : (e : Edge) (c : Cell) {half : ℤ} → c.width ≡ half +ℤ half → pos 0 ≤ℤ half
    → OnCell (quarter c half (half_with (left_of e c)) (half_with (above e c))) e
    → details e c ≡ quarter_details c.width (left_of e c) (above e c) (dx e) (dy e)
in_quarter e c {half} m h o =
    let x = ap (λ z. z *ℤ dy e) (sides_is c.left c.width half e.x0 e.x1 m) in
    let y = ap (λ z. neg_ℤ (z *ℤ dx e)) (sides_is c.top c.width half e.y0 e.y1 m) in
    whole e c m h (half_below (left_of e c)) (half_below (above e c)) o ∙ details-eq x y (ap (turned (half_with (above e c))) x)
