-- Cells in cells, as the quadtree has them: what one contains, and the room that an edge on a sheet has in each.
--
-- Main results
--   contains_refl, contains_trans, contains_quarter      down the quadtree every cell lies in the one that it began with
--   half_view, half_below                                the first half or the second
--   quarter_on, before_half_lem                          an edge in a cell lies in a quarter, where its ends lie no farther apart than from the middle, both
--                                                        ways; from the middle of the cell to that of the quarter
--   extent_at_most, extent_times                         bounds of an extent
--   difference_on, product_on                            two coordinates between two sides are at most the width apart; the product of two
--                                                        between 0 and w is between 0 and w²
--   sheet_measured                                       an edge on a sheet is in range
--   sheet_room                                           so it has room in each even cell of the sheet whose width times the sheet's is in range
--   details_on                                           the three details of an edge on a sheet, in a cell: at most the two widths' product
use Rattle.std.specs.Prelude.{◌≡◌, refl, [], ◌∷◌, ℕ, zero, suc, ◌<◌, ℤ, pos, negsuc, neg_ℤ, ◌+ℤ◌, ◌-ℤ◌, ◌*ℤ◌, ◌≤ℤ◌}
use Rattle.std.proofs.Common.{sym, ◌∙◌, ap, arith}
use Rattle.std.proofs.Math.Path.{subst⁻¹}
use Rattle.integers.specs.Units.{width_times_extent_limit}
use Rattle.integers.proofs.Theorems.Order.{≤ℤ_trans, ≤ℤ-mul, ≤ℤ-mul-nonneg}
use Rattle.integers.proofs.Theorems.Linear.{le, eq, ◌&◌, none!, linear, lin≤}
use Rattle.integers.specs.Magnitude.{abs}
use Rattle.integers.proofs.Theorems.Magnitude.{le-abs, neg-le-abs}
use Rattle.integers.proofs.Theorems.Ring.{read, comb}
use Rattle.integers.specs.Within.{Within}
use Rattle.integers.proofs.Theorems.Within.{within_le, abs_of_within}
use Rattle.edge.specs.declared.Edge.{Edge}
use Rattle.edge.specs.declared.Cell.{Cell}
use Rattle.edge.specs.Walk.{extent, dx, dy}
use Rattle.edge.specs.Room.{coordinate_limit, Measured, Even, Room}
use Rattle.edge.specs.Rounded.{details, DetailsWithin}
use Rattle.edge.specs.Nested.{quarter, Contains, OnRange, OnCell, Sheet}
use Rattle.edge.specs.Code.{before_middle, half_with, before_half}
use Rattle.edge.proofs.Laws.Bounds.{rounded_h_bound, rounded_v_bound, rounded_d_bound}

-- ---- cells in cells
pub contains_refl : (c : Cell) → Contains c c
contains_refl c = record {
  left = lin≤ (c.left ∷ []) none! (search linear depth 40) tt;
  right = lin≤ (c.left ∷ c.width ∷ []) none! (search linear depth 40) tt;
  top = lin≤ (c.top ∷ []) none! (search linear depth 40) tt;
  bottom = lin≤ (c.top ∷ c.width ∷ []) none! (search linear depth 40) tt;
}

pub contains_trans : {a b c : Cell} → Contains a b → Contains b c → Contains a c
contains_trans p q = record {
  left = ≤ℤ_trans p.left q.left;
  right = ≤ℤ_trans q.right p.right;
  top = ≤ℤ_trans p.top q.top;
  bottom = ≤ℤ_trans q.bottom p.bottom;
}

-- one direction: half number i, 0 or 1, is in the whole
half_in : (side : ℤ) {w half : ℤ} → w ≡ half +ℤ half → pos 0 ≤ℤ half → (i : ℕ) → i < 2
    → (side ≤ℤ (side +ℤ pos i *ℤ half)) × ((side +ℤ pos i *ℤ half +ℤ half) ≤ℤ (side +ℤ w))
half_in side {w} {half} e h zero k =
    (lin≤ (side ∷ half ∷ []) none! (search linear depth 40) tt, lin≤ (side ∷ half ∷ w ∷ []) (eq e & le h) (search linear depth 40) tt)
half_in side {w} {half} e h (suc zero) k =
    (lin≤ (side ∷ half ∷ []) (le h) (search linear depth 40) tt, lin≤ (side ∷ half ∷ w ∷ []) (eq e) (search linear depth 40) tt)
half_in side e h (suc (suc i)) k = absurd (omega arith)

pub contains_quarter : (c : Cell) (half : ℤ) → c.width ≡ half +ℤ half → pos 0 ≤ℤ half → (i j : ℕ) → i < 2 → j < 2 → Contains c (quarter c half i j)
contains_quarter c half e h i j k l =
    let x = half_in c.left e h i k in
    let y = half_in c.top e h j l in
    record { left = x.0; right = x.1; top = y.0; bottom = y.1 }

-- ---- an edge in a cell lies in a quarter, where each of its directions stays in one half
pub data HalfView (u : ℤ) : Type 0 where
  first : half_with u ≡ 0 → abs u ≡ u → ((half : ℤ) → before_half u half ≡ u -ℤ half) → HalfView u
  second : half_with u ≡ 1 → abs u ≡ neg_ℤ u → ((half : ℤ) → before_half u half ≡ u +ℤ half) → HalfView u

pub half_view : (u : ℤ) → HalfView u
unfolding abs half_with before_half
half_view (pos n) = first refl refl (λ half. refl)
half_view (negsuc n) = second refl refl (λ half. refl)

pub half_below : (u : ℤ) → half_with u < 2
unfolding half_with
half_below (pos n) = omega arith
half_below (negsuc n) = omega arith

abbrev InHalf : ℤ → ℤ → ℤ → ℤ → ℕ → Type 0
InHalf side half p q i = OnRange (side +ℤ pos i *ℤ half) half p × OnRange (side +ℤ pos i *ℤ half) half q

-- the larger of p and q is at most the middle, or the smaller at least that: their sum and their difference say which
-- p and q in a range of width w from `side` on
module _ (side w half p q : ℤ) (m : w ≡ half +ℤ half) where
  abbrev u : ℤ
  u = before_middle side w p q

  half_on_lem : OnRange side w p → OnRange side w q → abs (q -ℤ p) ≤ℤ abs u → InHalf side half p q (half_with u)
  half_on_lem i j k = go (half_view u)
    where
      go : HalfView u → InHalf side half p q (half_with u)
      go (first e f g) = subst⁻¹ (InHalf side half p q) e (
        record {
          low = lin≤ (side ∷ half ∷ p ∷ []) (le i.low) (search linear depth 40) tt;
          high = lin≤ (side ∷ half ∷ w ∷ p ∷ q ∷ abs u ∷ abs (q -ℤ p) ∷ []) (le k & eq f & eq m & le (neg-le-abs (q -ℤ p))) (search linear depth 40) tt;
        },
        record {
          low = lin≤ (side ∷ half ∷ q ∷ []) (le j.low) (search linear depth 40) tt;
          high = lin≤ (side ∷ half ∷ w ∷ p ∷ q ∷ abs u ∷ abs (q -ℤ p) ∷ []) (le k & eq f & eq m & le (le-abs (q -ℤ p))) (search linear depth 40) tt;
        },
      )
      go (second e f g) = subst⁻¹ (InHalf side half p q) e (
        record {
          low = lin≤ (side ∷ half ∷ w ∷ p ∷ q ∷ abs u ∷ abs (q -ℤ p) ∷ []) (le k & eq f & eq m & le (le-abs (q -ℤ p))) (search linear depth 40) tt;
          high = lin≤ (side ∷ half ∷ w ∷ p ∷ []) (le i.high & eq m) (search linear depth 40) tt;
        },
        record {
          low = lin≤ (side ∷ half ∷ w ∷ p ∷ q ∷ abs u ∷ abs (q -ℤ p) ∷ []) (le k & eq f & eq m & le (neg-le-abs (q -ℤ p))) (search linear depth 40) tt;
          high = lin≤ (side ∷ half ∷ w ∷ q ∷ []) (le j.high & eq m) (search linear depth 40) tt;
        },
      )

  -- from the middle of the whole to that of the half
  pub before_half_lem : before_middle (side +ℤ pos (half_with u) *ℤ half) half p q ≡ before_half u half
  before_half_lem = go (half_view u)
    where
      go : HalfView u → before_middle (side +ℤ pos (half_with u) *ℤ half) half p q ≡ before_half u half
      go (first e f g) =
          ap (λ i. before_middle (side +ℤ pos i *ℤ half) half p q) e ∙ comb (side ∷ w ∷ half ∷ p ∷ q ∷ []) (sym m) (search read depth 40) tt ∙ sym (g half)
      go (second e f g) =
          ap (λ i. before_middle (side +ℤ pos i *ℤ half) half p q) e ∙ comb (side ∷ w ∷ half ∷ p ∷ q ∷ []) (sym m) (search read depth 40) tt ∙ sym (g half)

pub quarter_on : (c : Cell) (half : ℤ) {e : Edge} → c.width ≡ half +ℤ half → OnCell c e
    → abs (dx e) ≤ℤ abs (before_middle c.left c.width e.x0 e.x1) → abs (dy e) ≤ℤ abs (before_middle c.top c.width e.y0 e.y1)
    → OnCell (quarter c half (half_with (before_middle c.left c.width e.x0 e.x1)) (half_with (before_middle c.top c.width e.y0 e.y1))) e
quarter_on c half {e} m o i j =
    let x = half_on_lem c.left c.width half e.x0 e.x1 m o.x0 o.x1 i in
    let y = half_on_lem c.top c.width half e.y0 e.y1 m o.y0 o.y1 j in
    record { x0 = x.0; y0 = y.0; x1 = x.1; y1 = y.1 }

-- ---- room
-- a bound of at least 1 on a number bounds its extent too
pub extent_at_most : (d : ℤ) {w : ℤ} → pos 1 ≤ℤ w → Within w d → pos (extent d) ≤ℤ w
unfolding extent
extent_at_most (pos zero) h p = h
extent_at_most (pos (suc n)) h p = p.high
extent_at_most (negsuc n) {w} h p = lin≤ (pos n ∷ w ∷ []) (le p.low) (search linear depth 40) tt

-- and what bounds a width, and a number times the width, bounds the extent times the width
pub extent_times : (d : ℤ) {w b : ℤ} → w ≤ℤ b → Within b (d *ℤ w) → (pos (extent d) *ℤ w) ≤ℤ b
unfolding extent
extent_times (pos zero) {w} {b} h k = lin≤ (w ∷ b ∷ []) (le h) (search linear depth 40) tt
extent_times (pos (suc n)) h k = k.high
extent_times (negsuc n) {w} {b} h k = lin≤ (pos n ∷ w ∷ b ∷ []) (le k.low) (search linear depth 40) tt

pub difference_on : {side w p q : ℤ} → OnRange side w p → OnRange side w q → Within w (q -ℤ p)
difference_on {side} {w} {p} {q} i j = record {
  low = lin≤ (side ∷ w ∷ p ∷ q ∷ []) (le i.high & le j.low) (search linear depth 40) tt;
  high = lin≤ (side ∷ w ∷ p ∷ q ∷ []) (le i.low & le j.high) (search linear depth 40) tt;
}

pub product_on : {w p q : ℤ} → OnRange (pos 0) w p → OnRange (pos 0) w q → OnRange (pos 0) (w *ℤ w) (p *ℤ q)
product_on {w} {p} {q} i j = record {
  low = ≤ℤ-mul-nonneg i.low j.low;
  -- w² − p q = (w − p) q + p (w − q) + (w − p) (w − q)
  high =
      lin≤ (w ∷ p ∷ q ∷ []) (le (≤ℤ-mul i.high j.low) & le (≤ℤ-mul i.low j.high) & le (≤ℤ-mul i.high j.high))
      (search linear depth 40) tt;
}

coordinate_on : {side w p : ℤ} → Within (pos coordinate_limit) side → (side +ℤ w) ≤ℤ pos coordinate_limit → OnRange side w p → Within (pos coordinate_limit) p
coordinate_on {side} {w} {p} i j o = record {
  low = ≤ℤ_trans i.low o.low;
  high = ≤ℤ_trans o.high j;
}

pub sheet_measured : {s : Cell} {e : Edge} → Sheet s → OnCell s e → Measured e
sheet_measured t o = record {
  x0 = coordinate_on t.left t.right o.x0;
  y0 = coordinate_on t.top t.bottom o.y0;
  x1 = coordinate_on t.left t.right o.x1;
  y1 = coordinate_on t.top t.bottom o.y1;
}

-- a side of a cell in the sheet is on it too
side_on : {side w side' w' : ℤ} → pos 0 ≤ℤ w' → side ≤ℤ side' → (side' +ℤ w') ≤ℤ (side +ℤ w) → OnRange side w side'
side_on {side} {w} {side'} {w'} h i j = record { low = i; high = lin≤ (side ∷ w ∷ side' ∷ w' ∷ []) (le h & le j) (search linear depth 40) tt }

pub sheet_room : {s c : Cell} {e : Edge} → Sheet s → OnCell s e → Contains s c → Even c.width → (s.width *ℤ c.width) ≤ℤ pos width_times_extent_limit → Room e c
sheet_room {s} {c} {e} t o k v m = record {
  edge = sheet_measured t o;
  left = coordinate_on t.left t.right (side_on w≥0 k.left k.right);
  top = coordinate_on t.top t.bottom (side_on w≥0 k.top k.bottom);
  even = v;
  wide = product (dx e) (difference_on o.x0 o.x1);
  tall = product (dy e) (difference_on o.y0 o.y1);
}
  where
    w≥0 : pos 0 ≤ℤ c.width
    w≥0 = lin≤ (c.width ∷ v.half ∷ []) (le v.half≥0 & eq v.twice) (search linear depth 40) tt

    product : (d : ℤ) → Within s.width d → (pos (extent d) *ℤ c.width) ≤ℤ pos width_times_extent_limit
    product d p = lin≤ (pos (extent d) ∷ s.width ∷ c.width ∷ []) (le (≤ℤ-mul (extent_at_most d t.width p) w≥0) & le m) (search linear depth 40) tt

-- ---- how large the details are: in a cell, at most how far the edge can run on the sheet times the cell's width
pub details_on : {s : Cell} {e : Edge} {b : ℤ} (c : Cell) → OnCell s e → pos 0 ≤ℤ c.width → (s.width *ℤ c.width) ≤ℤ b → DetailsWithin b (details e c)
details_on {s} {e} {b} c o w≥0 m =
    let x = run (difference_on o.x0 o.x1) in
    let y = run (difference_on o.y0 o.y1) in
    record {
      h = within_le y (rounded_h_bound e c w≥0);
      v = within_le x (rounded_v_bound e c w≥0);
      d = within_le y (rounded_d_bound e c w≥0);
    }
  where
    run : {r : ℤ} → Within s.width r → (abs r *ℤ c.width) ≤ℤ b
    run {r} h = lin≤ (abs r ∷ s.width ∷ c.width ∷ b ∷ []) (le (≤ℤ-mul (abs_of_within h) w≥0) & le m) (search linear depth 40) tt
