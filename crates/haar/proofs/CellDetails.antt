-- A cell's details as the code reads them, and the figures of two children that lie side by side.
--
-- Main results
--   CellDetails, cell_details_lem        the three entries of a cell are in the table
--   detail_is                            and are its details
--   half_row                             the row of the cell
--   parent_within, scale_within          how large its figure and its scale are
--   pair_is                              the two figures
use mathlib.Core.Path.{◌≡◌, refl, sym, ◌∙◌, ap, ap₂}
use mathlib.Core.List.{List, [], ◌∷◌}
use Prim.Native.Nat.{ℕ, suc, ◌+◌, ◌*◌, ◌-◌, ◌/◌, ◌%◌, ◌^◌, ◌<◌, ◌≤◌}
use native.Mathlib.Omega.{arith}
use native.Mathlib.Nat.{pow-succ', pow-le-pow_right, mul-le-mul_right}
use lib.ListN.{length, get_or}
use lib.IntN.{ℤ, pos, ◌*ℤ◌}
use Rattle.integers.specs.Units.{greatest_depth, entry_limit}
use Rattle.integers.proofs.Theorems.Ring.{read, ring}
use Rattle.integers.proofs.Theorems.Order.{pos-≤ℤ, nonneg}
use Rattle.integers.specs.Within.{Within}
use Rattle.integers.proofs.Theorems.Within.{within_is, within_le, within_self}
use Rattle.integers.specs.HalfSign.{half_sign}
use Rattle.haar.specs.Cells.{children}
use Rattle.haar.specs.Table.{index, stored}
use Rattle.haar.specs.Plane.{dimensions, h_detail, v_detail, d_detail, at, figure_at, figure_in}
use Rattle.haar.specs.Drawable.{Drawable}
use Rattle.haar.specs.Pairs.{Refinable, scale_limit, parent_limit, pair_of, IsPair}
use Rattle.haar.proofs.Laws.Layout.{index_plane, index_high}
use Rattle.haar.proofs.Laws.Quarters.{quarter_figure, figure-quarter}
use Rattle.haar.proofs.Laws.FigureLimit.{figure_in_range}

-- the first of a cell's entries, with two more after it
pub record CellDetails (entries : List ℤ) (first : ℕ) : Type 0 where
  pub inside : first + 2 < length entries
  pub few : first + 2 < children dimensions ^ greatest_depth

module _ {entries : List ℤ} {level x cy : ℕ} {f : ℤ} (d : Drawable entries (suc level)) (r : Refinable entries level x cy f) where
  scale_few : children dimensions ^ level ≤ scale_limit
  scale_few = let h : level ≤ greatest_depth - 1 = omega (arith, d.shallow) in pow-le-pow_right {n = children dimensions} (omega arith) h

  pub half_row : cy / 2 < 2 ^ level
  half_row = omega (arith, pow-succ' 2 level, r.y_below)

  pub cell_details_lem : {first : ℕ} → first ≡ index dimensions level (at x (cy / 2)) h_detail → CellDetails entries first
  cell_details_lem {first} e =
      let last = index_high {n = dimensions} {j = level} {cell = at x (cy / 2)} {e = d_detail} (record { inside = (r.x_below, (half_row, tt)); first = omega arith; last = omega arith }) in
      let b : first + 2 < children dimensions ^ suc level = omega (arith, e, index_plane level x (cy / 2) h_detail, index_plane level x (cy / 2) d_detail) in
      record {
        inside = let h = d.long in omega arith;
        few = omega (arith, pow-le-pow_right {n = children dimensions} (omega arith) d.shallow);
      }

  pub parent_within : Within (pos parent_limit) f
  parent_within =
      within_is refl (sym r.is_figure)
      (within_le (pos-≤ℤ (mul-le-mul_right entry_limit scale_few))
      (figure_in_range d.in_range_lem level x (cy / 2) r.x_below half_row))

  pub scale_within : {scale : ℤ} → scale ≡ pos (children dimensions ^ level) → Within (pos scale_limit) scale
  scale_within e = within_is refl (sym e) (within_le (pos-≤ℤ scale_few) (within_self (nonneg _)))

-- detail k + 1 is the kth after the first
pub detail_is : (entries : List ℤ) (level x y k : ℕ) {first i : ℕ} → first ≡ index dimensions level (at x y) h_detail → i ≡ first + k
    → get_or entries i (pos 0) ≡ (stored dimensions entries).detail level (at x y) (suc k)
detail_is entries level x y k e g = ap (λ i. get_or entries i (pos 0)) (omega (arith, e, index_plane level x y h_detail, index_plane level x y (suc k)))

-- a child in half b of x
child_in_half : (entries : List ℤ) (level x cy b : ℕ) → b < 2
    → figure_in entries (suc level) (2 * x + b) cy
    ≡ quarter_figure (figure_in entries level x (cy / 2)) (children dimensions ^ level) ((stored dimensions entries).detail level (at x (cy / 2))) b (cy % 2)
child_in_half entries level x cy b g =
    let t = stored dimensions entries in
    figure-quarter t level (2 * x + b) cy
    ∙ ap₂ (λ (u k : ℕ). quarter_figure (figure_at t level u (cy / 2)) (children dimensions ^ level) (t.detail level (at u (cy / 2))) k (cy % 2))
    {x = (2 * x + b) / 2} {y = x} {u = (2 * x + b) % 2} {v = b} (omega arith) (omega arith)

-- the two children: h turns from the left one to the right one, and d with it
pub pair_is : (entries : List ℤ) (level x cy : ℕ) {f scale turned h v d : ℤ} → f ≡ figure_in entries level x (cy / 2)
    → scale ≡ pos (children dimensions ^ level) → turned ≡ half_sign (cy % 2) *ℤ scale
    → h ≡ (stored dimensions entries).detail level (at x (cy / 2)) h_detail
    → v ≡ (stored dimensions entries).detail level (at x (cy / 2)) v_detail
    → d ≡ (stored dimensions entries).detail level (at x (cy / 2)) d_detail
    → IsPair entries level x cy (pair_of f scale turned h v d)
pair_is entries level x cy {f} {scale} {turned} {h} {v} {d} ef es et eh ev ed =
    let t = stored dimensions entries in
    let ρ = figure_at t level x (cy / 2) ∷ pos (children dimensions ^ level) ∷ pos (cy % 2) ∷ t.detail level (at x (cy / 2)) h_detail
    ∷ t.detail level (at x (cy / 2)) v_detail ∷ t.detail level (at x (cy / 2)) d_detail ∷ [] in
    record {
      left_is =
          rw (ef, et, es, eh, ev, ed)
          (ring ρ (search read depth 40) tt ∙ sym (child_in_half entries level x cy 0 (omega arith)) ∙ ap (λ u. figure_at t (suc level) u cy) {y = 2 * x} (omega arith));
      right_is = rw (ef, et, es, eh, ev, ed) (ring ρ (search read depth 40) tt ∙ sym (child_in_half entries level x cy 1 (omega arith)));
    }
