-- The cell's width is that of a tile with as many levels as are left below it.
use Rattle.std.proofs.Common.{◌≡◌, refl, ◌∙◌, ap, ap₂, ℕ, ◌*◌, ◌-◌, ◌^◌, ◌<◌, ◌≤◌, ℤ, pos, ◌*ℤ◌, w64, to_z, arith}
use Rattle.std.proofs.lemmas.Int.{to_z_pos}
use Rattle.std.proofs.Math.Path.{subst⁻¹}
use Rattle.std.specs.Int.Signed.{mag}
use Rattle.integers.specs.Units.{steps_per_pixel, greatest_depth}
use Rattle.integers.proofs.Theorems.Order.{pos-≤ℤ, nonneg}
use Rattle.integers.specs.Within.{Within}
use Rattle.integers.proofs.Theorems.Within.{within_le, within_self}
use Rattle.integers.specs.Bits.{back}
use Rattle.integers.proofs.Theorems.Bits.{back_is, within_back, fits_within, result_is}
use Rattle.edge.specs.Room.{coordinate_limit}
use Rattle.edge.specs.Code.{before_middle}
use Rattle.accuracy.specs.Tile.{cell_width}
use Rattle.accuracy.proofs.Laws.EntryBounds.{tile_width_le}
use Rattle.rasterize.proofs.Laws.Stages.{stage_eq, stage_few}
use Rattle.rasterize.proofs.stages.Stage.at.Goals as goal

-- the width of the tile that has the levels from `level` on
module _ (depth level : ℕ) {width : ℕ} (deep : depth ≤ greatest_depth) (is : width ≡ cell_width (depth - level) 0) where
  width_is : width ≡ cell_width depth level
  width_is = let same : depth - level - 0 ≡ depth - level = omega arith in is ∙ ap (λ k. steps_per_pixel * 2 ^ k) same

  narrow : width ≤ coordinate_limit
  narrow = omega (arith, is, tile_width_le {depth = depth - level} (omega (arith, deep)))

  signed : to_z w64 width ≡ pos (cell_width depth level)
  signed = to_z_pos w64 width (omega (arith, narrow)) ∙ ap pos width_is

  wide : Within (pos coordinate_limit) (to_z w64 width)
  wide = subst⁻¹ (Within (pos coordinate_limit)) signed (within_le (pos-≤ℤ (omega (arith, narrow, width_is))) (within_self (nonneg (cell_width depth level))))

  -- what `before_middle` answers
  answered : {r p q : ℤ} (n : ℕ) → Within (pos coordinate_limit) p → Within (pos coordinate_limit) q → mag r < 2 ^ 63
      → r ≡ before_middle (pos n *ℤ to_z w64 width) (to_z w64 width) (back p) (back q)
      → back r ≡ before_middle (pos (n * cell_width depth level)) (pos (cell_width depth level)) p q
  answered {p = p} {q = q} n i j k e =
      result_is k (e ∙ ap₂ (λ p q. before_middle (pos n *ℤ to_z w64 width) (to_z w64 width) p q) (back_is tt i) (back_is tt j)
      ∙ ap (λ z. before_middle (pos n *ℤ z) z p q) signed)

again : {z : ℤ} → Within (pos coordinate_limit) z → Within (pos coordinate_limit) (back z)
again i = within_back (fits_within tt i) i

pub before_middle-requires : goal.before_middle-requires
before_middle-requires c =
    let p = c.requires in
    (stage_few p.2 (omega (arith, p.0, p.1)), wide c.args.depth c.args.c.level p.0 c.tile_width-width.ensures, again p.4.x0, again p.4.x1)

pub before_middle-requires-2 : goal.before_middle-requires-2
before_middle-requires-2 c =
    let p = c.requires in
    (stage_few p.3 (omega (arith, p.0, p.1)), wide c.args.depth c.args.c.level p.0 c.tile_width-width.ensures, again p.4.y0, again p.4.y1)

pub returns : goal.returns
returns c =
    let p = c.requires in
    let w = c.tile_width-width.ensures in
    stage_eq refl c.cells_across.ensures refl refl (width_is c.args.depth c.args.c.level p.0 w) (answered c.args.depth c.args.c.level p.0 w c.args.c.x p.4.x0 p.4.x1 c.before_middle.type_inv c.before_middle.ensures)
    (answered c.args.depth c.args.c.level p.0 w c.args.c.y p.4.y0 p.4.y1 c.before_middle-2.type_inv c.before_middle-2.ensures)
