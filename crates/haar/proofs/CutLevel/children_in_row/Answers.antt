-- Three entries and the scale, and the sums of them.
use Rattle.std.proofs.Common.{refl, ◌∙◌, ◌/◌, ◌%◌, arith}
use Rattle.std.proofs.Math.Nat.{mod-lt}
use Rattle.std.proofs.Math.Path.{subst⁻¹}
use Rattle.integers.proofs.Theorems.Within.{within_sign}
use Rattle.integers.proofs.Theorems.HalfSign.{half_sign_cases}
use Rattle.integers.proofs.Theorems.Bits.{back_is}
use Rattle.integers.proofs.Theorems.Held.{held_number, held_within}
use Rattle.haar.specs.Pairs.{IsPair}
use Rattle.haar.proofs.CellDetails.{detail_is, parent_within, scale_within, pair_is}
use Rattle.haar.proofs.CutLevel.children_in_row.Goals as goal

pub beside-requires : goal.beside-requires
beside-requires c =
    let d = c.args.self.now.drawable in
    let entry = d.in_range_lem.each in
    let scale = held_within (held_number tt (scale_within d c.requires c.scale-scale.ensures)) in
    record {
      figure_within = held_within (held_number tt (parent_within d c.requires));
      scale_within = scale;
      turned_within = within_sign (half_sign_cases (c.args.cy % 2) (mod-lt _ (omega arith))) scale;
      h_within = held_within (held_number tt (entry _));
      v_within = held_within (held_number tt (entry _));
      d_within = held_within (held_number tt (entry _));
    }

pub returns : goal.returns
returns c =
    let a = c.args.self.now in
    let e = c.first_detail-first.ensures in
    let d = c.args.self.now.drawable in
    let entry = d.in_range_lem.each in
    subst⁻¹ (IsPair a.table.now a.level c.args.x c.args.cy) c.beside.ensures
    (pair_is a.table.now a.level c.args.x c.args.cy
    (back_is tt (parent_within d c.requires) ∙ c.requires.is_figure)
    (back_is tt (scale_within d c.requires c.scale-scale.ensures) ∙ c.scale-scale.ensures)
    refl
    (back_is tt (entry _) ∙ detail_is a.table.now a.level c.args.x (c.args.cy / 2) 0 e (omega arith))
    (back_is tt (entry _) ∙ detail_is a.table.now a.level c.args.x (c.args.cy / 2) 1 e (omega arith))
    (back_is tt (entry _) ∙ detail_is a.table.now a.level c.args.x (c.args.cy / 2) 2 e (omega arith)))
