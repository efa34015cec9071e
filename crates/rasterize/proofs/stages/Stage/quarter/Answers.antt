-- The quarter's numbers, half the width, and how far the ends lie before its middles.
use Rattle.std.proofs.Common.{◌<◌, arith}
use Rattle.std.proofs.Math.Path.{subst⁻¹}
use Rattle.edge.proofs.Laws.Cells.{half_below}
use Rattle.rasterize.proofs.Laws.Stages.{stage_few}
use Rattle.rasterize.proofs.stages.Stage.quarter.Goals as goal

pub overflow_add-result-2 : goal.overflow_add-result-2
overflow_add-result-2 c =
    let r = c.requires in
    record { fits = omega (arith, stage_few r.x_below r.shallow, subst⁻¹ (λ n. n < 2) c.half_with.ensures (half_below _)) }

pub overflow_add-result-3 : goal.overflow_add-result-3
overflow_add-result-3 c =
    let r = c.requires in
    record { fits = omega (arith, stage_few r.y_below r.shallow, subst⁻¹ (λ n. n < 2) c.half_with-2.ensures (half_below _)) }
