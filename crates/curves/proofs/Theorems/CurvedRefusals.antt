-- Laws of what specs/CurvedRefusals.antt defines. The head of that file lists the main results.
use Rattle.std.specs.Prelude.{◌≡◌, List, ℕ, ◌<◌, ℤ}
use Rattle.std.proofs.Common.{arith}
use Rattle.placement.specs.declared.Placement.{Placement}
use Rattle.tile.proofs.Laws.IfDone.{if_refused}
use Rattle.tile.proofs.Laws.FirstNo.{each_number, first_no_among}
use Rattle.sheet.specs.declared.Site.{Site}
use Rattle.sheet.specs.declared.Site.TheVariants.{Alone, OnSheet}
use Rattle.corrections.specs.declared.Change.{Change}
use Rattle.corrections.specs.Corrections.{Tile}
use Rattle.curves.specs.CurvedCorrections.{CurveCall, curve_call_of, correct_curve_refusal, corrected_curve}
use Rattle.curves.specs.CurvedRefusals.{CurvedRefusals, all_questions}

at : (change : Change) (site : Site) (points : List ℤ) (count : ℕ) (marks : List ℕ) (placement : Placement) (t : Tile)
    → CurvedRefusals (curve_call_of change site points count marks placement) t
at change (Alone side) points count marks placement t =
    let qs = all_questions (curve_call_of change (Alone side) points count marks placement) t in record { each = each_number qs tt; no_other = first_no_among qs }
at change (OnSheet place) points count marks placement t =
    let qs = all_questions (curve_call_of change (OnSheet place) points count marks placement) t in record { each = each_number qs tt; no_other = first_no_among qs }

pub curved_refusals : (k : CurveCall) (t : Tile) → CurvedRefusals k t
curved_refusals k t = at k.change k.site k.points k.count k.marks k.placement t

pub refused_curve : (k : CurveCall) (t : Tile) → 0 < correct_curve_refusal k t → corrected_curve k t ≡ t
refused_curve k t h = if_refused _ t {number = correct_curve_refusal k t} (λ e. omega (arith, h, e))
