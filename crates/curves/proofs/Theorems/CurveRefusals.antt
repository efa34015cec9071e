-- Laws of what specs/CurveRefusals.antt defines. The head of that file lists the main results.
use Rattle.std.specs.Prelude.{◌≡◌, List, ◌↔◌, ℕ, ◌+◌, ◌<◌, ◌≤◌, eqb, length, ℤ}
use Rattle.std.proofs.Common.{arith}
use Rattle.integers.specs.Units.{most_edges}
use Rattle.integers.specs.ListSum.{All}
use Rattle.integers.specs.Tests.{every}
use Rattle.integers.proofs.Theorems.Tests.{eqb_means, leb_means, and_means, every_means}
use Rattle.edge.specs.declared.Edge.{Edge}
use Rattle.placement.specs.declared.Placement.{Placement}
use Rattle.accuracy.specs.Outline.{edge_count}
use Rattle.chords.specs.Sides.{numbers}
use Rattle.tile.specs.Questions.{Yes}
use Rattle.tile.proofs.Laws.IfDone.{if_refused}
use Rattle.tile.proofs.Laws.FirstNo.{each_number, first_no_among}
use Rattle.sheet.specs.declared.Site.{Site}
use Rattle.sheet.specs.declared.Site.TheVariants.{Alone, OnSheet}
use Rattle.sheet.specs.Sites.{entries_at}
use Rattle.curves.specs.MarkedQuestions.{is_mark, question16, question3_marked, question5_chords, edges_marked, curve_questions}
use Rattle.curves.specs.CurveOutcomes.{curves_refusal, curves_result, curves_table}
use Rattle.curves.specs.CurveRefusals.{CurveRefusals}

pub curve_refusals : (site : Site) (points : List ℤ) (counts marks : List ℕ) (placement : Placement) (table : List ℤ)
    → CurveRefusals site points counts marks placement table
curve_refusals (Alone side) points counts marks placement table =
    let qs = curve_questions (Alone side) points counts marks placement 0 table in
    record { each = each_number qs tt; no_other = first_no_among qs }
curve_refusals (OnSheet place) points counts marks placement table =
    let qs = curve_questions (OnSheet place) points counts marks placement 0 table in
    record { each = each_number qs tt; no_other = first_no_among qs }

-- ---- what a refusal carries and leaves
module _ (site : Site) (points : List ℤ) (counts marks : List ℕ) (placement : Placement) (table : List ℤ)
    (refused : 0 < curves_refusal site points counts marks placement table) where
  nonzero : curves_refusal site points counts marks placement table ≡ 0 → ⊥
  nonzero e = omega (arith, refused, e)

  pub refused_curves_edges : (curves_result site points counts marks placement table).edges ≡ 0
  refused_curves_edges = if_refused (length (edges_marked points counts marks placement)) 0 nonzero

  pub refused_curves_table : curves_table site points counts marks placement table ≡ table
  refused_curves_table = if_refused (entries_at site (edges_marked points counts marks placement)) table nonzero

-- ---- the questions
pub question16_means : (counts marks : List ℕ) → Yes (question16 counts marks) ↔ (All (λ m. m ≤ 1) marks × (length marks ≡ edge_count counts))
question16_means counts marks =
    and_means (every is_mark marks) (eqb (length marks) (edge_count counts)) (every_means is_mark (λ m. leb_means m 1) marks) (eqb_means (length marks) (edge_count counts))

pub question3_marked_means : (points : List ℤ) (marks : List ℕ) → Yes (question3_marked points marks) ↔ (length points ≡ numbers marks)
question3_marked_means points marks = eqb_means (length points) (numbers marks)

pub question5_chords_means : (already : ℕ) (es : List Edge) → Yes (question5_chords already es) ↔ (already + length es ≤ most_edges)
question5_chords_means already es = leb_means (already + length es) most_edges
