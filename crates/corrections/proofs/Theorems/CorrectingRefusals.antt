-- Laws of what specs/CorrectingRefusals.antt defines. The head of that file lists the main results.
use Rattle.std.specs.Prelude.{◌≡◌, ◌↔◌, ◌≢◌, List, [], ◌∷◌, ◌++◌, ℕ, ◌+◌, ◌<◌, ◌≤◌, ℤ, pos}
use Rattle.std.proofs.Common.{sym, ◌∙◌, ap, true≢false, arith, le-leb}
use Rattle.integers.specs.Units.{most_points, most_edges, entry_limit}
use Rattle.integers.specs.Within.{Within}
use Rattle.integers.specs.ListSum.{All, tally}
use Rattle.integers.proofs.Theorems.Tests.{leb_means, and_means}
use Rattle.placement.specs.declared.Placement.{Placement}
use Rattle.accuracy.specs.Outline.{edge_count}
use Rattle.tile.specs.Questions.{Yes, No, DecidedBy, question5_beside, question9}
use Rattle.tile.proofs.Theorems.Refusals.{question4_means, question9_means}
use Rattle.tile.proofs.Laws.IfDone.{if_refused}
use Rattle.tile.proofs.Laws.FirstNo.{decided_no, each_number, first_no_among}
use Rattle.sheet.specs.declared.SheetTile.{SheetTile}
use Rattle.sheet.specs.declared.Site.{Site}
use Rattle.sheet.specs.declared.Site.TheVariants.{Alone, OnSheet}
use Rattle.corrections.specs.declared.Change.{Change}
use Rattle.corrections.specs.declared.Change.TheVariants.{Put, Take}
use Rattle.corrections.specs.Corrections.{Tile, Call, call_of, question13, question9_twice, already_in, taken_out, contour_questions, correcting_questions, correct_refusal, corrected}
use Rattle.corrections.specs.CorrectingRefusals.{CorrectingRefusals, OnSheetRefusals, q13, q4, q5, q9}

pub correcting_refusals : (change : Change) (side : ℕ) (points : List ℤ) (count : ℕ) (placement : Placement) (t : Tile)
    → CorrectingRefusals change side points count placement t
correcting_refusals change side points count placement t =
    let k = call_of change (Alone side) points count placement in
    let each = each_number (correcting_questions k t) tt in
    record {
      refused1 = each.0;
      others = record {
        refused2 = each.1.0;
        refused4 = each.1.1.0;
        refused5 = each.1.1.1.0;
        refused3 = each.1.1.1.1.0;
        refused12 = each.1.1.1.1.1.0;
        refused6 = each.1.1.1.1.1.1.0;
        refused13 = each.1.1.1.1.1.1.1.0;
        refused9 = each.1.1.1.1.1.1.1.1.0;
        accepted = each.1.1.1.1.1.1.1.1.1;
      };
      no_other = first_no_among (correcting_questions k t);
    }

pub on_sheet_refusals : (change : Change) (place : SheetTile) (points : List ℤ) (count : ℕ) (placement : Placement) (t : Tile)
    → OnSheetRefusals change place points count placement t
on_sheet_refusals change place points count placement t =
    let k = call_of change (OnSheet place) points count placement in
    let each = each_number (correcting_questions k t) tt in
    record {
      refused14 = each.0;
      refused15 = each.1.0;
      others = record {
        refused2 = each.1.1.0;
        refused4 = each.1.1.1.0;
        refused5 = each.1.1.1.1.0;
        refused3 = each.1.1.1.1.1.0;
        refused12 = each.1.1.1.1.1.1.0;
        refused6 = each.1.1.1.1.1.1.1.0;
        refused13 = each.1.1.1.1.1.1.1.1.0;
        refused9 = each.1.1.1.1.1.1.1.1.1.0;
        accepted = each.1.1.1.1.1.1.1.1.1.1;
      };
      no_other = first_no_among (correcting_questions k t);
    }

-- ---- at either kind of site
module _ (change : Change) (points : List ℤ) (count : ℕ) (placement : Placement) (t : Tile) where
  abbrev at : Site → Call
  at site = call_of change site points count placement

  pub decided13 : (site : Site) → correct_refusal (at site) t ≡ 13 → DecidedBy (contour_questions (at site) t) (q13 (at site) t)
  decided13 (Alone side) = (correcting_refusals change side points count placement t).others.refused13.0
  decided13 (OnSheet place) = (on_sheet_refusals change place points count placement t).others.refused13.0

  pub decided9 : (site : Site) → correct_refusal (at site) t ≡ 9 → DecidedBy (contour_questions (at site) t ++ (q13 (at site) t ∷ [])) (q9 (at site) t)
  decided9 (Alone side) = (correcting_refusals change side points count placement t).others.refused9.0
  decided9 (OnSheet place) = (on_sheet_refusals change place points count placement t).others.refused9.0

  -- questions 4 and 5
  decided5 : (site : Site) → correct_refusal (at site) t ≡ 5 → Yes (q4 (at site)) × No (q5 (at site) t)
  decided5 (Alone side) n = let d = (correcting_refusals change side points count placement t).others.refused5.0 n in (d.1.1.0, d.1.1.1)
  decided5 (OnSheet place) n = let d = (on_sheet_refusals change place points count placement t).others.refused5.0 n in (d.1.1.1.0, d.1.1.1.1)

-- putting in takes out no edge
pub put_never_13 : (k : Call) (t : Tile) → k.change ≡ Put → correct_refusal k t ≢ 13
put_never_13 k t e n =
    let no = decided_no (contour_questions k t) (q13 k t) (decided13 k.change k.points k.count k.placement t k.site n) in
    let yes = ap (λ c. (question13 (taken_out c k.count) t.edges).answer) e ∙ le-leb 0 t.edges (omega arith) in
    true≢false (sym yes ∙ no)

-- question 4 leaves question 5 nothing to refuse: no contour has more points than the most edges
pub take_never_5 : (k : Call) (t : Tile) → k.change ≡ Take → correct_refusal k t ≢ 5
unfolding tally
take_never_5 k t e n =
    let d = decided5 k.change k.points k.count k.placement t k.site n in
    let few : k.count ≤ most_points = ((question4_means (k.count ∷ [])).0 d.0).0.1 in
    let yes = ap (λ c. (question5_beside (already_in c t.edges) (k.count ∷ [])).answer) e ∙ le-leb (0 + edge_count (k.count ∷ [])) most_edges (omega (arith, few)) in
    true≢false (sym yes ∙ d.1)

-- "A refused call changes nothing."
pub refused_tile : (k : Call) (t : Tile) → 0 < correct_refusal k t → corrected k t ≡ t
refused_tile k t h = if_refused _ t {number = correct_refusal k t} (λ e. omega (arith, h, e))

-- ---- the questions
-- "whether the record's count plus the contour's is at most 1,024"
pub question5_beside_means : (already : ℕ) (counts : List ℕ) → Yes (question5_beside already counts) ↔ (already + edge_count counts ≤ most_edges)
question5_beside_means already counts = leb_means (already + edge_count counts) most_edges

-- "Taking out more edges than the record counts gives 13"
pub question13_means : (out edges : ℕ) → Yes (question13 out edges) ↔ (out ≤ edges)
question13_means out edges = leb_means out edges

-- "Question 9 is decided on the table before the call and on the one it would leave."
pub question9_twice_means : (before left : List ℤ)
    → Yes (question9_twice before left) ↔ (All (Within (pos entry_limit)) before × All (Within (pos entry_limit)) left)
question9_twice_means before left = and_means (question9 before).answer (question9 left).answer (question9_means before) (question9_means left)
