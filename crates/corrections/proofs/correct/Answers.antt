-- The questions about the site and the contour; the rest is done by `amend`, to which a contour of points is one with every mark 0.
use Rattle.std.proofs.Common.{◌≡◌, List, [], ◌∷◌, ℕ, ◌+◌, ◌*◌, ◌-◌, ◌≤◌, length, take, replicate, ℤ, sym, ◌∙◌, ap, ap₂, arith}
use Rattle.std.proofs.lemmas.Result.{err_from_is_err_and}
use Rattle.integers.specs.Units.{most_points}
use Rattle.integers.specs.ListSum.{tally}
use Rattle.edge.specs.declared.Edge.{Edge}
use Rattle.placement.specs.declared.Placement.{Placement}
use Rattle.placement.specs.Placed.{placed}
use Rattle.placement.proofs.Laws.PlacedPoints.{placed-length}
use Rattle.accuracy.specs.Outline.{contour_edges}
use Rattle.chords.specs.Sides.{numbers, marked_contour}
use Rattle.chords.specs.Chords.{contour_chords}
use Rattle.chords.proofs.Theorems.AllStraight.{straight_contour, zeros-numbers, zeros-take}
use Rattle.tile.specs.declared.refusal.Refusal.{Refusal}
use Rattle.tile.specs.Answers.{number_of}
use Rattle.tile.specs.Questions.{Question, first_no, outline_questions}
use Rattle.tile.specs.Outcomes.{if_done}
use Rattle.tile.proofs.Theorems.Refusals.{question3_means, question4_means}
use Rattle.tile.proofs.Laws.IfDone.{refused_keeps}
use Rattle.tile.proofs.Laws.Asking.{first_asked, first_passed}
use Rattle.sheet.specs.declared.Site.{Site}
use Rattle.sheet.specs.Sites.{reach, site_questions}
use Rattle.sheet.proofs.Laws.SiteEdges.{site_zero}
use Rattle.corrections.specs.declared.Change.{Change}
use Rattle.corrections.specs.Corrections.{Call, Tile, call_of, tile_of, contour_of, already_in, contour_questions, tile_questions, edges_after, would_leave, correct_refusal, corrected}
use Rattle.corrections.specs.Amending.{Amendable, amend_refusal, amended}
use Rattle.corrections.proofs.Laws.Answered.{AskedYes, asked_yes, contour_zero}
use Rattle.corrections.proofs.Laws.AskedContour.{few_edges, contour_edge-count}
use Rattle.corrections.proofs.correct.Goals as goal

-- ---- the call, and the tile that it was given
module _ (site : Site) (change : Change) (points : List ℤ) (n : ℕ) (placement : Placement) (t : Tile) where
  abbrev call : Call
  call = call_of change site points n placement

  -- what is asked about the site, about the contour, and about the tile
  abbrev first : List Question
  first = site_questions site t.table

  abbrev second : List Question
  second = outline_questions (reach site) points (n ∷ []) placement (already_in change t.edges)

  abbrev about : List Question
  about = contour_questions call t

  abbrev later : List Question
  later = tile_questions call t

  by_site : (r : Refusal) → number_of r ≡ first_no first → number_of r ≡ correct_refusal call t
  by_site r e = first_asked about later r (first_asked first second r e)

  -- nothing is refused about the site; as the code asks about the contour
  module _ (z : 0 ≡ first_no first) {m k : ℕ} (reach-is : k ≡ reach site) (in-is : m ≡ already_in change t.edges) where
    asked : {q : ℕ} → q ≡ first_no (outline_questions k points (n ∷ []) placement m) → q ≡ first_no about
    asked e =
        e ∙ ap₂ (λ r i. first_no (outline_questions r points (n ∷ []) placement i)) reach-is in-is
        ∙ sym (first_passed first second (site_zero site t.table (sym z)))

    by_contour : (r : Refusal) → number_of r ≡ first_no (outline_questions k points (n ∷ []) placement m) → number_of r ≡ correct_refusal call t
    by_contour r e = first_asked about later r (asked e)

  -- nothing is refused about the contour: no edge is curved
  module _ (zero : 0 ≡ first_no about) where
    yes : AskedYes call t
    yes = (contour_zero call t).0 (sym zero)

    passed : correct_refusal call t ≡ first_no later
    passed = first_passed about later ((asked_yes call t).1 yes)

    abbrev drawn : List ℤ
    drawn = placed placement points

    few_points : n ≤ most_points
    few_points = ((question4_means (n ∷ [])).0 yes.yes4).0.1

    -- the marks, as a part of the array of zeros
    abbrev marks : List ℕ
    marks = take n (replicate most_points 0)

    marks-are : marks ≡ replicate n 0
    marks-are =
        let all : most_points ≡ n + (most_points - n) = omega (arith, few_points) in
        ap (λ m. take {A = ℕ} n (replicate m 0)) all ∙ zeros-take n (most_points - n)

    long : length points ≡ 2 * n
    unfolding tally
    long = (question3_means points (n ∷ [])).0 yes.yes3 ∙ omega arith

    edges_are : contour_chords (marked_contour marks drawn) ≡ contour_edges (contour_of call)
    edges_are = ap (λ l. contour_chords (marked_contour l drawn)) marks-are ∙ straight_contour n drawn (placed-length placement points ∙ long)

    -- there are as many points as the marks say
    as_many : length drawn ≡ numbers marks
    as_many = placed-length placement points ∙ long ∙ sym (ap numbers marks-are ∙ zeros-numbers n)

    amendable : Amendable site change (marked_contour marks drawn) n t
    amendable = record {
      site_yes = yes.site;
      yes2 = yes.yes2;
      yes6 = yes.yes6;
      counted = sym (ap length edges_are ∙ contour_edge-count call t yes);
      few = few_edges call t yes;
    }

    number_is : amend_refusal site change (contour_chords (marked_contour marks drawn)) n t ≡ correct_refusal call t
    number_is = ap (λ (es : List Edge). amend_refusal site change es n t) edges_are ∙ sym passed

    left_is : amended site change (contour_chords (marked_contour marks drawn)) n t ≡ corrected call t
    left_is =
        ap (λ (es : List Edge). amended site change es n t) edges_are
        ∙ ap (λ m. if_done m (tile_of (would_leave call t) (edges_after change n t.edges)) t) (sym passed)

pub returns-in_err-site_refusal-clause-value : goal.returns-in_err-site_refusal-clause-value
returns-in_err-site_refusal-clause-value c =
    let a = c.args in
    let t = tile_of a.table.now a.edges.now in
    let p = err_from_is_err_and c.from_residual.result c.from_residual.ensures.1 in
    rw (p.1, p.2) (by_site a.site a.change a.points.now a.count a.placement t _ c.in_err-site_refusal.ensures.value)

pub returns-in_err-site_refusal-clause-edges_after : goal.returns-in_err-site_refusal-clause-edges_after
returns-in_err-site_refusal-clause-edges_after c =
    let a = c.args in
    let t = tile_of a.table.now a.edges.now in
    refused_keeps _ t _ (by_site a.site a.change a.points.now a.count a.placement t _ c.in_err-site_refusal.ensures.value)

pub returns-in_err-outline_refusal-clause-value : goal.returns-in_err-outline_refusal-clause-value
returns-in_err-outline_refusal-clause-value c =
    let a = c.args in
    let t = tile_of a.table.now a.edges.now in
    let p = err_from_is_err_and c.from_residual-in_err-outline_refusal.result c.from_residual-in_err-outline_refusal.ensures.1 in
    rw (p.1, p.2)
    (by_contour a.site a.change a.points.now a.count a.placement t c.in_ok-site_refusal.ensures.value c.reach_of-reach.ensures c.already_in-already.ensures _
    c.in_err-outline_refusal.ensures.value)

pub returns-in_err-outline_refusal-clause-edges_after : goal.returns-in_err-outline_refusal-clause-edges_after
returns-in_err-outline_refusal-clause-edges_after c =
    let a = c.args in
    let t = tile_of a.table.now a.edges.now in
    refused_keeps _ t _
    (by_contour a.site a.change a.points.now a.count a.placement t c.in_ok-site_refusal.ensures.value c.reach_of-reach.ensures c.already_in-already.ensures _
    c.in_err-outline_refusal.ensures.value)

pub invariant_of-placed : goal.invariant_of-placed
invariant_of-placed c =
    let a = c.args in
    let t = tile_of a.table.now a.edges.now in
    let zero = asked a.site a.change a.points.now a.count a.placement t c.in_ok-site_refusal.ensures.value c.reach_of-reach.ensures c.already_in-already.ensures
    c.in_ok-outline_refusal.ensures.value in
    record { placeable = (yes a.site a.change a.points.now a.count a.placement t zero).yes12 }

pub invariant_of-contour : goal.invariant_of-contour
invariant_of-contour c =
    let a = c.args in
    let t = tile_of a.table.now a.edges.now in
    record {
      as_many =
          as_many a.site a.change a.points.now a.count a.placement t
          (asked a.site a.change a.points.now a.count a.placement t c.in_ok-site_refusal.ensures.value c.reach_of-reach.ensures c.already_in-already.ensures
          c.in_ok-outline_refusal.ensures.value);
    }

pub amend-requires : goal.amend-requires
amend-requires c =
    let a = c.args in
    let t = tile_of a.table.now a.edges.now in
    amendable a.site a.change a.points.now a.count a.placement t
    (asked a.site a.change a.points.now a.count a.placement t c.in_ok-site_refusal.ensures.value c.reach_of-reach.ensures c.already_in-already.ensures
    c.in_ok-outline_refusal.ensures.value)

pub returns-clause-value : goal.returns-clause-value
returns-clause-value c =
    let a = c.args in
    let t = tile_of a.table.now a.edges.now in
    c.amend.ensures.value
    ∙ number_is a.site a.change a.points.now a.count a.placement t
    (asked a.site a.change a.points.now a.count a.placement t c.in_ok-site_refusal.ensures.value c.reach_of-reach.ensures c.already_in-already.ensures
    c.in_ok-outline_refusal.ensures.value)

pub returns-clause-edges_after : goal.returns-clause-edges_after
returns-clause-edges_after c =
    let a = c.args in
    let t = tile_of a.table.now a.edges.now in
    c.amend.ensures.edges_after
    ∙ left_is a.site a.change a.points.now a.count a.placement t
    (asked a.site a.change a.points.now a.count a.placement t c.in_ok-site_refusal.ensures.value c.reach_of-reach.ensures c.already_in-already.ensures
    c.in_ok-outline_refusal.ensures.value)
