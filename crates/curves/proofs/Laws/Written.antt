-- Contours with marks, written as an outline: they are read back as they were, and what is asked of the outline is asked of each of them.
--
-- Main results
--   Shaped c, shaped_means                 a contour with as many coordinates as its marks say
--   curves_back                            the contours of the outline are those that it was made of
--   written_marks_lem, written_points_lem  there is a mark for each edge, and as many coordinates as the marks say
--   is_marked_contour reach c              questions 4, 16 and 6 of one contour
--   curves_asked                           they are answered yes of the outline exactly where they are of each contour
--   written_accepted                       so building accepts contours exactly where each of them is one, and they have no more edges than the most
use Rattle.std.specs.Prelude.{◌≡◌, refl, Bool, true, ◌&&◌, List, [], ◌∷◌, ◌++◌, ◌↔◌, ℕ, ◌+◌, ◌*◌, ◌≤◌, eqb, leb, length, take, drop, ℤ, pos}
use Rattle.std.proofs.Common.{sym, ◌∙◌, ap, ap₂, arith, length-append, take_at, drop_at}
use Rattle.integers.specs.Units.{steps_per_pixel, fewest_points, most_points, most_edges}
use Rattle.integers.specs.ListSum.{All, tally, joined}
use Rattle.integers.proofs.Theorems.ListSum.{all_append, all_front, all_back}
use Rattle.integers.specs.Tests.{every, between}
use Rattle.integers.proofs.Theorems.Tests.{eqb_means, and_true_means, every_means}
use Rattle.integers.proofs.Theorems.Every.{every_append, every-both}
use Rattle.placement.specs.declared.Placement.TheVariants.{None}
use Rattle.placement.proofs.Laws.PlacedPoints.{placed_none}
use Rattle.accuracy.specs.Outline.{edge_count}
use Rattle.chords.specs.Sides.{numbers, MarkedContour, marked_contour, marked_contours}
use Rattle.chords.specs.Chords.{outline_chords}
use Rattle.tile.specs.Questions.{Yes, question2, question4, question6}
use Rattle.sheet.specs.declared.Site.{Site}
use Rattle.sheet.specs.Sites.{tile_side, reach, SiteYes, site_questions}
use Rattle.sheet.proofs.Laws.SiteEdges.{site_answers}
use Rattle.curves.specs.MarkedQuestions.{is_mark, edges_marked, marked_questions}
use Rattle.curves.specs.CurveOutcomes.{curves_refusal}
use Rattle.curves.proofs.Theorems.CurveRefusals.{question16_means, question3_marked_means, question5_chords_means}
use Rattle.curves.proofs.Theorems.CurveTheorem.{curves_zero}
use Rattle.curves.specs.CurvedHolding.{is_shaped, written_points, written_counts, written_marks}

abbrev pub Shaped : MarkedContour → Type 0
Shaped c = length c.coordinates ≡ numbers c.marks

pub shaped_means : (cs : List MarkedContour) → (every is_shaped cs ≡ true) ↔ All Shaped cs
shaped_means = every_means is_shaped (λ c. question3_marked_means c.coordinates c.marks)

-- ---- read back
pub curves_back : (cs : List MarkedContour) → All Shaped cs → marked_contours (written_counts cs) (written_marks cs) (written_points cs) ≡ cs
unfolding marked_contours joined
curves_back [] h = refl
curves_back (c ∷ cs) h =
    let marks = written_marks cs in
    let points = written_points cs in
    let own = take_at c.marks marks (length c.marks) refl in
    let rest = drop_at c.marks marks (length c.marks) refl in
    ap₂ (λ l m. marked_contour l (take (numbers l) (c.coordinates ++ points)) ∷ marked_contours (written_counts cs) m (drop (numbers l) (c.coordinates ++ points))) own rest
    ∙ ap₂ (λ z w. marked_contour c.marks z ∷ marked_contours (written_counts cs) marks w) (take_at c.coordinates points (numbers c.marks) h.0)
    (drop_at c.coordinates points (numbers c.marks) h.0)
    ∙ ap (λ ds. c ∷ ds) (curves_back cs h.1)

pub written_marks_lem : (cs : List MarkedContour) → length (written_marks cs) ≡ edge_count (written_counts cs)
unfolding joined tally
written_marks_lem [] = refl
written_marks_lem (c ∷ cs) = length-append c.marks (written_marks cs) ∙ ap (λ n. length c.marks + n) (written_marks_lem cs)

numbers_append : (k l : List ℕ) → numbers (k ++ l) ≡ numbers k + numbers l
unfolding tally
numbers_append [] l = omega arith
numbers_append (m ∷ k) l = omega (arith, numbers_append k l)

pub written_points_lem : (cs : List MarkedContour) → All Shaped cs → length (written_points cs) ≡ numbers (written_marks cs)
unfolding joined tally
written_points_lem [] h = refl
written_points_lem (c ∷ cs) h =
    length-append c.coordinates (written_points cs) ∙ ap₂ ◌+◌ h.0 (written_points_lem cs h.1) ∙ sym (numbers_append c.marks (written_marks cs))

-- ---- what is asked of each contour
abbrev pub is_marked_contour : ℕ → MarkedContour → Bool
is_marked_contour side c = (question4 (length c.marks ∷ [])).answer && (every is_mark c.marks && (question6 side c.coordinates).answer)

every-joined : {A B : Type 0} (test : B → Bool) (f : A → List B) (l : List A) → every test (joined f l) ≡ every (λ a. every test (f a)) l
unfolding joined
every-joined test f [] = refl
every-joined test f (a ∷ l) = every_append test (f a) (joined f l) ∙ ap (λ b. every test (f a) && b) (every-joined test f l)

counts_asked : (cs : List MarkedContour) → (question4 (written_counts cs)).answer ≡ every (λ c. (question4 (length c.marks ∷ [])).answer) cs
counts_asked [] = refl
counts_asked (c ∷ cs) =
    every_append (λ n. leb fewest_points n && leb n most_points) (length c.marks ∷ []) (written_counts cs)
    ∙ ap (λ b. (question4 (length c.marks ∷ [])).answer && b) (counts_asked cs)

all_asked : (side : ℕ) (cs : List MarkedContour)
    → every (is_marked_contour side) cs ≡ ((question4 (written_counts cs)).answer && (every is_mark (written_marks cs) && (question6 side (written_points cs)).answer))
all_asked side cs =
    let on = between (pos 0) (pos (steps_per_pixel * side)) in
    every-both (λ c. (question4 (length c.marks ∷ [])).answer) (λ c. every is_mark c.marks && every on c.coordinates) cs
    ∙ ap₂ ◌&&◌ (sym (counts_asked cs))
    (every-both (λ c. every is_mark c.marks) (λ c. every on c.coordinates) cs
    ∙ sym (ap₂ ◌&&◌ (every-joined is_mark (λ c. c.marks) cs) (every-joined on (λ c. c.coordinates) cs)))

pub curves_asked : (side : ℕ) (cs : List MarkedContour)
    → (every (is_marked_contour side) cs ≡ true) ↔ (Yes (question4 (written_counts cs)) × (every is_mark (written_marks cs) ≡ true) × Yes (question6 side (written_points cs)))
curves_asked side cs =
    let four = (question4 (written_counts cs)).answer in
    let marked = every is_mark (written_marks cs) in
    let six = (question6 side (written_points cs)).answer in
    let outer = and_true_means four (marked && six) in
    let inner = and_true_means marked six in (
      λ e. (let h = outer.0 (sym (all_asked side cs) ∙ e) in let i = inner.0 h.1 in (h.0, i.0, i.1)),
      λ h. all_asked side cs ∙ outer.1 (h.0, inner.1 (h.1, h.2)),
    )

-- ---- what building asks of contours that are written as an outline
abbrev Right : Site → List MarkedContour → List ℤ → Type 0
Right site cs before = SiteYes site × Yes (question2 (tile_side site) before) × (every (is_marked_contour (reach site)) cs ≡ true) × (length (outline_chords cs) ≤ most_edges)

module _ (site : Site) (cs : List MarkedContour) (shaped : All Shaped cs) (before : List ℤ) where
  pub written_edges : edges_marked (written_points cs) (written_counts cs) (written_marks cs) None ≡ outline_chords cs
  written_edges = ap outline_chords (ap (marked_contours (written_counts cs) (written_marks cs)) (placed_none (written_points cs)) ∙ curves_back cs shaped)

  pub written_accepted : (curves_refusal site (written_points cs) (written_counts cs) (written_marks cs) None before ≡ 0) ↔ Right site cs before
  written_accepted =
      let points = written_points cs in
      let counts = written_counts cs in
      let marks = written_marks cs in
      let zero = curves_zero site points counts marks None 0 before in
      let outline = marked_questions (reach site) points counts marks None 0 in
      let still = ap (λ l. (question6 (reach site) l).answer) (placed_none points) in
      let said = question16_means counts marks in
      let five = question5_chords_means 0 (edges_marked points counts marks None) in
      let counted = ap length written_edges in (
        λ done. (let y = zero.0 done in
            let about = (site_answers site before).0 (all_front Yes (site_questions site before) outline y) in
            let o = all_back Yes (site_questions site before) outline y in (
              about.0,
              about.1,
              (curves_asked (reach site) cs).1 (o.0, ((and_true_means (every is_mark marks) (eqb (length marks) (edge_count counts))).0 o.1.0).0, sym still ∙ o.1.1.1.1.0),
              omega (arith, counted, five.0 o.1.1.1.1.1.0),
            )),
        λ h. (let each = (curves_asked (reach site) cs).0 h.2 in
            let one = (eqb_means (length marks) (edge_count counts)).1 (written_marks_lem cs) in
            zero.1
            (all_append Yes (site_questions site before) outline ((site_answers site before).1 (h.0, h.1)) (
              each.0,
              (
                (and_true_means (every is_mark marks) (eqb (length marks) (edge_count counts))).1 (each.1, one),
                (
                  (question3_marked_means points marks).1 (written_points_lem cs shaped),
                  (refl, (still ∙ each.2, (five.1 (omega (arith, counted, h.3)), tt))),
                ),
              ),
            ))),
      )
