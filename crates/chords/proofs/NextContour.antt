-- The contour that is next in an outline: the first count's marks, and their points.
--
-- Main results
--   Walked                       the contours that are left, from number k on: there are as many marks as their counts say, and all points are on a sheet
--   marks_there                  the next contour's marks are there
--   own_few, own_on_sheet        how many there are; its points are on a sheet
--   walked_next                  the others are left then
--   outline_next,
--   outline_counted, outline_end it is the first of those that are left, by its edges; where no count is left none is
use Rattle.std.specs.Prelude.{◌≡◌, ℕ, ◌+◌, ◌<◌, ◌≤◌, List, [], ◌∷◌, ◌++◌, length, take, drop}
use Rattle.std.proofs.Common.{sym, ap, ap₂, ◌∙◌, arith, get_or, drop-cons, add-one, length-append, length-drop, length-take-le, drop_of_length-le}
use Rattle.std.proofs.Math.Path.{subst⁻¹}
use Rattle.integers.specs.ListSum.{All, tally, joined}
use Rattle.integers.proofs.Theorems.ListSum.{all_take, all_drop}
use Rattle.curve.specs.Curve.{OnSheet}
use Rattle.accuracy.specs.Outline.{edge_count}
use Rattle.chords.specs.Sides.{numbers, MarkedContour, marked_contour, marked_contours}
use Rattle.chords.specs.Chords.{contour_chords, outline_chords}

-- c has what is left of the outline
pub record Walked (counts : List ℕ) (k : ℕ) (c : MarkedContour) : Type 0 where
  pub as_counted : length c.marks ≡ edge_count (drop k counts)
  pub on_sheet : All OnSheet c.coordinates

-- its contours
abbrev pub contours_left : List ℕ → ℕ → MarkedContour → List MarkedContour
contours_left counts k c = marked_contours (drop k counts) c.marks c.coordinates

pub outline_end : (counts : List ℕ) (k : ℕ) (c : MarkedContour) → length counts ≤ k → outline_chords (contours_left counts k c) ≡ []
unfolding marked_contours joined
outline_end counts k c h = ap (λ l. outline_chords (marked_contours l c.marks c.coordinates)) (drop_of_length-le counts h)

-- the first n marks and their points, and what is left after them
abbrev pub own : ℕ → MarkedContour → MarkedContour
own n c = marked_contour (take n c.marks) (take (numbers (take n c.marks)) c.coordinates)

abbrev pub rest : ℕ → MarkedContour → MarkedContour
rest n c = marked_contour (drop n c.marks) (drop (numbers (take n c.marks)) c.coordinates)

module _ (counts : List ℕ) (k : ℕ) (h : k < length counts) {c : MarkedContour} (w : Walked counts k c) where
  abbrev n : ℕ
  n = get_or counts k 0

  cut : drop k counts ≡ n ∷ drop (k + 1) counts
  cut = drop-cons counts k 0 h ∙ ap (λ m. n ∷ drop m counts) (sym (add-one k))

  counted : length c.marks ≡ n + edge_count (drop (k + 1) counts)
  unfolding tally
  counted = w.as_counted ∙ ap edge_count cut

  pub marks_there : n ≤ length c.marks
  marks_there = omega (arith, counted)

  own_count : length (take n c.marks) ≡ n
  own_count = length-take-le n c.marks marks_there

  -- o has the first n marks and their points, and r the others
  module _ {o r : MarkedContour} (e : o ≡ own n c) (f : r ≡ rest n c) where
    pub own_few : length o.marks ≡ n
    own_few = ap (λ (x : MarkedContour). length x.marks) e ∙ own_count

    pub own_on_sheet : All OnSheet o.coordinates
    own_on_sheet = subst⁻¹ (λ (x : MarkedContour). All OnSheet x.coordinates) e (all_take OnSheet (numbers (take n c.marks)) c.coordinates w.on_sheet)

    pub walked_next : Walked counts (k + 1) r
    walked_next = subst⁻¹ (Walked counts (k + 1)) f (record {
      as_counted = omega (arith, counted, length-drop n c.marks);
      on_sheet = all_drop OnSheet (numbers (take n c.marks)) c.coordinates w.on_sheet;
    })

    pub outline_next : outline_chords (contours_left counts k c) ≡ contour_chords o ++ outline_chords (contours_left counts (k + 1) r)
    unfolding marked_contours joined
    outline_next =
        ap (λ l. outline_chords (marked_contours l c.marks c.coordinates)) cut
        ∙ sym (ap₂ (λ x y. contour_chords x ++ outline_chords (contours_left counts (k + 1) y)) e f)

    pub outline_counted : length (outline_chords (contours_left counts k c)) ≡ length (contour_chords o) + length (outline_chords (contours_left counts (k + 1) r))
    outline_counted = ap length outline_next ∙ length-append (contour_chords o) (outline_chords (contours_left counts (k + 1) r))
