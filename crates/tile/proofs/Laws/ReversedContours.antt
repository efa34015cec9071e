-- Contours traced the other way round: a test of every coordinate has the same answer. With the points of each in the reverse order their counts are as they
-- were; and to reverse and then to place is to place and then to reverse.
--
-- Main results
--   reverse-counts               each has as many points as before
--   back-every                   where the edges are walked backwards, in whatever order, a test of every coordinate has the same answer
--   reverse-placed               reversed and then placed they are as placed and then reversed
use Rattle.std.specs.Prelude.{◌≡◌, Bool, ◌&&◌, length, ℤ}
use Rattle.std.proofs.Math.Path.{refl, ap, fun_ext}
use Rattle.std.proofs.Common.{sym, ◌∙◌, ap₂}
use Rattle.std.proofs.Math.Bool.{and_assoc}
use mathlib.Core.List.{List, [], ◌∷◌, ◌++◌, map, map-append, map-map, reverse, reverse-cons}
use Rattle.std.proofs.lemmas.List.{length-reverse, length-map}
use Rattle.integers.specs.Tests.{every}
use Rattle.placement.specs.declared.Placement.{Placement}
use Rattle.placement.specs.Placed.{across_of, down_of, placed}
use Rattle.accuracy.specs.Outline.{Point, contours_of, outline_edges}
use Rattle.accuracy.proofs.Laws.Reversal.{EdgesReversed}
use Rattle.accuracy.proofs.Laws.EdgeEnds.{every-reversed}
use Rattle.tile.specs.Written.{Contour, coordinates_of, coordinates, counts_of}
use Rattle.tile.proofs.Laws.Written.{contours_back, coordinates_asked}

pub reverse-counts : (cs : List Contour) → counts_of (map reverse cs) ≡ counts_of cs
reverse-counts cs = map-map length reverse cs ∙ ap (λ f. map f cs) (fun_ext length-reverse)

-- ---- a test of every coordinate is one of every point
by_points : (test : ℤ → Bool) (c : Contour) → every test (coordinates_of c) ≡ every (λ p. test p.x && test p.y) c
unfolding coordinates_of
by_points test [] = refl
by_points test (p ∷ c) =
    sym (and_assoc (test p.x) (test p.y) (every test (coordinates_of c))) ∙ ap (λ b. test p.x && test p.y && b) (by_points test c)

pub back-every : (test : ℤ → Bool) (cs ds : List Contour) → EdgesReversed (outline_edges cs) (outline_edges ds)
    → every test (coordinates ds) ≡ every test (coordinates cs)
back-every test cs ds back =
    let all : (es : List Contour) → every test (coordinates es) ≡ every (every λ (p : Point). test p.x && test p.y) es =
    λ es. coordinates_asked test es ∙ ap (λ f. every f es) (fun_ext (by_points test)) in
    all ds ∙ every-reversed (λ (p : Point). test p.x && test p.y) cs ds back ∙ sym (all cs)

-- ---- a placement moves each point by itself
module _ (p : Placement) where
  abbrev moved : Point → Point
  moved q = record { x = across_of p q.x q.y; y = down_of p q.x q.y }

  placed_contour : (c : Contour) (l : List ℤ) → placed p (coordinates_of c ++ l) ≡ coordinates_of (map moved c) ++ placed p l
  unfolding placed coordinates_of
  placed_contour [] l = refl
  placed_contour (q ∷ c) l = ap (λ r. (moved q).x ∷ (moved q).y ∷ r) (placed_contour c l)

  placed_contours : (cs : List Contour) → placed p (coordinates cs) ≡ coordinates (map (map moved) cs)
  unfolding placed coordinates
  placed_contours [] = refl
  placed_contours (c ∷ cs) = placed_contour c (coordinates cs) ∙ ap (λ l. coordinates_of (map moved c) ++ l) (placed_contours cs)

  moved-reverse : (c : Contour) → map moved (reverse c) ≡ reverse (map moved c)
  moved-reverse [] = refl
  moved-reverse (q ∷ c) =
      ap (map moved) (reverse-cons q c) ∙ map-append moved (reverse c) (q ∷ []) ∙ ap (λ l. l ++ (moved q ∷ [])) (moved-reverse c)
      ∙ sym (reverse-cons (moved q) (map moved c))

  all_reverse : (cs : List Contour) → map (map moved) (map reverse cs) ≡ map reverse (map (map moved) cs)
  all_reverse cs = map-map (map moved) reverse cs ∙ ap (λ f. map f cs) (fun_ext moved-reverse) ∙ sym (map-map reverse (map moved) cs)

  moved-counts : (cs : List Contour) → counts_of (map (map moved) cs) ≡ counts_of cs
  moved-counts cs = map-map length (map moved) cs ∙ ap (λ f. map f cs) (fun_ext λ c. length-map c moved)

  pub reverse-placed : (cs : List Contour) → placed p (coordinates (map reverse cs)) ≡ coordinates (map reverse (contours_of (counts_of cs) (placed p (coordinates cs))))
  reverse-placed cs =
      let read : contours_of (counts_of cs) (placed p (coordinates cs)) ≡ map (map moved) cs =
      ap₂ contours_of (sym (moved-counts cs)) (placed_contours cs) ∙ contours_back (map (map moved) cs) in
      placed_contours (map reverse cs) ∙ ap coordinates (all_reverse cs) ∙ sym (ap (λ ds. coordinates (map reverse ds)) read)
