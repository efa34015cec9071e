-- Each point of a contour is where one edge starts and where another ends. So a test of every point of an outline is one of every start of its edges, and of
-- every end; and the points of outlines whose edges are each other's, walked backwards, pass the same tests.
--
-- Main results
--   every_start, every_end       of every start, and of every end
--   every-reversed               of two outlines, the edges of one those of the other, each walked backwards, in whatever order
use Rattle.std.specs.Prelude.{◌≡◌, Bool}
use Rattle.std.proofs.Math.Path.{refl, sym, ap, ap₂}
use Rattle.std.proofs.Common.{◌∙◌}
use Rattle.std.proofs.Math.Bool.{◌&&◌, and_comm, and_assoc}
use mathlib.Core.List.{List, [], ◌∷◌}
use Rattle.integers.specs.Tests.{every}
use Rattle.integers.proofs.Theorems.Every.{every_append, every_map, every_perm}
use Rattle.edge.specs.declared.Edge.{Edge}
use Rattle.edge.proofs.Laws.Reversal.{reverse}
use Rattle.accuracy.specs.Outline.{Point, through, contour_edges, outline_edges}
use Rattle.accuracy.proofs.Laws.Reversal.{EdgesReversed}

module _ (test : Point → Bool) where
  abbrev start : Edge → Bool
  start e = test (record { x = e.x0; y = e.y0 })

  abbrev end : Edge → Bool
  end e = test (record { x = e.x1; y = e.y1 })

  through_start : (p : Point) (qs : List Point) (last : Point) → every start (through p qs last) ≡ every test (p ∷ qs)
  unfolding through
  through_start p [] last = refl
  through_start p (q ∷ qs) last = ap (λ b. test p && b) (through_start q qs last)

  through_end : (p : Point) (qs : List Point) (last : Point) → every end (through p qs last) ≡ every test (last ∷ qs)
  unfolding through
  through_end p [] last = refl
  through_end p (q ∷ qs) last =
      ap (λ b. test q && b) (through_end q qs last) ∙ sym (and_assoc (test q) (test last) (every test qs))
      ∙ ap (λ b. b && every test qs) (and_comm (test q) (test last)) ∙ and_assoc (test last) (test q) (every test qs)

  contour_start : (c : List Point) → every start (contour_edges c) ≡ every test c
  unfolding contour_edges
  contour_start [] = refl
  contour_start (p ∷ ps) = through_start p ps p

  contour_end : (c : List Point) → every end (contour_edges c) ≡ every test c
  unfolding contour_edges
  contour_end [] = refl
  contour_end (p ∷ ps) = through_end p ps p

  pub every_start : (cs : List (List Point)) → every start (outline_edges cs) ≡ every (every test) cs
  unfolding outline_edges
  every_start [] = refl
  every_start (c ∷ cs) = every_append start (contour_edges c) (outline_edges cs) ∙ ap₂ ◌&&◌ (contour_start c) (every_start cs)

  pub every_end : (cs : List (List Point)) → every end (outline_edges cs) ≡ every (every test) cs
  unfolding outline_edges
  every_end [] = refl
  every_end (c ∷ cs) = every_append end (contour_edges c) (outline_edges cs) ∙ ap₂ ◌&&◌ (contour_end c) (every_end cs)

  pub every-reversed : (cs ds : List (List Point)) → EdgesReversed (outline_edges cs) (outline_edges ds) → every (every test) ds ≡ every (every test) cs
  every-reversed cs ds back =
      sym (every_start ds) ∙ every_perm start back ∙ every_map start reverse (outline_edges cs) ∙ every_end cs
