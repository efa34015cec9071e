-- The edges of an outline: as many as its points, closed, and on the tile where these are.
--
-- Main results
--   contour_edges-length, outline_edges-length      "The edges are as many as the points."
--   outline_closed                                  whatever is gained along the edges adds up to 0
--   contour_on_tile, outline_on_tile                a contour's edges are on the tile; an outline's are closed and on the tile
use Rattle.std.specs.Prelude.{◌≡◌, ℕ, suc, ◌+◌, length, ℤ, pos, ◌-ℤ◌}
use Rattle.std.proofs.Math.Path.{refl, ap₂}
use Rattle.std.proofs.Common.{◌∙◌, ap, length-append}
use mathlib.Core.List.{List, [], ◌∷◌}
use Rattle.std.proofs.Math.IntN.{◌+ℤ◌}
use Rattle.integers.proofs.Theorems.Ring.{read, ring, comb}
use Rattle.integers.specs.ListSum.{All, total, tally}
use Rattle.integers.proofs.Theorems.ListSum.{all_append, total_append}
use Rattle.accuracy.specs.Outline.{Point, through, contour_edges, outline_edges, gain, ClosedEdges}
use Rattle.accuracy.specs.Tile.{OnTile, EdgeOnTile, ClosedOnTile}

-- ---- how many
through-length : (p : Point) (qs : List Point) (last : Point) → length (through p qs last) ≡ suc (length qs)
unfolding through
through-length p [] last = refl
through-length p (q ∷ qs) last = ap suc (through-length q qs last)

pub contour_edges-length : (ps : List Point) → length (contour_edges ps) ≡ length ps
unfolding contour_edges
contour_edges-length [] = refl
contour_edges-length (p ∷ ps) = through-length p ps p

pub outline_edges-length : (cs : List (List Point)) → length (outline_edges cs) ≡ tally length cs
unfolding outline_edges tally
outline_edges-length [] = refl
outline_edges-length (c ∷ cs) = length-append (contour_edges c) (outline_edges cs) ∙ ap₂ ◌+◌ (contour_edges-length c) (outline_edges-length cs)

-- ---- closed
module _ (f : ℤ → ℤ → ℤ) where
  abbrev value : Point → ℤ
  value p = f p.x p.y

  through-gain : (p : Point) (qs : List Point) (last : Point) → total (gain f) (through p qs last) ≡ value last -ℤ value p
  unfolding total through
  through-gain p [] last = ring (value p ∷ value last ∷ []) (search read depth 40) tt
  through-gain p (q ∷ qs) last =
      comb (value p ∷ value q ∷ value last ∷ total (gain f) (through q qs last) ∷ []) (through-gain q qs last) (search read depth 40) tt

  contour_gain : (ps : List Point) → total (gain f) (contour_edges ps) ≡ pos 0
  unfolding total contour_edges
  contour_gain [] = refl
  contour_gain (p ∷ ps) = through-gain p ps p ∙ ring (value p ∷ []) (search read depth 40) tt

  outline_gain : (cs : List (List Point)) → total (gain f) (outline_edges cs) ≡ pos 0
  unfolding total outline_edges
  outline_gain [] = refl
  outline_gain (c ∷ cs) = total_append (gain f) (contour_edges c) (outline_edges cs) ∙ ap₂ ◌+ℤ◌ (contour_gain c) (outline_gain cs)

pub outline_closed : (cs : List (List Point)) → ClosedEdges (outline_edges cs)
outline_closed cs = record { cancels = λ f. outline_gain f cs }

-- ---- on the tile
module _ (depth : ℕ) where
  through_on : (p : Point) (qs : List Point) (last : Point) → OnTile depth p → All (OnTile depth) qs → OnTile depth last
      → All (EdgeOnTile depth) (through p qs last)
  unfolding through
  through_on p [] last i is l = (record { start = i; end = l }, tt)
  through_on p (q ∷ qs) last i is l = (record { start = i; end = is.0 }, through_on q qs last is.0 is.1 l)

  pub contour_on_tile : (ps : List Point) → All (OnTile depth) ps → All (EdgeOnTile depth) (contour_edges ps)
  unfolding contour_edges
  contour_on_tile [] is = tt
  contour_on_tile (p ∷ ps) is = through_on p ps p is.0 is.1 is.0

  outline_on : (cs : List (List Point)) → All (All (OnTile depth)) cs → All (EdgeOnTile depth) (outline_edges cs)
  unfolding outline_edges
  outline_on [] is = tt
  outline_on (c ∷ cs) is = all_append (EdgeOnTile depth) (contour_edges c) (outline_edges cs) (contour_on_tile c is.0) (outline_on cs is.1)

pub outline_on_tile : (depth : ℕ) (cs : List (List Point)) → All (All (OnTile depth)) cs → ClosedOnTile depth (outline_edges cs)
outline_on_tile depth cs on = record { closed = outline_closed cs; on_tile = outline_on depth cs on }
