-- The tile that holds given contours, and what a call makes of it (02, P3).
--
-- A tile holds contours where it is what building them leaves, in any order and whatever the table held before building, with the count that building
-- reports; and what is drawn of it is as near to their ink as demand 3 has it of one drawn afresh. `put` and `take`, and the same on a
-- sheet, have in their contracts that they go from such a tile to such a tile. On a sheet the exact areas are of the edges as seen from the tile's corner:
-- that these are the cells' at their place is `from-tile_area` of `accuracy`.
--
-- This is said of the tile and not of how it came about: a triangle and the same one walked the other way leave a table of zeros and six edges, and so
-- does any other such pair. Which contours were put in is said by a series of calls (`Series`).
--
-- Definitions
--   empty_tile side              a table of zeros, and no edge
--   built_as number edges        what building answers
--   HoldsContours site cs t      the tile t, at that site, holds the contours cs
--   HoldsOneMore, HoldsOneLess   what is promised of putting in and of taking out
use Rattle.std.specs.Prelude.{◌≡◌, ℕ, ◌*◌, length, replicate, ℤ, pos}
use mathlib.Core.List.{List, ◌∷◌, Perm}
use Rattle.accuracy.specs.Outline.{outline_edges}
use Rattle.tile.specs.Answers.{Built}
use Rattle.tile.specs.Faithful.{FaithfulTo}
use Rattle.tile.specs.Written.{Contour, coordinates, counts_of}
use Rattle.sheet.specs.declared.Site.{Site}
use Rattle.sheet.specs.Sites.{tile_side, seen_at, root_at, twice_limit_at, site_result, site_table}
use Rattle.corrections.specs.Corrections.{Tile, Call, contour_of, correct_refusal}

-- ---- tiles
abbrev pub empty_tile : ℕ → Tile
empty_tile side = record { table = replicate (side * side) (pos 0); edges = 0 }

abbrev pub built_as : ℕ → ℕ → Built
built_as number edges = record { number = number; edges = edges }

pub record HoldsContours (site : Site) (cs : List Contour) (t : Tile) : Type 0 where
  -- "table and count are those of building what remains, in any order of the contours": building is not refused, reports the record's count ..
  pub count_built : (order : List Contour) → Perm cs order → (before : List ℤ) → length before ≡ tile_side site * tile_side site
      → site_result site (coordinates order) (counts_of order) before ≡ built_as 0 t.edges
  -- .. and leaves the tile's table
  pub table_built : (order : List Contour) → Perm cs order → (before : List ℤ) → length before ≡ tile_side site * tile_side site
      → site_table site (coordinates order) (counts_of order) before ≡ t.table
  -- "So a corrected letter is as near to its ink as one drawn afresh": demand 3 of the tile's table and of the contours' edges, which the record counts
  pub faithful : (order : List Contour) → Perm cs order
      → FaithfulTo (tile_side site) (seen_at site (outline_edges order)) (root_at site (outline_edges order)) (twice_limit_at site) 0 t.edges t.table

-- ---- what is promised of a call: `before` and `after` are the tile as it was and as it is then
-- A tile that held contours holds one more after putting in.
abbrev pub HoldsOneMore : Call → Tile → Tile → Type 0
HoldsOneMore k before after =
    (cs : List Contour) → HoldsContours k.site cs before → correct_refusal k before ≡ 0 → HoldsContours k.site (contour_of k ∷ cs) after

-- One that held the contour and others, in whatever order, holds these others after taking it out. The contour is known by its points as placed: it does
-- not matter under which placement it was put in.
abbrev pub HoldsOneLess : Call → Tile → Tile → Type 0
HoldsOneLess k before after =
    (others : List Contour) → HoldsContours k.site (contour_of k ∷ others) before → correct_refusal k before ≡ 0 → HoldsContours k.site others after
