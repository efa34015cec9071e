-- The tile that holds given contours, with curved edges or without, and what a call makes of it (02, P3 and P6).
--
-- As `HoldsContours` of `corrections` has it of contours of points: the tile is what building the contours leaves, in any order and whatever the table held before,
-- with the count that building reports; and it is as near to their ink as one drawn afresh. A contour of points is one with every mark 0 (`straight`), so both
-- kinds may be in one tile.
--
-- Definitions
--   straight c                   a contour of points as one with marks
--   is_shaped c                  question 3 of one contour: as many coordinates as its marks say
--   written_points, written_counts,
--   written_marks                contours written as an outline, as building takes it
--   HoldsCurves site cs t        the tile t, at that site, holds the contours cs
--   NearContour                  the distance, of the curved edges of a call that is not refused
--   HoldsOneMoreCurve,
--   HoldsOneLessCurve            what is promised of putting in and of taking out, on a tile that holds contours
use Rattle.std.specs.Prelude.{◌≡◌, Bool, true, ℕ, ◌*◌, length, replicate, ℤ}
use mathlib.Core.List.{List, ◌∷◌, map, Perm}
use Rattle.integers.specs.ListSum.{All, joined}
use Rattle.integers.specs.Tests.{every}
use Rattle.placement.specs.declared.Placement.TheVariants.{None}
use Rattle.chords.specs.Sides.{MarkedContour, marked_contour, sides_of}
use Rattle.chords.specs.Chords.{outline_chords}
use Rattle.chords.specs.NearCurves.{NearChords, outline_sides}
use Rattle.tile.specs.Written.{Contour, coordinates_of}
use Rattle.sheet.specs.declared.Site.{Site}
use Rattle.sheet.specs.Sites.{tile_side}
use Rattle.corrections.specs.Corrections.{Tile}
use Rattle.corrections.specs.Holding.{built_as}
use Rattle.curves.specs.MarkedQuestions.{question3_marked}
use Rattle.curves.specs.CurveOutcomes.{curves_result, curves_table}
use Rattle.curves.specs.FaithfulCurves.{FaithfulAt}
use Rattle.curves.specs.CurvedCorrections.{CurveCall, contour_in, correct_curve_refusal}

abbrev pub straight : Contour → MarkedContour
straight c = marked_contour (replicate (length c) 0) (coordinates_of c)

abbrev pub is_shaped : MarkedContour → Bool
is_shaped c = (question3_marked c.coordinates c.marks).answer

-- ---- contours written as an outline
abbrev pub written_points : List MarkedContour → List ℤ
written_points cs = joined (λ c. c.coordinates) cs

abbrev pub written_counts : List MarkedContour → List ℕ
written_counts cs = map (λ c. length c.marks) cs

abbrev pub written_marks : List MarkedContour → List ℕ
written_marks cs = joined (λ c. c.marks) cs

pub record HoldsCurves (site : Site) (cs : List MarkedContour) (t : Tile) : Type 0 where
  pub shaped : every is_shaped cs ≡ true
  -- "table and count are those of building what remains, in any order of the contours": building is not refused, reports the record's count ..
  pub count_built : (order : List MarkedContour) → Perm cs order → (before : List ℤ) → length before ≡ tile_side site * tile_side site
      → curves_result site (written_points order) (written_counts order) (written_marks order) None before ≡ built_as 0 t.edges
  -- .. and leaves the tile's table
  pub table_built : (order : List MarkedContour) → Perm cs order → (before : List ℤ) → length before ≡ tile_side site * tile_side site
      → curves_table site (written_points order) (written_counts order) (written_marks order) None before ≡ t.table
  -- "So a corrected letter is as near to its ink as one drawn afresh": demand 3 of the tile's table and of the contours' edges, which the record counts
  pub faithful : (order : List MarkedContour) → Perm cs order → FaithfulAt site (outline_chords order) 0 t.table × (length (outline_chords order) ≡ t.edges)
  -- and the chords are near their curves
  pub near_curves : All NearChords (outline_sides cs)

-- ---- what is promised of a call, on whatever tile: "no chord leaves its curve by more than one step in x or y"
abbrev pub NearContour : CurveCall → Tile → Type 0
NearContour k before = correct_curve_refusal k before ≡ 0 → All NearChords (sides_of (contour_in k))

-- ---- and on a tile that holds contours: `before` and `after` are the tile as it was and as it is then
abbrev pub HoldsOneMoreCurve : CurveCall → Tile → Tile → Type 0
HoldsOneMoreCurve k before after =
    (cs : List MarkedContour) → HoldsCurves k.site cs before → correct_curve_refusal k before ≡ 0 → HoldsCurves k.site (contour_in k ∷ cs) after

abbrev pub HoldsOneLessCurve : CurveCall → Tile → Tile → Type 0
HoldsOneLessCurve k before after =
    (others : List MarkedContour) → HoldsCurves k.site (contour_in k ∷ others) before → correct_curve_refusal k before ≡ 0 → HoldsCurves k.site others after
