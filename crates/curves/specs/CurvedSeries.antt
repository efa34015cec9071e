-- The law of a series of corrections (02, P3) in which contours with curved edges and contours of points are mixed: all six calls, `put`, `take`, the same on a
-- sheet, `put_curves` and `take_curves`. A contour of points is one with every mark 0, so what one kind of call put in the other may take out.
--
-- What a series is, and what is lawful in it, is `corrections`' `Series`, word for word, with these calls.
--
-- Definitions
--   AnyCall                        a call of either kind
--   site_of, change_of, contour_any,
--   number_of, after_of            its site, what it does with its contour, what it answers and leaves
--   straight_in                    the contour of a call without marks
--   any_calls                      the six calls, as their contracts have them
--   AtSite site k                  a call that belongs to a series on a tile at that site
--   CurveSeries site               a series of them
use Rattle.std.specs.Prelude.{◌≡◌, List, ℕ, replicate}
use Rattle.integers.specs.ListSum.{All}
use Rattle.placement.specs.Placed.{placed}
use Rattle.chords.specs.Sides.{MarkedContour, marked_contour}
use Rattle.sheet.specs.declared.Site.{Site}
use Rattle.sheet.specs.declared.Site.TheVariants.{Alone, OnSheet}
use Rattle.corrections.specs.declared.Change.{Change}
use Rattle.corrections.specs.Corrections.{Tile, Call, correct_refusal, corrected}
use Rattle.corrections.specs.Series.{Calls, Lawful, IsAlone}
use Rattle.curves.specs.CurvedCorrections.{CurveCall, contour_in, correct_curve_refusal, corrected_curve}

pub data AnyCall : Type 0 where
  plain : Call → AnyCall
  marked : CurveCall → AnyCall

abbrev pub straight_in : Call → MarkedContour
straight_in k = marked_contour (replicate k.count 0) (placed k.placement k.points)

abbrev pub site_of : AnyCall → Site
site_of (plain k) = k.site
site_of (marked k) = k.site

abbrev pub change_of : AnyCall → Change
change_of (plain k) = k.change
change_of (marked k) = k.change

abbrev pub contour_any : AnyCall → MarkedContour
contour_any (plain k) = straight_in k
contour_any (marked k) = contour_in k

abbrev pub number_of : AnyCall → Tile → ℕ
number_of (plain k) t = correct_refusal k t
number_of (marked k) t = correct_curve_refusal k t

abbrev pub after_of : AnyCall → Tile → Tile
after_of (plain k) t = corrected k t
after_of (marked k) t = corrected_curve k t

abbrev pub any_calls : Calls AnyCall MarkedContour
any_calls = record { change = change_of; contour = contour_any; number = number_of; after = after_of }

-- "A tile being corrected keeps one sheet side and one place through the whole of P3's series."
abbrev pub AtSite : Site → AnyCall → Type 0
AtSite (Alone side) k = IsAlone (site_of k)
AtSite (OnSheet place) k = site_of k ≡ OnSheet place

abbrev pub CurveSeries : Site → Tile → List MarkedContour → List AnyCall → List MarkedContour → Type 0
CurveSeries site t cs ks rest = Lawful any_calls t cs ks rest × All (AtSite site) ks
