-- The law of a series of corrections (02, P3): "From an empty tile, nothing else writing, after any series in which each contour taken out had been put in
-- and not yet taken out, table and count are those of building what remains, in any order of the contours. So a corrected letter is as near to its ink
-- as one drawn afresh."
--
-- A series is a list of calls, one after the other, each on the tile that the one before left. What it is is said of calls of any kind, and so is its law
-- (`Laws/Runs`), so that calls for other kinds of contours need only that each keeps what a tile holds.
--
-- Definitions
--   Calls K C                    calls k : K, each of a contour of the kind C: what is done with it, what is answered, and what is left
--   run calls ks t               the tile after the calls ks
--   Lawful calls t cs ks rest    the calls ks from the tile t on, where cs are the contours that are in before them, and rest those after them: each that
--                                is taken out is in by then
--   corrections                  the calls `put`, `take`, `put_on_sheet` and `take_on_sheet`, each with a site, points, a count and a placement of its own
--   OneSite site k               a call that belongs to a series on a tile at that site
--   Series site                  a series of these
use Rattle.std.specs.Prelude.{◌≡◌, ◌≢◌, ℕ}
use mathlib.Core.List.{List, [], ◌∷◌, Perm}
use Rattle.corrections.specs.declared.Change.{Change}
use Rattle.corrections.specs.declared.Change.TheVariants.{Put, Take}
use Rattle.integers.specs.ListSum.{All}
use Rattle.tile.specs.Written.{Contour}
use Rattle.sheet.specs.declared.Site.{Site}
use Rattle.sheet.specs.declared.Site.TheVariants.{Alone, OnSheet}
use Rattle.corrections.specs.Corrections.{Tile, Call, contour_of, correct_refusal, corrected}

pub record Calls (K C : Type 0) : Type 0 where
  pub change : K → Change
  pub contour : K → C
  pub number : K → Tile → ℕ
  pub after : K → Tile → Tile

unfoldable pub run : {K C : Type 0} → Calls K C → List K → Tile → Tile
run calls [] t = t
run calls (k ∷ ks) t = run calls ks (calls.after k t)

-- A refused call may stand anywhere. "each contour taken out had been put in and not yet taken out": it is one of those that are in, whichever.
pub data Lawful {K C : Type 0} (calls : Calls K C) : Tile → List C → List K → List C → Type 0 where
  none : {t : Tile} {cs : List C} → Lawful calls t cs [] cs
  refused : {t : Tile} {cs : List C} {k : K} {ks : List K} {rest : List C} → calls.number k t ≢ 0
      → Lawful calls (calls.after k t) cs ks rest → Lawful calls t cs (k ∷ ks) rest
  put : {t : Tile} {cs : List C} {k : K} {ks : List K} {rest : List C} → calls.number k t ≡ 0 → calls.change k ≡ Put
      → Lawful calls (calls.after k t) (calls.contour k ∷ cs) ks rest → Lawful calls t cs (k ∷ ks) rest
  taken : {t : Tile} {cs : List C} {k : K} {ks : List K} {others rest : List C} → calls.number k t ≡ 0 → calls.change k ≡ Take
      → Perm cs (calls.contour k ∷ others) → Lawful calls (calls.after k t) others ks rest → Lawful calls t cs (k ∷ ks) rest

-- ---- the four calls, as their contracts have them
abbrev pub corrections : Calls Call Contour
corrections = record { change = λ k. k.change; contour = contour_of; number = correct_refusal; after = corrected }

abbrev pub IsAlone : Site → Type 0
IsAlone (Alone side) = Unit {0}
IsAlone (OnSheet place) = ⊥

-- "A tile being corrected keeps one sheet side and one place through the whole of P3's series." A call at another place is no part of the series, refused or not;
-- where it is refused, it leaves the tile as it was, and the series goes on without it. For a tile alone any side may be given: another than the tile's
-- is refused, since the table's length tells.
abbrev pub OneSite : Site → Call → Type 0
OneSite (Alone side) k = IsAlone k.site
OneSite (OnSheet place) k = k.site ≡ OnSheet place

abbrev pub Series : Site → Tile → List Contour → List Call → List Contour → Type 0
Series site t cs ks rest = Lawful corrections t cs ks rest × All (OneSite site) ks
