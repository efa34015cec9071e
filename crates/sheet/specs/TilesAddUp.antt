-- "For outlines of level, upright and 45 degree edges the tiles' roots add up to the outline's area": over all tiles of the sheet.
--
-- Definitions
--   built_root                   the root that building a tile leaves: entry 0
-- Main results (the laws among them are in proofs/Theorems/TilesAddUp.antt)
--   accepted_everywhere          an outline that is accepted at one place of a sheet is accepted at every other, over a table as long
--   roots_add_up                 the sum over all tiles, whatever the tables held before
-- Instance
--   square-accepted              a square over four tiles of a sheet, as it is asked for
--   square-roots                 and its four roots add up to its area
use Rattle.std.specs.Prelude.{List, [], ◌∷◌, ℕ, get_or, ℤ, pos}
use Rattle.placement.specs.declared.Placement.{Placement}
use Rattle.sheet.specs.declared.SheetTile.{SheetTile}
use Rattle.sheet.specs.SheetOutcomes.{sheet_table}

abbrev pub built_root : SheetTile → List ℤ → List ℕ → Placement → List ℤ → ℤ
built_root place points counts placement before = get_or (sheet_table place points counts placement before) 0 (pos 0)

-- ---- an instance: a square from the middle of the first tile of a sheet of 4 pixels to the middle of the last, in tiles of 2
abbrev pub square : List ℤ
square = pos 256 ∷ pos 256 ∷ pos 768 ∷ pos 256 ∷ pos 768 ∷ pos 768 ∷ pos 256 ∷ pos 768 ∷ []
