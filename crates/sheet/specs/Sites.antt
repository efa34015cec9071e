-- A site is where a tile lies: alone, as 01 has it, or on a sheet (02, P5). What the calls of `corrections` and `curves` ask, add and leave goes by the site, so that what
-- is said of one kind is said of both, and a tile alone is an instance by computing: its definitions are those of `tile`.
--
-- Definitions
--   tile_side, reach               the tile's side, which question 2 and the pictures read; the side that question 6 reads
--   SiteYes                        the questions about the site are answered yes: 1, or 14 and 15
--   site_questions                 these, and question 2
--   site_outline_questions         and those about an outline, beside so many edges that are in already: 4, 5, 3, 12, 6
--   view_at, seen_at               how the tile has an outline's edges
--   root_rule, root_at             the root: how it is had of the edges as the tile has them; and of an outline's
--   twice_limit_at                 twice the limit of a figure's miss
--   entries_at                     the table of an outline's edges
--   site_result, site_table        building at a site, without a placement: what it answers, and the table afterwards
use Rattle.std.specs.Prelude.{List, ◌++◌, ℕ, ℤ}
use Rattle.edge.specs.declared.Edge.{Edge}
use Rattle.placement.specs.declared.Placement.{Placement}
use Rattle.placement.specs.declared.Placement.TheVariants.{None}
use Rattle.accuracy.specs.Outline.{signed_area}
use Rattle.accuracy.specs.OutlineTable.{tile_root}
use Rattle.accuracy.specs.Accurate.{twice_miss_limit, twice_tile_miss_limit}
use Rattle.accuracy.specs.Sheet.{corner}
use Rattle.rasterize.specs.declared.View.{View}
use Rattle.rasterize.specs.declared.View.TheVariants.{Alone as AloneView, From}
use Rattle.tile.specs.Answers.{Built}
use Rattle.tile.specs.Questions.{Question, Yes, depth_of, question1, table_questions, outline_questions}
use Rattle.tile.specs.Outcomes.{edges_table, build_result, build_table}
use Rattle.sheet.specs.declared.Site.{Site}
use Rattle.sheet.specs.declared.Site.TheVariants.{Alone, OnSheet}
use Rattle.sheet.specs.SheetQuestions.{question14, question15, place_questions}
use Rattle.sheet.specs.SheetOutcomes.{seen_from_tile, tile_entries, sheet_result, sheet_table}

abbrev pub tile_side : Site → ℕ
tile_side (Alone side) = side
tile_side (OnSheet place) = place.side

abbrev pub reach : Site → ℕ
reach (Alone side) = side
reach (OnSheet place) = place.sheet

-- ---- the questions
abbrev pub SiteYes : Site → Type 0
SiteYes (Alone side) = Yes (question1 side)
SiteYes (OnSheet place) = Yes (question14 place.sheet place.side) × Yes (question15 place)

abbrev pub site_questions : Site → List ℤ → List Question
site_questions (Alone side) table = table_questions side table
site_questions (OnSheet place) table = place_questions place table

abbrev pub site_outline_questions : Site → List ℤ → List ℕ → Placement → ℕ → List ℤ → List Question
site_outline_questions site points counts placement already table = site_questions site table ++ outline_questions (reach site) points counts placement already

-- ---- the edges, and what is made of them
abbrev pub view_at : Site → View
view_at (Alone side) = AloneView
view_at (OnSheet place) = From (record { x = corner (depth_of place.side) place.column; y = corner (depth_of place.side) place.row })

abbrev pub seen_at : Site → List Edge → List Edge
seen_at (Alone side) es = es
seen_at (OnSheet place) es = seen_from_tile place es

abbrev pub root_rule : Site → List Edge → ℤ
root_rule (Alone side) es = signed_area es
root_rule (OnSheet place) es = tile_root (depth_of place.side) es

abbrev pub root_at : Site → List Edge → ℤ
root_at site es = root_rule site (seen_at site es)

abbrev pub twice_limit_at : Site → ℕ → ℕ → ℕ
twice_limit_at (Alone side) level edges = twice_miss_limit level edges
twice_limit_at (OnSheet place) level edges = twice_tile_miss_limit level edges

abbrev pub entries_at : Site → List Edge → List ℤ
entries_at (Alone side) es = edges_table side es
entries_at (OnSheet place) es = tile_entries place es

-- ---- building
abbrev pub site_result : Site → List ℤ → List ℕ → List ℤ → Built
site_result (Alone side) points counts table = build_result side points counts table
site_result (OnSheet place) points counts table = sheet_result place points counts None table

abbrev pub site_table : Site → List ℤ → List ℕ → List ℤ → List ℤ
site_table (Alone side) points counts table = build_table side points counts table
site_table (OnSheet place) points counts table = sheet_table place points counts None table
