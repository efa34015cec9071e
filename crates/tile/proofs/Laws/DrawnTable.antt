-- A level and a table that no call refuses that draws one level.
--
-- Main results
--   LevelYes side level table    yes to the questions that every call asks that draws one level: 1, 2, 7 and 9
--   drawn-accepted               a picture with as many entries as the level has cells is not refused
--   cell_accepted                no cell of the level is refused
use Rattle.std.specs.Prelude.{◌≡◌, List, ℕ, ◌^◌, ◌<◌, ℤ}
use Rattle.tile.specs.Questions.{Yes, question1, question2, question7, question9}
use Rattle.tile.specs.Outcomes.{draw_refusal, cell_refusal}
use Rattle.tile.proofs.Theorems.Refusals.{drawing_refusals, cell_refusals, question8_means, question10_means}

pub record LevelYes (side level : ℕ) (table : List ℤ) : Type 0 where
  pub yes1 : Yes (question1 side)
  pub yes2 : Yes (question2 side table)
  pub yes7 : Yes (question7 side level)
  pub yes9 : Yes (question9 table)

module _ {side level : ℕ} {table : List ℤ} (y : LevelYes side level table) where
  pub drawn-accepted : (size : ℕ) → size ≡ 4 ^ level → draw_refusal side level table size ≡ 0
  drawn-accepted size e =
      (drawing_refusals side level table size).accepted.1 (y.yes1, (y.yes2, (y.yes7, ((question8_means level size).1 e, (y.yes9, tt)))))

  pub cell_accepted : (cx cy : ℕ) → cx < 2 ^ level → cy < 2 ^ level → cell_refusal side level cx cy table ≡ 0
  cell_accepted cx cy h k =
      (cell_refusals side level cx cy table).accepted.1 (y.yes1, (y.yes2, (y.yes7, ((question10_means level cx cy).1 (h, k), (y.yes9, tt)))))
