-- All levels in one call: what it leaves in each level's part of the buffer is what `greys` of that level leaves, and `greys` does not refuse.
--
-- Main results (the laws among them are in proofs/Theorems/AllLevels.antt)
--   pyramid_drawn                            the whole buffer that the call leaves
--   LevelByLevel, level_by_level             each level's part of it
--   pyramid_not_refused                      a table whose deepest level can be drawn is not refused: so no accepted outline's is
use Rattle.std.specs.Prelude.{◌≡◌, List, ℕ, ◌^◌, ◌≤◌, length, ℤ}
use Rattle.tile.specs.Questions.{depth_of}
use Rattle.tile.specs.Outcomes.{draw_refusal, greys_picture, pyramid_refusal, level_part}

-- This is said of a buffer before and after the call, where it is not refused. The level's picture may hold anything before.
pub record LevelByLevel (side : ℕ) (table : List ℤ) (before after : List ℕ) : Type 0 where
  pub same : pyramid_refusal side table (length before) ≡ 0 → (level : ℕ) → level ≤ depth_of side → (picture : List ℕ) → length picture ≡ 4 ^ level
      → (draw_refusal side level table (length picture) ≡ 0) × (level_part level after ≡ greys_picture side level table picture)
