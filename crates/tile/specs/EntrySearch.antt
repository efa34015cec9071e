-- The search behind question 9 (02, P2): "let its loop end at the first entry out of range and answer how many entries it looked at: one more than the
-- least place out of range, or all of them where there is none. Every public result is as it was."
--
-- Proved of `search_entries`, for every table: its answer tells both, question 9's and the count, which `entries_looked_at` answers. To be read in the code:
-- that the loop of `search_within` of `integers` returns at that entry, and that question 9 is asked by `search_entries` alone; no call passes the count on. It is public for `corrections`,
-- whose calls ask question 9 too. `Questions`, `Outcomes` and `Faithful`, which are all that the contracts of this crate's calls cite of it, and `Corrections`
-- and `Holding` of that one, know nothing of the count.
--
-- Definitions
--   in_range z                             question 9 of one entry
--   entries_looked_at table                how many entries the search looks at (`looked_at` of `integers`, in Search)
--   LeastOut table i                       i is the least place out of range (`LeastFailing`, there too)
-- Main results (the laws among them are in proofs/Theorems/EntrySearch.antt)
--   least_or_all                           02's sentence: the count is one more than the least place out of range, or all where there is none
--   looked_least                           question 9 is answered no, and one more than i entries were looked at: exactly where i is the least place out of range
--   looked_all                             it is answered yes, and all were looked at: exactly where none is out of range
--   rest_immaterial                        where it is answered no, the entries after those that were looked at make no difference to either answer
--   empty, front, middle, whole, last      single tables; `whole` and `last` have the same count and opposite answers
use Rattle.std.specs.Prelude.{Bool, List, ℕ, ℤ, pos, neg_ℤ}
use Rattle.integers.specs.Units.{entry_limit}
use Rattle.integers.specs.Tests.{between}
use Rattle.integers.specs.Within.{Within}
use Rattle.integers.specs.Search as general

abbrev pub in_range : ℤ → Bool
in_range = between (neg_ℤ (pos entry_limit)) (pos entry_limit)

abbrev pub entries_looked_at : List ℤ → ℕ
entries_looked_at = general.looked_at in_range

-- i is a place of the table, every entry before it is in range, and the entry there is not. (0 is a default for places past the end; i and those before it are not.)
abbrev pub LeastOut : List ℤ → ℕ → Type 0
LeastOut = general.LeastFailing (Within (pos entry_limit)) (pos 0)
