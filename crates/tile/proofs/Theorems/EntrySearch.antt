-- Laws of what specs/EntrySearch.antt defines. The head of that file lists the main results.
use Rattle.std.specs.Prelude.{◌≡◌, refl, ◌↔◌, ◌⊎◌, List, [], ◌∷◌, ◌++◌, ℕ, suc, length, take, ℤ, pos, neg_ℤ}
use Rattle.integers.specs.Units.{entry_limit}
use Rattle.integers.specs.ListSum.{All}
use Rattle.integers.proofs.Theorems.Tests.{within_means}
use Rattle.integers.specs.Within.{Within}
use Rattle.integers.proofs.Theorems.Search as general
use Rattle.tile.specs.Questions.{Yes, No, question9}
use Rattle.tile.specs.EntrySearch.{LeastOut, entries_looked_at, in_range}

pub least_or_all : (table : List ℤ)
    → ((i : ℕ) × LeastOut table i × (entries_looked_at table ≡ suc i)) ⊎ (All (Within (pos entry_limit)) table × (entries_looked_at table ≡ length table))
least_or_all = general.least_or_all in_range (within_means (pos entry_limit)) (pos 0)

pub looked_least : (table : List ℤ) (i : ℕ) → (No (question9 table) × (entries_looked_at table ≡ suc i)) ↔ LeastOut table i
looked_least = general.looked_least in_range (within_means (pos entry_limit)) (pos 0)

pub looked_all : (table : List ℤ) → (Yes (question9 table) × (entries_looked_at table ≡ length table)) ↔ All (Within (pos entry_limit)) table
looked_all = general.looked_all in_range (within_means (pos entry_limit))

pub rest_immaterial : (table rest : List ℤ) → No (question9 table)
    → (let others = take (entries_looked_at table) table ++ rest in No (question9 others) × (entries_looked_at others ≡ entries_looked_at table))
rest_immaterial = general.rest_immaterial in_range

-- ---- single tables, by computing: the greatest and the least entry in range, and one past each
abbrev highest : ℤ
highest = pos entry_limit

abbrev lowest : ℤ
lowest = neg_ℤ (pos entry_limit)

abbrev too_high : ℤ
too_high = pos (suc entry_limit)

abbrev too_low : ℤ
too_low = neg_ℤ (pos (suc entry_limit))

pub empty : Yes (question9 []) × (entries_looked_at [] ≡ 0)
empty = (refl, refl)

pub front : No (question9 (too_high ∷ highest ∷ too_low ∷ [])) × (entries_looked_at (too_high ∷ highest ∷ too_low ∷ []) ≡ 1)
front = (refl, refl)

pub middle : No (question9 (highest ∷ too_low ∷ too_high ∷ lowest ∷ [])) × (entries_looked_at (highest ∷ too_low ∷ too_high ∷ lowest ∷ []) ≡ 2)
middle = (refl, refl)

pub whole : Yes (question9 (highest ∷ lowest ∷ [])) × (entries_looked_at (highest ∷ lowest ∷ []) ≡ 2)
whole = (refl, refl)

pub last : No (question9 (highest ∷ too_low ∷ [])) × (entries_looked_at (highest ∷ too_low ∷ []) ≡ 2)
last = (refl, refl)
