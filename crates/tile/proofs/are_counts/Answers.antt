-- Every count is tested.
use Rattle.std.proofs.Common.{◌≡◌, ℕ, Bool, ◌&&◌, leb, List, [], ◌∷◌, refl, ◌∙◌, ap, rules, tests}
use Rattle.std.specs.List.{list_all}
use Rattle.std.proofs.lemmas.Iterator.{YieldsList-from_slice}
use Rattle.std.proofs.lemmas.Iterator.Search.{all_from_yields_List}
use Rattle.integers.specs.Units.{fewest_points, most_points}
use Rattle.integers.specs.Tests.{every}
use Rattle.tile.proofs.are_counts.Goals as goal

abbrev is_count : ℕ → Bool
is_count n = leb fewest_points n && leb n most_points

every_is_all : (test : ℕ → Bool) (l : List ℕ) → list_all test l ≡ every test l
every_is_all test [] = refl
every_is_all test (n ∷ l) = ap (λ b. test n && b) (every_is_all test l)

pub returns : goal.returns
returns c =
    let counts = c.args.counts.now in
    all_from_yields_List is_count _ _ _ c.all.ensures.ran (YieldsList-from_slice counts cc) (λ x b q k. search (rules, tests)) ∙ every_is_all is_count counts
