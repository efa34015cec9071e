-- A series of calls, of whatever kind, that each keep what is known of a tile.
--
-- Main results
--   Keeps                        what each call keeps
--   run-keeps                    so a lawful series of them leads from what was known of the tile to what remains
use Rattle.std.specs.Prelude.{◌≡◌, ◌≢◌}
use Rattle.std.proofs.Common.{sym, subst}
use mathlib.Core.List.{List, ◌∷◌, Perm}
use Rattle.integers.specs.ListSum.{All}
use Rattle.corrections.specs.declared.Change.TheVariants.{Put, Take}
use Rattle.corrections.specs.Corrections.{Tile}
use Rattle.corrections.specs.Series.{Calls, run, Lawful, none, refused, put, taken}

-- `Known cs t` is what is known of a tile t with the contours cs in it, `Allowed k` what is asked of each call.
pub record Keeps {K C : Type 0} (calls : Calls K C) (Allowed : K → Type 0) (Known : List C → Tile → Type 0) : Type 0 where
  pub any_order : (t : Tile) {cs ds : List C} → Perm cs ds → Known cs t → Known ds t
  pub after_refused : (k : K) (t : Tile) → calls.number k t ≢ 0 → calls.after k t ≡ t
  pub after_put : (k : K) (t : Tile) {cs : List C} → Allowed k → calls.number k t ≡ 0 → calls.change k ≡ Put → Known cs t
      → Known (calls.contour k ∷ cs) (calls.after k t)
  pub after_taken : (k : K) (t : Tile) {others : List C} → Allowed k → calls.number k t ≡ 0 → calls.change k ≡ Take → Known (calls.contour k ∷ others) t
      → Known others (calls.after k t)

pub run-keeps : {K C : Type 0} {calls : Calls K C} {Allowed : K → Type 0} {Known : List C → Tile → Type 0} → Keeps calls Allowed Known
    → {t : Tile} {cs : List C} {ks : List K} {rest : List C} → Lawful calls t cs ks rest → All Allowed ks → Known cs t → Known rest (run calls ks t)
unfolding run
run-keeps keeps none all h = h
run-keeps {Known = Known} keeps {t} {cs} (refused {k = k} n l) all h = run-keeps keeps l all.1 (subst (Known cs) (sym (keeps.after_refused k t n)) h)
run-keeps keeps {t} (put {k = k} done e l) all h = run-keeps keeps l all.1 (keeps.after_put k t all.0 done e h)
run-keeps keeps {t} (taken {k = k} done e p l) all h = run-keeps keeps l all.1 (keeps.after_taken k t all.0 done e (keeps.any_order t p h))
