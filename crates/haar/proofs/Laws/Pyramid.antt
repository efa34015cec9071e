-- All levels in one list: how long it is, and where each level stands.
--
-- Main results
--   places_one, places_next      level 0 alone; one level more
--   places-closed                three times the places, and one, are the cells of the next level
--   places-mono                  more levels have no fewer places
--   pyramid_one, pyramid_next    level 0 alone; one level more
--   pyramid_length               it has a place for each cell of each level
--   pyramid_level                a level's part is its picture
use Rattle.std.specs.Prelude.{◌≡◌, List, ◌++◌, length, take, drop, ℤ}
use Rattle.std.proofs.Math.Path.{refl, ap₂}
use Rattle.std.proofs.Common.{sym, ◌∙◌, ap, arith, length-drop, take_all, drop_at}
use Prim.Native.Nat.{ℕ, zero, suc, ◌+◌, ◌*◌, ◌^◌, ◌<◌, ◌≤◌}
use Rattle.std.proofs.Math.Decide.{dec_lt}
use Rattle.std.proofs.Math.Nat.{pow-zero, pow-succ', pow-le-pow_right}
use Rattle.std.proofs.Math.ListN.{length-append}
use Rattle.std.proofs.lemmas.List.{take-append-le, drop-append-le}
use Rattle.haar.specs.Cells.{children}
use Rattle.haar.specs.Table.{stored}
use Rattle.haar.specs.Plane.{dimensions, picture_in}
use Rattle.haar.specs.Pyramid.{places, pyramid_in}
use Rattle.haar.proofs.Laws.Pictures.{picture-length}

pub places_next : (level : ℕ) → places (suc level) ≡ places level + children dimensions ^ level
unfolding places
places_next level = refl

-- a level alone
pub places_one : places 1 ≡ 1
unfolding places
places_one = refl

pub places-closed : (levels : ℕ) → 3 * places levels + 1 ≡ children dimensions ^ levels
unfolding places
places-closed zero = sym (pow-zero 4)
places-closed (suc levels) = omega (arith, places-closed levels, pow-succ' 4 levels)

pub places-mono : {i j : ℕ} → i ≤ j → places i ≤ places j
places-mono {i} {j} h = omega (arith, places-closed i, places-closed j, pow-le-pow_right {n = children dimensions} (omega arith) h)

module _ {A : Type 0} (g : ℤ → A) (entries : List ℤ) where
  pub pyramid_next : (level : ℕ) → pyramid_in g entries (suc level) ≡ pyramid_in g entries level ++ picture_in g entries level
  unfolding pyramid_in
  pyramid_next level = refl

  pub pyramid_one : pyramid_in g entries 1 ≡ picture_in g entries 0
  unfolding pyramid_in
  pyramid_one = refl

  pub pyramid_length : (levels : ℕ) → length (pyramid_in g entries levels) ≡ places levels
  unfolding pyramid_in places
  pyramid_length zero = refl
  pyramid_length (suc level) =
      length-append (pyramid_in g entries level) (picture_in g entries level)
      ∙ ap₂ ◌+◌ (pyramid_length level) (picture-length dimensions g (stored dimensions entries) level)

  pub pyramid_level : (level levels : ℕ) → level < levels
      → take (children dimensions ^ level) (drop (places level) (pyramid_in g entries levels)) ≡ picture_in g entries level
  pyramid_level level zero h = absurd (omega arith)
  pyramid_level level (suc last) h =
      elim (dec_lt level last) [
        | yes k ↦
            (let above = pyramid_in g entries last in
            let l = pyramid_length last in
            let room : places level + children dimensions ^ level ≤ places last = omega (arith, places_next level, places-mono k) in
            ap (λ p. take (children dimensions ^ level) (drop (places level) p)) (pyramid_next last)
            ∙ ap (take (children dimensions ^ level)) (drop-append-le (places level) above (picture_in g entries last) (omega arith))
            ∙ take-append-le (children dimensions ^ level) (drop (places level) above) (picture_in g entries last) (omega (arith, length-drop (places level) above))
            ∙ pyramid_level level last k)
        | no k ↦
            (let e : last ≡ level = omega arith in
            ap (λ p. take (children dimensions ^ level) (drop (places level) p)) (pyramid_next last)
            ∙ ap (λ j. take (children dimensions ^ level) (drop (places level) (pyramid_in g entries j ++ picture_in g entries j))) e
            ∙ ap (take (children dimensions ^ level)) (drop_at (pyramid_in g entries level) (picture_in g entries level) (places level) (pyramid_length level))
            ∙ take_all (children dimensions ^ level) (picture_in g entries level) (omega (arith, picture-length dimensions g (stored dimensions entries) level)))
      ]
