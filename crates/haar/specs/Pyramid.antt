-- All levels of a tile, one picture after the other, the smallest first.
--
-- Definitions
--   places levels                       how many cells so many levels have: 1 + 4 + 16 and so on
--   pyramid_in g entries levels         the pictures of so many levels, from level 0 on
--   DrawablePyramid entries depth room  a table from which the levels down to a depth can be drawn, with as many places as they have cells
use Rattle.std.specs.Prelude.{◌≡◌, List, [], ◌++◌, ℕ, zero, suc, ◌+◌, ◌^◌, ℤ}
use Rattle.haar.specs.Cells.{children}
use Rattle.haar.specs.Plane.{dimensions, picture_in}
use Rattle.haar.specs.Drawable.{Drawable}

unfoldable pub places : ℕ → ℕ
places zero = 0
places (suc level) = places level + children dimensions ^ level

unfoldable pub pyramid_in : {A : Type 0} → (ℤ → A) → List ℤ → ℕ → List A
pyramid_in g entries zero = []
pyramid_in g entries (suc level) = pyramid_in g entries level ++ picture_in g entries level

pub record DrawablePyramid (entries : List ℤ) (depth room : ℕ) : Type 0 where
  pub drawable : Drawable entries depth
  pub exact : room ≡ places (suc depth)
