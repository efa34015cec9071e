-- What a placement does to the points of an outline, and question 12: "A placement is given with the outline: none, a shift by two numbers, a scale by
-- one number, or a turn by six numbers." In whole numbers of parts; no operation on floats is in these definitions.
--
-- Definitions
--   parts_at a b c x y                  a × x + b × y + c, in parts
--   across_of p x y, down_of p x y      where a placement takes the point (x, y)
--   placed p points                     the coordinates of an outline as placed
--   is_moving p                         does the placement move points?
--   row_usable a b c, floats_usable p   is every float a multiple of 1/65,536 in its range: of a turn's row, of a placement?
--   is_movable z                        may a coordinate be moved?
--   placeable p points                  question 12
use Rattle.std.specs.Prelude.{◌-◌, Bool, true, false, not, ◌&&◌, ◌||◌, List, [], ◌∷◌, ℤ, pos, ◌+ℤ◌, ◌*ℤ◌, neg_ℤ, Float}
use Rattle.integers.specs.Units.{parts_per_step, factor_limit, offset_limit, movable_limit}
use Rattle.integers.specs.Tests.{every, between}
use Rattle.placement.specs.Parts.{parts_of, is_multiple, nearest}
use Rattle.placement.specs.declared.Placement.{Placement}
use Rattle.placement.specs.declared.Placement.TheVariants.{None, Shift, Scale, Turn}

-- ---- where a point goes
-- "Turned points are a × x + b × y + c and d × x + e × y + f"
abbrev pub parts_at : Float → Float → Float → ℤ → ℤ → ℤ
parts_at a b c x y = parts_of a *ℤ x +ℤ parts_of b *ℤ y +ℤ parts_of c

-- "A scale's number is a factor on both coordinates." "The result is rounded to the nearest step, halves towards the larger".
abbrev pub across_of : Placement → ℤ → ℤ → ℤ
across_of None x y = x
across_of (Shift u v) x y = nearest (pos parts_per_step *ℤ x +ℤ parts_of u)
across_of (Scale s) x y = nearest (parts_of s *ℤ x)
across_of (Turn m) x y = nearest (parts_at m.a m.b m.c x y)

abbrev pub down_of : Placement → ℤ → ℤ → ℤ
down_of None x y = y
down_of (Shift u v) x y = nearest (pos parts_per_step *ℤ y +ℤ parts_of v)
down_of (Scale s) x y = nearest (parts_of s *ℤ y)
down_of (Turn m) x y = nearest (parts_at m.d m.e m.f x y)

-- x and y in turn. A coordinate without its partner, which question 3 refuses, stays.
unfoldable pub placed : Placement → List ℤ → List ℤ
placed p [] = []
placed p (x ∷ []) = x ∷ []
placed p (x ∷ y ∷ rest) = across_of p x y ∷ down_of p x y ∷ placed p rest

-- ---- question 12
abbrev pub is_moving : Placement → Bool
is_moving None = false
is_moving (Shift u v) = true
is_moving (Scale s) = true
is_moving (Turn m) = true

-- "factors (a, b, d, e) lie from −2 to 2, offsets (c, f and a shift's two) from −16,384 to 16,384"
abbrev pub row_usable : Float → Float → Float → Bool
row_usable a b c = is_multiple factor_limit a && (is_multiple factor_limit b && is_multiple offset_limit c)

abbrev pub floats_usable : Placement → Bool
floats_usable None = true
floats_usable (Shift u v) = is_multiple offset_limit u && is_multiple offset_limit v
floats_usable (Scale s) = is_multiple factor_limit s
floats_usable (Turn m) = row_usable m.a m.b m.c && row_usable m.d m.e m.f

-- "Points to be moved lie from −32,768 to 32,767 before it."
abbrev pub is_movable : ℤ → Bool
is_movable = between (neg_ℤ (pos movable_limit)) (pos (movable_limit - 1))

-- "A float or a point to be moved outside these rules, an infinity or a not-a-number gives 12". With no placement no point is moved, and none is outside.
abbrev pub placeable : Placement → List ℤ → Bool
placeable p points = not (is_moving p) || (floats_usable p && every is_movable points)
