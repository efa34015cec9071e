-- What functions ask of their callers.
--
-- Definitions
--   Ready a b c x y           a × x + b × y + c may be worked out: the row is usable, and the point may be moved
-- And what one of them promises.
--   TurnsAs p m               the turn m may be worked out wherever p may be used, and takes each point where p takes it
use Rattle.std.specs.Prelude.{◌≡◌, true, [], ◌∷◌, ℤ, Float}
use Rattle.placement.specs.Parts.{nearest}
use Rattle.placement.specs.Placed.{parts_at, across_of, down_of, row_usable, is_movable, placeable}
use Rattle.placement.specs.declared.Matrix.{Matrix}
use Rattle.placement.specs.declared.Placement.{Placement}

pub record Ready (a b c : Float) (x y : ℤ) : Type 0 where
  pub row : row_usable a b c ≡ true
  pub x_in : is_movable x ≡ true
  pub y_in : is_movable y ≡ true

pub record TurnsAs (p : Placement) (m : Matrix) : Type 0 where
  pub ready : (x y : ℤ) → placeable p (x ∷ y ∷ []) ≡ true → Ready m.a m.b m.c x y × Ready m.d m.e m.f x y
  pub across : (x y : ℤ) → nearest (parts_at m.a m.b m.c x y) ≡ across_of p x y
  pub down : (x y : ℤ) → nearest (parts_at m.d m.e m.f x y) ≡ down_of p x y
