-- A shift is the turn by (1, 0, u, 0, 1, v), and a scale the turn by (s, 0, 0, 0, s, 0).
--
-- Main results
--   shift_x, shift_y, scale_x, scale_y             the parts are the same
--   turn_ready, shift_ready, scale_ready           question 12's yes of a point makes both rows of its turn ready
--   ready_at, nearest_at                           the same of coordinates read back from their bits
use Rattle.std.specs.Prelude.{◌≡◌, Bool, true, ◌&&◌, [], ◌∷◌, ℤ, pos, ◌+ℤ◌, ◌*ℤ◌, refl, Float}
use Rattle.std.proofs.Common.{sym, ap₂, ◌∙◌, subst}
use Rattle.integers.specs.Units.{parts_per_step, factor_limit, offset_limit}
use Rattle.integers.proofs.Theorems.Ring.{read, ring}
use Rattle.integers.proofs.Theorems.Below.{both}
use Rattle.integers.specs.Tests.{every}
use Rattle.placement.specs.Parts.{parts_of, is_multiple, nearest, one, nought}
use Rattle.placement.specs.Placed.{parts_at, row_usable, is_movable, placeable}
use Rattle.placement.specs.Ready.{Ready}
use Rattle.placement.specs.declared.Matrix.{Matrix}
use Rattle.placement.specs.declared.Placement.TheVariants.{Shift, Scale, Turn}

-- ---- 1 and 0, in parts
parts_one : parts_of one ≡ pos parts_per_step
unfolding parts_of
parts_one = refl

parts_nought : parts_of nought ≡ pos 0
unfolding parts_of
parts_nought = refl

one_usable : is_multiple factor_limit one ≡ true
unfolding is_multiple
one_usable = refl

nought_usable : is_multiple factor_limit nought ≡ true
unfolding is_multiple
nought_usable = refl

nought-offset : is_multiple offset_limit nought ≡ true
unfolding is_multiple
nought-offset = refl

-- ---- the same parts
pub shift_x : (u : Float) (x y : ℤ) → parts_at one nought u x y ≡ pos parts_per_step *ℤ x +ℤ parts_of u
shift_x u x y =
    ap₂ (λ (k l : ℤ). k *ℤ x +ℤ l *ℤ y +ℤ parts_of u) parts_one parts_nought ∙ ring (x ∷ y ∷ parts_of u ∷ []) (search read depth 40) tt

pub shift_y : (v : Float) (x y : ℤ) → parts_at nought one v x y ≡ pos parts_per_step *ℤ y +ℤ parts_of v
shift_y v x y =
    ap₂ (λ (k l : ℤ). k *ℤ x +ℤ l *ℤ y +ℤ parts_of v) parts_nought parts_one ∙ ring (x ∷ y ∷ parts_of v ∷ []) (search read depth 40) tt

pub scale_x : (s : Float) (x y : ℤ) → parts_at s nought nought x y ≡ parts_of s *ℤ x
scale_x s x y =
    ap₂ (λ (k l : ℤ). parts_of s *ℤ x +ℤ k *ℤ y +ℤ l) parts_nought parts_nought ∙ ring (x ∷ y ∷ parts_of s ∷ []) (search read depth 40) tt

pub scale_y : (s : Float) (x y : ℤ) → parts_at nought s nought x y ≡ parts_of s *ℤ y
scale_y s x y =
    ap₂ (λ (k l : ℤ). k *ℤ x +ℤ parts_of s *ℤ y +ℤ l) parts_nought parts_nought ∙ ring (x ∷ y ∷ parts_of s ∷ []) (search read depth 40) tt

-- ---- both rows are ready
row_of : (a b c : Float) → is_multiple factor_limit a ≡ true → is_multiple factor_limit b ≡ true → is_multiple offset_limit c ≡ true → row_usable a b c ≡ true
row_of a b c h k l = ap₂ ◌&&◌ h (ap₂ ◌&&◌ k l)

-- what question 12 says of a point, where it says yes
record Yes (floats : Bool) (x y : ℤ) : Type 0 where
  pub usable : floats ≡ true
  pub x_in : is_movable x ≡ true
  pub y_in : is_movable y ≡ true

yes : {floats : Bool} {x y : ℤ} → (floats && every is_movable (x ∷ y ∷ [])) ≡ true → Yes floats x y
yes {floats} {x} {y} e =
    let all = both floats (every is_movable (x ∷ y ∷ [])) e in
    let first = both (is_movable x) (every is_movable (y ∷ [])) all.1 in
    record { usable = all.0; x_in = first.0; y_in = (both (is_movable y) true first.1).0 }

ready : {floats : Bool} {a b c : Float} {x y : ℤ} → Yes floats x y → row_usable a b c ≡ true → Ready a b c x y
ready s h = record { row = h; x_in = s.x_in; y_in = s.y_in }

pub turn_ready : (m : Matrix) {x y : ℤ} → placeable (Turn m) (x ∷ y ∷ []) ≡ true → Ready m.a m.b m.c x y × Ready m.d m.e m.f x y
turn_ready m e =
    let s = yes e in
    let rows = both (row_usable m.a m.b m.c) (row_usable m.d m.e m.f) s.usable in
    (ready s rows.0, ready s rows.1)

pub shift_ready : (u v : Float) {x y : ℤ} → placeable (Shift u v) (x ∷ y ∷ []) ≡ true → Ready one nought u x y × Ready nought one v x y
shift_ready u v e =
    let s = yes e in
    let offsets = both (is_multiple offset_limit u) (is_multiple offset_limit v) s.usable in
    (ready s (row_of one nought u one_usable nought_usable offsets.0), ready s (row_of nought one v nought_usable one_usable offsets.1))

pub scale_ready : (s : Float) {x y : ℤ} → placeable (Scale s) (x ∷ y ∷ []) ≡ true → Ready s nought nought x y × Ready nought s nought x y
scale_ready s e =
    let said = yes e in
    (ready said (row_of s nought nought said.usable nought_usable nought-offset), ready said (row_of nought s nought nought_usable said.usable nought-offset))

-- ---- coordinates that are the same, as those read back from their bits are
pub ready_at : {a b c : Float} {x x' y y' : ℤ} → x' ≡ x → y' ≡ y → Ready a b c x y → Ready a b c x' y'
ready_at {a} {b} {c} {x} {x'} {y} {y'} e f r = subst (λ (z : ℤ). Ready a b c z y') (sym e) (subst (λ (z : ℤ). Ready a b c x z) (sym f) r)

pub nearest_at : (a b c : Float) {x x' y y' : ℤ} → x' ≡ x → y' ≡ y → nearest (parts_at a b c x' y') ≡ nearest (parts_at a b c x y)
nearest_at a b c e f = ap₂ (λ x y. nearest (parts_at a b c x y)) e f
