-- One step of a walk and two sides: the step lies strictly between them, or both of its ends lie beyond the same one. Then it adds nothing.
--
-- Main results
--   Outside                     both ends of step t lie before the first side, or both behind the second
--   between_or_outside          a step is one or the other
--   between_ends                a step strictly between the sides has both ends between them, or on them
--   Rests, outside_rests        on a step outside, the distance to the nearer side is 0 and the held coordinate rests
use Rattle.std.specs.Prelude.{◌≡◌, [], ◌∷◌, ◌⊎◌, ℤ, pos, ◌+ℤ◌, ◌-ℤ◌, ◌*ℤ◌, ◌≤ℤ◌, ◌<ℤ◌}
use Rattle.std.proofs.Common.{sym, ◌∙◌, inl, inr}
use Rattle.integers.proofs.Theorems.Order.{≤ℤ_or_<ℤ}
use Rattle.integers.proofs.Theorems.Linear.{le, lt, ◌&◌, linear, lin≤, lin⊥}
use Rattle.integers.specs.Within.{Within}
use Rattle.integers.proofs.Theorems.Clamp.{clamp-below, clamp-above}
use Rattle.integers.proofs.Theorems.Tent.{tent_outside}
use Rattle.edge.specs.declared.Axis.{Axis}
use Rattle.edge.specs.Code.{Closed}
use Rattle.edge.specs.Walk.{beyond, past, near}
use Rattle.edge.specs.Inside.{Between, twice_middle}

pub data Outside (a : Axis) (side w t : ℤ) : Type 0 where
  before : beyond a side t ≤ℤ pos 0 → beyond a side (t +ℤ pos 1) ≤ℤ pos 0 → Outside a side w t
  behind : (a.scale *ℤ w) ≤ℤ beyond a side t → (a.scale *ℤ w) ≤ℤ beyond a side (t +ℤ pos 1) → Outside a side w t

-- ---- two whole numbers at most one apart lie on the side of m that their middle lies on
low_of_middle : (u v m : ℤ) → (u +ℤ v) ≤ℤ (pos 2 *ℤ m) → (u -ℤ v) ≤ℤ pos 1 → u ≤ℤ m
low_of_middle u v m h k = go (≤ℤ_or_<ℤ u m)
  where
    go : (u ≤ℤ m) ⊎ (m <ℤ u) → u ≤ℤ m
    go (inl a) = a
    go (inr a) = lin⊥ (u ∷ v ∷ m ∷ []) (le h & le k & lt a) (search linear depth 40) tt

high_of_middle : (u v m : ℤ) → (pos 2 *ℤ m) ≤ℤ (u +ℤ v) → (v -ℤ u) ≤ℤ pos 1 → m ≤ℤ u
high_of_middle u v m h k = go (≤ℤ_or_<ℤ m u)
  where
    go : (m ≤ℤ u) ⊎ (u <ℤ m) → m ≤ℤ u
    go (inl a) = a
    go (inr a) = lin⊥ (u ∷ v ∷ m ∷ []) (le h & le k & lt a) (search linear depth 40) tt

module _ (a : Axis) (side w t : ℤ) (signed : Within (pos 1) a.sign) where
  abbrev u : ℤ
  u = beyond a side t

  abbrev v : ℤ
  v = beyond a side (t +ℤ pos 1)

  abbrev m : ℤ
  m = a.scale *ℤ w

  up : (v -ℤ u) ≤ℤ pos 1
  up = lin≤ (a.scale ∷ a.start ∷ a.sign ∷ side ∷ t ∷ []) (le signed.high) (search linear depth 40) tt

  down : (u -ℤ v) ≤ℤ pos 1
  down = lin≤ (a.scale ∷ a.start ∷ a.sign ∷ side ∷ t ∷ []) (le signed.low) (search linear depth 40) tt

  swap≤ : {z : ℤ} → (u +ℤ v) ≤ℤ z → (v +ℤ u) ≤ℤ z
  swap≤ {z} h = lin≤ (a.scale ∷ a.start ∷ a.sign ∷ side ∷ t ∷ z ∷ []) (le h) (search linear depth 40) tt

  swap≥ : {z : ℤ} → z ≤ℤ (u +ℤ v) → z ≤ℤ (v +ℤ u)
  swap≥ {z} h = lin≤ (a.scale ∷ a.start ∷ a.sign ∷ side ∷ t ∷ z ∷ []) (le h) (search linear depth 40) tt

  pub between_or_outside : Between a side w t ⊎ Outside a side w t
  between_or_outside = go (≤ℤ_or_<ℤ (twice_middle a side t) (pos 0)) (≤ℤ_or_<ℤ (pos 2 *ℤ m) (twice_middle a side t))
    where
      go : (twice_middle a side t ≤ℤ pos 0) ⊎ (pos 0 <ℤ twice_middle a side t) → ((pos 2 *ℤ m) ≤ℤ twice_middle a side t) ⊎ (twice_middle a side t <ℤ (pos 2 *ℤ m))
          → Between a side w t ⊎ Outside a side w t
      go (inl h) k = inr (before (low_of_middle u v (pos 0) h down) (low_of_middle v u (pos 0) (swap≤ h) up))
      go (inr h) (inl k) = inr (behind (high_of_middle u v m k up) (high_of_middle v u m (swap≥ k) down))
      go (inr h) (inr k) = inl (record { after = h; before = k })

  pub between_ends : Between a side w t → Closed a side w t × Closed a side w (t +ℤ pos 1)
  between_ends b =
      let lo : (pos 2 *ℤ pos 0) ≤ℤ (u +ℤ v) = lin≤ (a.scale ∷ a.start ∷ a.sign ∷ side ∷ t ∷ []) (lt b.after) (search linear depth 40) tt in
      let hi : (u +ℤ v) ≤ℤ (pos 2 *ℤ m) = lin≤ (a.scale ∷ a.start ∷ a.sign ∷ side ∷ t ∷ w ∷ []) (lt b.before) (search linear depth 40) tt in
      (record { low = high_of_middle u v (pos 0) lo up; high = low_of_middle u v m hi down }, record { low = high_of_middle v u (pos 0) (swap≥ lo) down; high = low_of_middle v u m (swap≤ hi) up })

-- ---- what a step outside adds
pub exchanged : {P Q : Type 0} → P ⊎ Q → Q ⊎ P
exchanged (inl p) = inr p
exchanged (inr q) = inl q

pub record Rests (a : Axis) (side w t : ℤ) : Type 0 where
  pub near₀ : near a side w t ≡ pos 0
  pub near₁ : near a side w (t +ℤ pos 1) ≡ pos 0
  pub past₁ : past a side w (t +ℤ pos 1) ≡ past a side w t

pub outside_rests : (a : Axis) (side w t : ℤ) → pos 0 ≤ℤ (a.scale *ℤ w) → Outside a side w t → Rests a side w t
outside_rests a side w t g (before h k) =
    record { near₀ = tent_outside g (inl h); near₁ = tent_outside g (inl k); past₁ = clamp-below (a.scale *ℤ w) k ∙ sym (clamp-below (a.scale *ℤ w) h) }
outside_rests a side w t g (behind h k) =
    record { near₀ = tent_outside g (inr h); near₁ = tent_outside g (inr k); past₁ = clamp-above g k ∙ sym (clamp-above g h) }
