-- The sum under a tent, by its ends.
--
-- Main results
--   under-join, under_none               one run after the other; a run of no steps
--   under_up, under-down, under_bent     the sum before the middle, after it, and across it
--   under-range                          how large it is
--   arch_before                          it can be asked for the first part of a run
--   turned_before, turned_after,
--   turned-across                        with the sign turned after the run, before it, and in it
--   turned-join, turned_none             one run after the other; a run of no steps
--   turned-range                         how large it is
use Rattle.std.specs.Prelude.{◌≡◌, refl, [], ◌∷◌, ◌⊎◌, ◌*◌, ◌^◌, ℤ, pos, negsuc, neg_ℤ, ◌+ℤ◌, ◌-ℤ◌, ◌*ℤ◌, ◌≤ℤ◌, ◌<ℤ◌}
use Rattle.std.proofs.Common.{sym, ◌∙◌, ap, ap₂, inl, inr}
use Rattle.std.specs.Int.Signed.{≤ℤ_refl}
use Rattle.integers.proofs.Theorems.Ring.{read, ring, comb, ◌⊕◌, ◌⊗◌}
use Rattle.integers.proofs.Theorems.Order.{≤ℤ_or_<ℤ, ≤ℤ_trans, ≤ℤ_of_<ℤ}
use Rattle.integers.proofs.Theorems.Linear.{le, lt, eq, ◌&◌, none!, linear, lin≤, lin≡}
use Rattle.integers.specs.Magnitude.{abs, nonnegative, nonpositive, AbsView}
use Rattle.integers.proofs.Theorems.Magnitude.{abs_view}
use Rattle.integers.proofs.Theorems.Clamp.{clamp-below, clamp-above, clamp-inside}
use Rattle.integers.specs.Units.{width_times_extent_limit}
use Rattle.integers.specs.Within.{Within}
use Rattle.integers.proofs.Theorems.Within.{bounds, within_is, within_le, within_self, within_neg, within_sub, within_scale}
use Rattle.edge.specs.Nested.{OnRange}
use Rattle.edge.proofs.Laws.Cells.{product_on}
use Rattle.slanted.specs.Under.{signed_square, under, turned, under_limit, sum_limit, Arch}

-- ---- by the ends
abs_up : {z : ℤ} → pos 0 ≤ℤ z → abs z ≡ z
abs_up {z} h = go (abs_view z)
  where
    go : AbsView z (abs z) → abs z ≡ z
    go (nonnegative k e) = e
    go (nonpositive k e) = lin≡ (z ∷ abs z ∷ []) (eq e & le k & le h) (search linear depth 40) (tt, tt)

abs-down : {z : ℤ} → z ≤ℤ pos 0 → abs z ≡ neg_ℤ z
abs-down {z} h = go (abs_view z)
  where
    go : AbsView z (abs z) → abs z ≡ neg_ℤ z
    go (nonnegative k e) = lin≡ (z ∷ abs z ∷ []) (eq e & le k & le h) (search linear depth 40) (tt, tt)
    go (nonpositive k e) = e

square_up : {m t : ℤ} → m ≤ℤ t → signed_square (t -ℤ m) ≡ (t -ℤ m) *ℤ (t -ℤ m)
square_up {m} {t} h = ap (λ z. (t -ℤ m) *ℤ z) (abs_up (lin≤ (m ∷ t ∷ []) (le h) (search linear depth 40) tt))

square-down : {m t : ℤ} → t ≤ℤ m → signed_square (t -ℤ m) ≡ (t -ℤ m) *ℤ neg_ℤ (t -ℤ m)
square-down {m} {t} h = ap (λ z. (t -ℤ m) *ℤ z) (abs-down (lin≤ (m ∷ t ∷ []) (le h) (search linear depth 40) tt))

pub under-join : (p m u v w : ℤ) → under p m u v +ℤ under p m v w ≡ under p m u w
unfolding under
under-join p m u v w =
    ring (p ∷ m ∷ u ∷ v ∷ w ∷ abs (u -ℤ m) ∷ abs (v -ℤ m) ∷ abs (w -ℤ m) ∷ []) (search read depth 40) tt

pub under_none : (p m u : ℤ) → under p m u u ≡ pos 0
unfolding under
under_none p m u = ring (p ∷ m ∷ u ∷ abs (u -ℤ m) ∷ []) (search read depth 40) tt

pub under_up : (p : ℤ) {m u v : ℤ} → u ≤ℤ v → v ≤ℤ m → under p m u v ≡ (v -ℤ u) *ℤ (pos 2 *ℤ p +ℤ (u +ℤ v -ℤ pos 2 *ℤ m))
unfolding under
under_up p {m} {u} {v} h k =
    ap₂ (λ x y. pos 2 *ℤ p *ℤ (v -ℤ u) -ℤ (x -ℤ y)) (square-down k) (square-down (≤ℤ_trans h k))
    ∙ ring (p ∷ m ∷ u ∷ v ∷ []) (search read depth 40) tt

pub under-down : (p : ℤ) {m u v : ℤ} → u ≤ℤ v → m ≤ℤ u → under p m u v ≡ (v -ℤ u) *ℤ (pos 2 *ℤ p -ℤ (u +ℤ v -ℤ pos 2 *ℤ m))
unfolding under
under-down p {m} {u} {v} h k =
    ap₂ (λ x y. pos 2 *ℤ p *ℤ (v -ℤ u) -ℤ (x -ℤ y)) (square_up (≤ℤ_trans k h)) (square_up k)
    ∙ ring (p ∷ m ∷ u ∷ v ∷ []) (search read depth 40) tt

pub under_bent : (p : ℤ) {m u v : ℤ} → u ≤ℤ m → m ≤ℤ v
    → under p m u v ≡ pos 2 *ℤ p *ℤ (v -ℤ u) -ℤ ((m -ℤ u) *ℤ (m -ℤ u) +ℤ (v -ℤ m) *ℤ (v -ℤ m))
unfolding under
under_bent p {m} {u} {v} h k =
    ap₂ (λ x y. pos 2 *ℤ p *ℤ (v -ℤ u) -ℤ (x -ℤ y)) (square_up k) (square-down h) ∙ ring (p ∷ m ∷ u ∷ v ∷ []) (search read depth 40) tt

-- ---- how large
-- a run of b − a steps up to at most the middle, from a to b past it
abbrev rise : ℤ → ℤ → ℤ → ℤ
rise p a b = (b -ℤ a) *ℤ (pos 2 *ℤ p +ℤ (a +ℤ b))

rise-range : {p a b : ℤ} → p ≤ℤ pos width_times_extent_limit → neg_ℤ p ≤ℤ a → a ≤ℤ b → b ≤ℤ pos 0 → (pos 0 ≤ℤ rise p a b) × (rise p a b ≤ℤ pos (2 ^ 58))
rise-range {p} {a} {b} l h i j =
    let steps : OnRange (pos 0) (pos (2 * width_times_extent_limit)) (b -ℤ a) = record {
      low = lin≤ (a ∷ b ∷ []) (le i) (search linear depth 40) tt;
      high = lin≤ (p ∷ a ∷ b ∷ []) (le l & le h & le i & le j) (search linear depth 40) tt;
    } in
    let height : OnRange (pos 0) (pos (2 * width_times_extent_limit)) (pos 2 *ℤ p +ℤ (a +ℤ b)) = record {
      low = lin≤ (p ∷ a ∷ b ∷ []) (le h & le i) (search linear depth 40) tt;
      high = lin≤ (p ∷ a ∷ b ∷ []) (le l & le i & le j) (search linear depth 40) tt;
    } in
    let r = product_on steps height in
    (r.low, lin≤ (p ∷ a ∷ b ∷ []) (le r.high) (search linear depth 40) tt)

pub under-range : {p m u v : ℤ} → Arch p m u v → (pos 0 ≤ℤ under p m u v) × (under p m u v ≤ℤ pos under_limit)
under-range {p} {m} {u} {v} r = go (≤ℤ_or_<ℤ v m) (≤ℤ_or_<ℤ m u)
  where
    Small : ℤ → Type 0
    Small z = (pos 0 ≤ℤ z) × (z ≤ℤ pos under_limit)

    -- up to the middle from u, and down from it to v
    from_start : {b : ℤ} → (u -ℤ m) ≤ℤ b → b ≤ℤ pos 0 → (pos 0 ≤ℤ rise p (u -ℤ m) b) × (rise p (u -ℤ m) b ≤ℤ pos (2 ^ 58))
    from_start h k = rise-range r.peak.high r.start.low h k

    to_end : {b : ℤ} → (m -ℤ v) ≤ℤ b → b ≤ℤ pos 0 → (pos 0 ≤ℤ rise p (m -ℤ v) b) × (rise p (m -ℤ v) b ≤ℤ pos (2 ^ 58))
    to_end h k = rise-range r.peak.high (lin≤ (p ∷ m ∷ v ∷ []) (le r.end.high) (search linear depth 40) tt) h k

    one : {z f : ℤ} → z ≡ f → (pos 0 ≤ℤ f) × (f ≤ℤ pos (2 ^ 58)) → Small z
    one {z} {f} e k =
        (lin≤ (z ∷ f ∷ []) (eq e & le k.0) (search linear depth 40) tt, lin≤ (z ∷ f ∷ []) (eq e & le k.1) (search linear depth 40) tt)

    two : {z f g : ℤ} → z ≡ f +ℤ g → (pos 0 ≤ℤ f) × (f ≤ℤ pos (2 ^ 58)) → (pos 0 ≤ℤ g) × (g ≤ℤ pos (2 ^ 58)) → Small z
    two {z} {f} {g} e k l = (
      lin≤ (z ∷ f ∷ g ∷ []) (eq e & le k.0 & le l.0) (search linear depth 40) tt,
      lin≤ (z ∷ f ∷ g ∷ []) (eq e & le k.1 & le l.1) (search linear depth 40) tt,
    )

    go : (v ≤ℤ m) ⊎ (m <ℤ v) → (m ≤ℤ u) ⊎ (u <ℤ m) → Small (under p m u v)
    go (inl h) k =
        one (under_up p r.order h ∙ ring (p ∷ m ∷ u ∷ v ∷ []) (search read depth 40) tt)
        (from_start {b = v -ℤ m} (lin≤ (m ∷ u ∷ v ∷ []) (le r.order) (search linear depth 40) tt) (lin≤ (m ∷ v ∷ []) (le h) (search linear depth 40) tt))
    go (inr h) (inl k) =
        one (under-down p r.order k ∙ ring (p ∷ m ∷ u ∷ v ∷ []) (search read depth 40) tt)
        (to_end {b = m -ℤ u} (lin≤ (m ∷ u ∷ v ∷ []) (le r.order) (search linear depth 40) tt) (lin≤ (m ∷ u ∷ []) (le k) (search linear depth 40) tt))
    go (inr h) (inr k) =
        two (under_bent p (≤ℤ_of_<ℤ k) (≤ℤ_of_<ℤ h) ∙ ring (p ∷ m ∷ u ∷ v ∷ []) (search read depth 40) tt)
        (from_start {b = pos 0} (lin≤ (m ∷ u ∷ []) (lt k) (search linear depth 40) tt) (≤ℤ_refl (pos 0)))
        (to_end {b = pos 0} (lin≤ (m ∷ v ∷ []) (lt h) (search linear depth 40) tt) (≤ℤ_refl (pos 0)))

-- the first part of a run
pub arch_before : {p m u v y : ℤ} → Arch p m u v → u ≤ℤ y → y ≤ℤ v → Arch p m u y
arch_before {p} {m} {u} {v} {y} r h k = record {
  order = h;
  peak = r.peak;
  start = r.start;
  end = record {
    low = lin≤ (p ∷ m ∷ u ∷ y ∷ []) (le h & bounds r.start) (search linear depth 40) tt;
    high = lin≤ (p ∷ m ∷ v ∷ y ∷ []) (le k & bounds r.end) (search linear depth 40) tt;
  };
  middle = r.middle;
  from = r.from;
  to = record { low = ≤ℤ_trans r.from.low h; high = ≤ℤ_trans k r.to.high };
}

-- ---- with the sign turned from step y on
pub turned_before : (p m : ℤ) {u v y : ℤ} → u ≤ℤ v → v ≤ℤ y → turned p m u v y ≡ under p m u v
unfolding turned
turned_before p m {u} {v} o h =
    ap (λ t. under p m u t -ℤ under p m t v) (clamp-above o h)
    ∙ comb (under p m u v ∷ under p m v v ∷ []) (negsuc 0 ⊗ under_none p m v) (search read depth 40) tt

pub turned_after : (p m : ℤ) {u y : ℤ} (v : ℤ) → y ≤ℤ u → turned p m u v y ≡ neg_ℤ (under p m u v)
unfolding turned
turned_after p m {u} v h =
    ap (λ t. under p m u t -ℤ under p m t v) (clamp-below v h)
    ∙ comb (under p m u v ∷ under p m u u ∷ []) (under_none p m u) (search read depth 40) tt

pub turned-across : (p m : ℤ) {u v y : ℤ} → u ≤ℤ y → y ≤ℤ v → turned p m u v y ≡ pos 2 *ℤ under p m u y -ℤ under p m u v
unfolding turned
turned-across p m {u} {v} {y} h k =
    ap (λ t. under p m u t -ℤ under p m t v) (clamp-inside h k)
    ∙ comb (under p m u y ∷ under p m y v ∷ under p m u v ∷ []) (negsuc 0 ⊗ under-join p m u y v) (search read depth 40) tt

pub turned_none : (p m u y : ℤ) → turned p m u u y ≡ pos 0
turned_none p m u y = go (≤ℤ_or_<ℤ u y)
  where
    go : (u ≤ℤ y) ⊎ (y <ℤ u) → turned p m u u y ≡ pos 0
    go (inl h) = turned_before p m (≤ℤ_refl u) h ∙ under_none p m u
    go (inr h) = turned_after p m u (≤ℤ_of_<ℤ h) ∙ ap neg_ℤ (under_none p m u)

pub turned-join : (p m : ℤ) {u v w : ℤ} (y : ℤ) → u ≤ℤ v → v ≤ℤ w → turned p m u v y +ℤ turned p m v w y ≡ turned p m u w y
turned-join p m {u} {v} {w} y h k = go (≤ℤ_or_<ℤ v y) (≤ℤ_or_<ℤ w y) (≤ℤ_or_<ℤ u y)
  where
    sum : {a b c : ℤ} (A B C : ℤ) → a ≡ A → b ≡ B → c ≡ C → A +ℤ B ≡ C → a +ℤ b ≡ c
    sum A B C i j l e = ap₂ ◌+ℤ◌ i j ∙ e ∙ sym l

    go : (v ≤ℤ y) ⊎ (y <ℤ v) → (w ≤ℤ y) ⊎ (y <ℤ w) → (u ≤ℤ y) ⊎ (y <ℤ u) → turned p m u v y +ℤ turned p m v w y ≡ turned p m u w y
    go (inl i) (inl j) l = sum _ _ _ (turned_before p m h i) (turned_before p m k j) (turned_before p m (≤ℤ_trans h k) j) (under-join p m u v w)
    go (inl i) (inr j) l =
        sum _ _ _ (turned_before p m h i) (turned-across p m i (≤ℤ_of_<ℤ j)) (turned-across p m (≤ℤ_trans h i) (≤ℤ_of_<ℤ j))
        (comb (under p m u v ∷ under p m v y ∷ under p m u y ∷ under p m v w ∷ under p m u w ∷ []) (pos 2 ⊗ under-join p m u v y ⊕ negsuc 0 ⊗ under-join p m u v w) (search read depth 40) tt)
    go (inr i) j (inl l) =
        sum _ _ _ (turned-across p m l (≤ℤ_of_<ℤ i)) (turned_after p m w (≤ℤ_of_<ℤ i)) (turned-across p m l (≤ℤ_trans (≤ℤ_of_<ℤ i) k))
        (comb (under p m u y ∷ under p m u v ∷ under p m v w ∷ under p m u w ∷ []) (negsuc 0 ⊗ under-join p m u v w) (search read depth 40) tt)
    go (inr i) j (inr l) =
        sum _ _ _ (turned_after p m v (≤ℤ_of_<ℤ l)) (turned_after p m w (≤ℤ_of_<ℤ i)) (turned_after p m w (≤ℤ_of_<ℤ l))
        (comb (under p m u v ∷ under p m v w ∷ under p m u w ∷ []) (negsuc 0 ⊗ under-join p m u v w) (search read depth 40) tt)

pub turned-range : {p m u v : ℤ} → Arch p m u v → (y : ℤ) → Within (pos sum_limit) (turned p m u v y)
turned-range {p} {m} {u} {v} r y = go (≤ℤ_or_<ℤ v y) (≤ℤ_or_<ℤ y u)
  where
    all : Within (pos under_limit) (under p m u v)
    all = let k = under-range r in within_le k.1 (within_self k.0)

    go : (v ≤ℤ y) ⊎ (y <ℤ v) → (y ≤ℤ u) ⊎ (u <ℤ y) → Within (pos sum_limit) (turned p m u v y)
    go (inl h) k = within_is refl (sym (turned_before p m r.order h)) (within_le (lin≤ [] none! (search linear depth 40) tt) all)
    go (inr h) (inl k) = within_is refl (sym (turned_after p m v k)) (within_le (lin≤ [] none! (search linear depth 40) tt) (within_neg all))
    go (inr h) (inr k) =
        let i = under-range (arch_before r (≤ℤ_of_<ℤ k) (≤ℤ_of_<ℤ h)) in
        within_is refl (sym (turned-across p m (≤ℤ_of_<ℤ k) (≤ℤ_of_<ℤ h))) (within_sub (within_scale 2 (within_le i.1 (within_self i.0))) all)
