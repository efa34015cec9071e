-- A sum under a tent, and what is rounded of it, of numbers that are read back from their bits.
--
-- Main results
--   arch_back, under_back        where the sum is asked for, and the sum
--   sum_within                   how large it is
--   turned-eq                    the same with the sign turned, of equal numbers
--   rounded_within               a rounded number stays within the bound
--   sign_within, sign-rounded    a number's sign, and their product, which is rounded as the number is
use Rattle.std.proofs.Common.{◌≡◌, sym, ◌∙◌, ap, ap₂, subst, [], ◌∷◌, ℕ, ℤ, pos, negsuc, neg_ℤ, nat_abs, ◌*ℤ◌, ◌<ℤ◌, ltb→lt, w64, SFits, to_z-of_z}
use Rattle.std.proofs.Math.Path.{subst⁻¹}
use Rattle.integers.proofs.Theorems.Ring.{read, ring}
use Rattle.integers.proofs.Theorems.Order.{add_one_≤ℤ, nonneg, ≤ℤ-mul}
use Rattle.integers.proofs.Theorems.Linear.{le, ◌&◌, none!, linear, lin≤}
use Rattle.integers.specs.Within.{Within}
use Rattle.integers.proofs.Theorems.Within.{within_le, within_self}
use Rattle.integers.specs.Bits.{back}
use Rattle.integers.specs.Rounding.{round_half_away}
use Rattle.integers.proofs.Theorems.RoundHalfAway.{round_half_away_within}
use Rattle.slanted.specs.Under.{under, turned, under_limit, Arch, Turns, stays, turns}
use Rattle.slanted.proofs.Laws.Sums.{under-range}
use Rattle.slanted.proofs.Laws.PieceDetails.{rounded-neg}

module _ {p m u v : ℤ} (i : SFits w64 p) (j : SFits w64 m) (k : SFits w64 u) (l : SFits w64 v) where
  pub arch_back : Arch p m u v → Arch (back p) (back m) (back u) (back v)
  arch_back r =
      subst (Arch (back p) (back m) (back u)) (sym (to_z-of_z l))
      (subst (λ z. Arch (back p) (back m) z v) (sym (to_z-of_z k)) (subst (λ z. Arch (back p) z u v) (sym (to_z-of_z j)) (subst (λ z. Arch z m u v) (sym (to_z-of_z i)) r)))

  pub under_back : under (back p) (back m) (back u) (back v) ≡ under p m u v
  under_back = ap₂ (λ x y. under x y (back u) (back v)) (to_z-of_z i) (to_z-of_z j) ∙ ap₂ (under p m) (to_z-of_z k) (to_z-of_z l)

pub sum_within : {p m u v : ℤ} → Arch p m u v → Within (pos under_limit) (under p m u v)
sum_within r = let k = under-range r in within_le k.1 (within_self k.0)

pub turned-eq : {p p' m m' u u' v v' y y' : ℤ} → p ≡ p' → m ≡ m' → u ≡ u' → v ≡ v' → y ≡ y' → turned p m u v y ≡ turned p' m' u' v' y'
turned-eq {p} {p'} {m} {m'} {u} {u'} {v} {v'} {y} {y'} i j k l o =
    ap₂ (λ a b. turned a b u v y) i j ∙ ap₂ (λ a b. turned p' m' a b y) k l ∙ ap (turned p' m' u' v') o

pub rounded_within : {b : ℕ} {z : ℤ} (n : ℤ) → pos 0 <ℤ n → Within (pos b) z → Within (pos b) (round_half_away z (nat_abs n))
rounded_within (negsuc n) h w = absurd h.lt
rounded_within {b} {z} (pos n) h w =
    let larger = ≤ℤ-mul (nonneg b) (add_one_≤ℤ h) in
    round_half_away_within (ltb→lt 0 n h.lt) (record {
      low = lin≤ (z ∷ pos n ∷ pos b ∷ []) (le w.low & le larger) (search linear depth 40) tt;
      high = lin≤ (z ∷ pos n ∷ pos b ∷ []) (le w.high & le larger) (search linear depth 40) tt;
    })

-- ---- a sign
pub sign_within : {m s : ℤ} → Turns m s → Within (pos 1) s
sign_within (stays h e) = subst⁻¹ (Within (pos 1)) e (record { low = lin≤ [] none! (search linear depth 40) tt; high = lin≤ [] none! (search linear depth 40) tt })
sign_within (turns h e) = subst⁻¹ (Within (pos 1)) e (record { low = lin≤ [] none! (search linear depth 40) tt; high = lin≤ [] none! (search linear depth 40) tt })

pub sign-rounded : {m s n : ℤ} → Turns m s → pos 0 <ℤ n → s *ℤ round_half_away (s *ℤ m) (nat_abs n) ≡ round_half_away m (nat_abs n)
sign-rounded {m} {s} {n} (stays h e) k =
    ap (λ s. s *ℤ round_half_away (s *ℤ m) (nat_abs n)) e ∙ ap (λ z. pos 1 *ℤ round_half_away z (nat_abs n)) {y = m} (ring (m ∷ []) (search read depth 40) tt)
    ∙ ring (round_half_away m (nat_abs n) ∷ []) (search read depth 40) tt
sign-rounded {m} {s} {n} (turns h e) k =
    ap (λ s. s *ℤ round_half_away (s *ℤ m) (nat_abs n)) e ∙ ap (λ z. negsuc 0 *ℤ round_half_away z (nat_abs n)) {y = neg_ℤ m} (ring (m ∷ []) (search read depth 40) tt)
    ∙ ap (λ z. negsuc 0 *ℤ z) (rounded-neg k m) ∙ ring (round_half_away m (nat_abs n) ∷ []) (search read depth 40) tt
