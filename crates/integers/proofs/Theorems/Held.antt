-- Laws of what specs/Held.antt defines. The head of that file lists the main results.
use Rattle.std.specs.Prelude.{[], ◌∷◌, ℕ, ◌+◌, ◌*◌, T, leb, ℤ, pos, neg_ℤ, ◌+ℤ◌, ◌-ℤ◌, ◌*ℤ◌}
use Rattle.std.proofs.Common.{◌∙◌, ap, ap₂, SFits}
use Rattle.std.proofs.Math.Path.{subst⁻¹}
use Rattle.std.specs.Int.{w64}
use Rattle.integers.proofs.Theorems.Ring.{read, ring}
use Rattle.integers.specs.Within.{Within}
use Rattle.integers.proofs.Theorems.Within.{within_add, within_sub, within_neg, within_mul}
use Rattle.integers.proofs.Theorems.Machine.{known}
use Rattle.integers.specs.Bits.{back, greatest}
use Rattle.integers.proofs.Theorems.Bits.{fits_within, back_is}
use Rattle.integers.specs.Held.{Held}

-- `b` is a closed number, so the test computes: `held_number tt`
pub held_number : {b : ℕ} {z : ℤ} → T (leb b greatest) → Within (pos b) z → Held b (back z) z
held_number t w = record { is = back_is t w; within = w }

pub held-add : {a b : ℕ} {y z u v : ℤ} → Held a y u → Held b z v → Held (a + b) (y +ℤ z) (u +ℤ v)
held-add p q = record { is = ap₂ ◌+ℤ◌ p.is q.is; within = within_add p.within q.within }

pub held_sub : {a b : ℕ} {y z u v : ℤ} → Held a y u → Held b z v → Held (a + b) (y -ℤ z) (u -ℤ v)
held_sub p q = record { is = ap₂ ◌-ℤ◌ p.is q.is; within = within_sub p.within q.within }

pub held-mul : {a b : ℕ} {y z u v : ℤ} → Held a y u → Held b z v → Held (a * b) (y *ℤ z) (u *ℤ v)
held-mul p q = record { is = ap₂ ◌*ℤ◌ p.is q.is; within = within_mul p.within q.within }

pub held-neg : {b : ℕ} {z v : ℤ} → Held b z v → Held b (pos 0 -ℤ z) (neg_ℤ v)
held-neg {b} {z} {v} p = record { is = ap (λ x. pos 0 -ℤ x) p.is ∙ ring (v ∷ []) (search read depth 40) tt; within = within_neg p.within }

-- and so here: `held_fits tt`
pub held_fits : {b : ℕ} {z v : ℤ} → T (leb b greatest) → Held b z v → SFits w64 z
held_fits t p = subst⁻¹ (SFits w64) p.is (fits_within t p.within)

pub held_back : {b : ℕ} {z v : ℤ} → T (leb b greatest) → Held b z v → Held b (back z) v
held_back t p = record { is = known (held_fits t p) p.is; within = p.within }

pub held_within : {b : ℕ} {z v : ℤ} → Held b z v → Within (pos b) z
held_within {b} p = subst⁻¹ (Within (pos b)) p.is p.within
