-- Arithmetic at the machine's signed integers. A value of width w is held as its bits, `of_z w z`, and read back by `to_z w`; it is z again where
-- z fits, `SFits w z`. A function's proof is asked, of each operation, that its result fits, and of the code's tests what they say.
--
-- Main results (the laws among them are in proofs/Theorems/Machine.antt)
--   linfits ρ FACTS (search machine depth 40) (tt, tt)     a result fits, from facts, by linear arithmetic
--   search machine                                         in place of `read` and `linear`: reads through bits of what is known to fit
--   range f                                                what a number that fits lies between, as facts
--   fits_low, fits_high                                    the same as two inequalities
--   box h k i j                                            what two bounds on each factor say of a product, as facts
--   search tests                                           the order of two values that a comparison which was taken, or not, gives
--   known, bits_pos                                        a number that fits, read back; a positive number's bits are not 0
use Rattle.std.specs.Prelude.{refl, List, ◌-◌, ◌^◌, ℤ, pos, neg_ℤ, ◌-ℤ◌, ◌*ℤ◌}
use Rattle.std.proofs.Common.{sym, ◌∙◌, to_z-of_z}
use Rattle.std.specs.Int.{Width}
use mir.Val.{SFits, hbits, to_z, of_z}
use Rattle.integers.specs.Polynomial.{lit}
use Rattle.integers.specs.Ring.{Reads, reads}
use Rattle.integers.specs.Linear.{Ineqs, end, more, Hyps, next, Refutes≤}

-- ---- values, and their bits
abbrev pub read_back : {ρ : List ℤ} {z : ℤ} {w : Width} → SFits w z → Reads ρ z → Reads ρ (to_z w (of_z w z))
read_back s (reads e p) = reads e (p ∙ sym (to_z-of_z s))

abbrev pub lowest : Width → ℤ
lowest w = neg_ℤ (pos (2 ^ hbits w))

abbrev pub highest : Width → ℤ
highest w = pos (2 ^ hbits w - 1)

-- ---- products: the distances of x to its bounds a and b times those of y to c and d
abbrev pub Box : ℤ → ℤ → ℤ → ℤ → ℤ → ℤ → Ineqs
Box x y a b c d =
    more (pos 0) ((x -ℤ a) *ℤ (y -ℤ c)) (more (pos 0) ((x -ℤ a) *ℤ (d -ℤ y)) (more (pos 0) ((b -ℤ x) *ℤ (y -ℤ c)) (more (pos 0) ((b -ℤ x) *ℤ (d -ℤ y)) end)))

-- ---- that a result fits
pub data Fit (ρ : List ℤ) (Γ : Ineqs) (z : ℤ) : Type 0 where
  fit : Hyps ρ Γ → Reads ρ z → Fit ρ Γ z

abbrev pub bottom : (w : Width) {ρ : List ℤ} → Reads ρ (lowest w)
bottom w = reads (lit (lowest w)) refl

abbrev pub top : (w : Width) {ρ : List ℤ} → Reads ρ (pos (2 ^ hbits w))
top w = reads (lit (pos (2 ^ hbits w))) refl

abbrev pub SureFit : {ρ : List ℤ} {Γ : Ineqs} {z : ℤ} → Width → Fit ρ Γ z → Type 0
SureFit w (fit hs p) = Refutes≤ hs (bottom w) p × Refutes≤ hs (next p) (top w)
