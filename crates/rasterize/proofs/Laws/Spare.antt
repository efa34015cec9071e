-- Room for additions: what `Spare` counts down, so that no sum passes what 64 bits hold.
--
-- Main results
--   spare_le                     room for more is room for fewer
--   spare_added                  after additions of m details' size to each entry, what is left of the room for m + n
--   spare_zeros                  the room of an empty table
--   signed_within                a number times a sign is no larger
use Rattle.std.specs.Prelude.{refl, List, [], ◌∷◌, ℕ, ◌+◌, ◌*◌, ◌<◌, ◌≤◌, length, replicate, ℤ, pos, ◌*ℤ◌}
use Rattle.std.proofs.Common.{sym, arith, mul-le-mul_right}
use Rattle.std.proofs.lemmas.List.{length-replicate, get_or-replicate}
use Rattle.integers.specs.Units.{detail_limit}
use Rattle.integers.proofs.Theorems.Ring.{read, ring}
use Rattle.integers.specs.Within.{Within}
use Rattle.integers.proofs.Theorems.Within.{within_is, within_zero, within_add, within_mul}
use Rattle.integers.proofs.Theorems.ListSum.{get_d_each}
use Rattle.rasterize.specs.Added.{added}
use Rattle.rasterize.specs.Ready.{sum_limit, Spare}
use Rattle.rasterize.proofs.Laws.Adding.{added-length, added_entry}

pub spare_le : {t : List ℤ} {m n : ℕ} → n ≤ m → Spare t m → Spare t n
spare_le h s = record { bound = s.bound; room = omega (arith, mul-le-mul_right detail_limit h, s.room); each = s.each }

pub spare_added : {t : List ℤ} (m n : ℕ) (g : ℕ → ℤ) → ((i : ℕ) → i < length t → Within (pos (m * detail_limit)) (g i)) → Spare t (m + n)
    → Spare (added t g) n
spare_added {t} m n g w s = record {
  bound = s.bound + m * detail_limit;
  room = omega (arith, s.room);
  each = get_d_each (Within (pos (s.bound + m * detail_limit))) (pos 0) (within_zero (s.bound + m * detail_limit)) (added t g)
      (λ i h. let k : i < length t = omega (arith, added-length t g) in
      within_is refl (sym (added_entry t g i k)) (within_add (s.each i) (w i k)));
}

pub spare_zeros : (len n : ℕ) → n * detail_limit ≤ sum_limit → Spare (replicate len (pos 0)) n
spare_zeros len n h = record {
  bound = 0;
  room = omega arith;
  each = get_d_each (Within (pos 0)) (pos 0) (within_zero 0) (replicate len (pos 0))
      (λ i k. within_is refl (sym (get_or-replicate len i (pos 0) (pos 0) (omega (arith, length-replicate len (pos 0))))) (within_zero 0));
}

pub signed_within : {s z : ℤ} {b : ℕ} → Within (pos 1) s → Within (pos b) z → Within (pos b) (s *ℤ z)
signed_within {b = b} p q = within_is (ring (pos b ∷ []) (search read depth 40) tt) refl (within_mul p q)
