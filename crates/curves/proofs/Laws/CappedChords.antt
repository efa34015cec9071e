-- How many edges an outline is drawn as, counted no further than one past the most (`capped_chords` of `chords`).
--
-- Main results
--   capped_few                   where it is at most the most, it is their number
--   capped_many                  it is no more than their number
--   capped_bound                 and no more than one past the most
use Rattle.std.specs.Prelude.{◌≡◌, refl, Bool, true, false, cond, List, ℕ, suc, ◌+◌, ◌≤◌, leb, length}
use Rattle.std.proofs.Common.{arith, leb-true, leb-false}
use Rattle.integers.specs.Units.{most_edges}
use Rattle.chords.specs.Sides.{MarkedContour}
use Rattle.chords.specs.Chords.{outline_chords}
use Rattle.chords.specs.Inner.{capped_chords}

module _ (n : ℕ) where
  few : (b : Bool) → cond b n (suc most_edges) ≤ most_edges → cond b n (suc most_edges) ≡ n
  few true h = refl
  few false h = absurd (omega arith)

  many : (b : Bool) → leb n most_edges ≡ b → cond b n (suc most_edges) ≤ n
  many true e = omega arith
  many false e = leb-false n most_edges e

  bound : (b : Bool) → leb n most_edges ≡ b → cond b n (suc most_edges) ≤ most_edges + 1
  bound true e = let h = leb-true n most_edges e in omega (arith, h)
  bound false e = omega arith

module _ (cs : List MarkedContour) where
  pub capped_few : capped_chords cs ≤ most_edges → capped_chords cs ≡ length (outline_chords cs)
  capped_few h = few (length (outline_chords cs)) (leb (length (outline_chords cs)) most_edges) h

  pub capped_many : capped_chords cs ≤ length (outline_chords cs)
  capped_many = many (length (outline_chords cs)) (leb (length (outline_chords cs)) most_edges) refl

  pub capped_bound : capped_chords cs ≤ most_edges + 1
  capped_bound = bound (length (outline_chords cs)) (leb (length (outline_chords cs)) most_edges) refl
