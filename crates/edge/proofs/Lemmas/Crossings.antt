-- The steps of a walk that lie strictly inside a cell are consecutive: from the crossing of one side to that of the other, in both directions at once.
--
-- Main results
--   StepsWith, steps-beyond     of n steps, those from first to last are just the ones with a property; the others do not have it
--   strip-steps                 `strip_of` has just the steps strictly between its sides
--   span-steps                  `span` has just those strictly inside the cell
--   rows-steps                  `rows` has just those strictly in its rows
--   meet_low, meet_high         both are among the walk's steps
--   span-inside, inside-span    first < last just where some step lies strictly inside
use Rattle.std.specs.Prelude.{◌≡◌, refl, [], ◌∷◌, ◌⊎◌, Bool, true, false, cond, ℕ, ◌+◌, ◌≤◌, ℤ, pos, negsuc, neg_ℤ, ◌+ℤ◌, ◌-ℤ◌, ◌*ℤ◌, ◌≤ℤ◌, ◌<ℤ◌}
use Rattle.std.proofs.Common.{subst, inl, inr, arith}
use Rattle.std.specs.Int.Signed.{lt_z}
use Rattle.integers.proofs.Theorems.Order.{≤ℤ_or_<ℤ, ≤ℤ_trans, ≤ℤ_of_≡, add_one_≤ℤ, <ℤ_of_add_one_≤ℤ, lt_z-true, lt_z-false, pos-≤ℤ, ≤_of_pos, nonneg}
use Rattle.integers.proofs.Theorems.Linear.{le, lt, ◌&◌, linear, lin≤, lin<, lin⊥}
use Rattle.integers.specs.MinMax.{min, max}
use Rattle.integers.proofs.Theorems.MinMax.{min-≤ˡ, min-≤ʳ, min-greatest, max-≥ˡ, max-≥ʳ, max_least}
use Rattle.edge.specs.declared.Axis.{Axis}
use Rattle.edge.specs.Cuts.{all_steps, no_steps, strip, strip_of, meet, span, rows}
use Rattle.edge.specs.declared.Cell.{Cell}
use Rattle.edge.specs.declared.Span.{Span}
use Rattle.edge.proofs.Lemmas.Ends.{Direction, forward, still, backward, Steady}
use Rattle.edge.specs.Inside.{Between, SomeStepInside}

-- ---- one direction
-- of the steps t from 0 to n, those with first ≤ t and t + 1 ≤ last are just the ones with P
pub record StepsWith (P : ℤ → Type 0) (n : ℤ) (s : Span) : Type 0 where
  pub to : (t : ℤ) → pos 0 ≤ℤ t → (t +ℤ pos 1) ≤ℤ n → P t → (s.first ≤ℤ t) × ((t +ℤ pos 1) ≤ℤ s.last)
  pub from : (t : ℤ) → pos 0 ≤ℤ t → (t +ℤ pos 1) ≤ℤ n → s.first ≤ℤ t → (t +ℤ pos 1) ≤ℤ s.last → P t

pub steps-beyond : {P : ℤ → Type 0} {n : ℤ} {s : Span} → StepsWith P n s
    → (t : ℤ) → pos 0 ≤ℤ t → (t +ℤ pos 1) ≤ℤ n → ((t +ℤ pos 1) ≤ℤ s.first) ⊎ (s.last ≤ℤ t) → P t → ⊥
steps-beyond {s = s} p t h j (inl k) i = lin⊥ (t ∷ s.first ∷ []) (le k & le (p.to t h j i).0) (search linear depth 40) tt
steps-beyond {s = s} p t h j (inr k) i = lin⊥ (t ∷ s.last ∷ []) (le k & le (p.to t h j i).1) (search linear depth 40) tt

-- 2 a < 2 b + 1 of whole numbers
low_of_odd : (a b : ℤ) → (pos 2 *ℤ a) <ℤ (pos 2 *ℤ b +ℤ pos 1) → a ≤ℤ b
low_of_odd a b h = go (≤ℤ_or_<ℤ a b)
  where
    go : (a ≤ℤ b) ⊎ (b <ℤ a) → a ≤ℤ b
    go (inl k) = k
    go (inr k) = lin⊥ (a ∷ b ∷ []) (lt h & lt k) (search linear depth 40) tt

module _ (k x side w n : ℤ) where
  abbrev lower : ℤ
  lower = k *ℤ (side -ℤ x)

  abbrev upper : ℤ
  upper = k *ℤ (side -ℤ x) +ℤ k *ℤ w

  steps_forward : StepsWith (Between (record { scale = k; start = x; sign = pos 1 }) side w) n (record { first = lower; last = upper })
  steps_forward = record {
    to = λ t h j b. (
      low_of_odd lower t (lin< (k ∷ x ∷ side ∷ t ∷ []) (lt b.after) (search linear depth 40) tt),
      low_of_odd (t +ℤ pos 1) upper (lin< (k ∷ x ∷ side ∷ w ∷ t ∷ []) (lt b.before) (search linear depth 40) tt),
    );
    from = λ t h j i l. record {
      after = lin< (k ∷ x ∷ side ∷ t ∷ []) (le i) (search linear depth 40) tt;
      before = lin< (k ∷ x ∷ side ∷ w ∷ t ∷ []) (le l) (search linear depth 40) tt;
    };
  }

  steps_backward : StepsWith (Between (record { scale = k; start = x; sign = negsuc 0 }) side w) n (record { first = neg_ℤ upper; last = neg_ℤ lower })
  steps_backward = record {
    to = λ t h j b. (
      low_of_odd (neg_ℤ upper) t (lin< (k ∷ x ∷ side ∷ w ∷ t ∷ []) (lt b.before) (search linear depth 40) tt),
      low_of_odd (t +ℤ pos 1) (neg_ℤ lower) (lin< (k ∷ x ∷ side ∷ t ∷ []) (lt b.after) (search linear depth 40) tt),
    );
    from = λ t h j i l. record {
      after = lin< (k ∷ x ∷ side ∷ t ∷ []) (le l) (search linear depth 40) tt;
      before = lin< (k ∷ x ∷ side ∷ w ∷ t ∷ []) (le i) (search linear depth 40) tt;
    };
  }

  -- standing still outside: no step is between, and no t has n ≤ t and t + 1 ≤ n
  steps_none : ((t : ℤ) → Between (record { scale = k; start = x; sign = pos 0 }) side w t → ⊥)
      → StepsWith (Between (record { scale = k; start = x; sign = pos 0 }) side w) n (record { first = n; last = pos 0 })
  steps_none none = record { to = λ t h j b. absurd (none t b); from = λ t h j i l. lin⊥ (t ∷ n ∷ []) (le i & le j) (search linear depth 40) tt }

  steps_still : (b c : Bool) → (b ≡ true → lower <ℤ pos 0) → (b ≡ false → pos 0 ≤ℤ lower) → (c ≡ true → pos 0 <ℤ upper) → (c ≡ false → upper ≤ℤ pos 0)
      → StepsWith (Between (record { scale = k; start = x; sign = pos 0 }) side w) n
      (cond b (cond c (all_steps n) (no_steps n)) (no_steps n))
  steps_still false c _ h _ _ = steps_none (λ t b. lin⊥ (k ∷ x ∷ side ∷ t ∷ []) (le (h refl) & lt b.after) (search linear depth 40) tt)
  steps_still true false _ _ _ h = steps_none (λ t b. lin⊥ (k ∷ x ∷ side ∷ w ∷ t ∷ []) (le (h refl) & lt b.before) (search linear depth 40) tt)
  steps_still true true g _ h _ = record {
    to = λ t i j b. (i, j);
    from = λ t i j _ _. record {
      after = lin< (k ∷ x ∷ side ∷ t ∷ []) (lt (g refl)) (search linear depth 40) tt;
      before = lin< (k ∷ x ∷ side ∷ w ∷ t ∷ []) (lt (h refl)) (search linear depth 40) tt;
    };
  }

  steps_of : {s : ℤ} → Direction s → StepsWith (Between (record { scale = k; start = x; sign = s }) side w) n (strip s lower upper n)
  unfolding strip
  steps_of forward = steps_forward
  steps_of backward = steps_backward
  steps_of still = steps_still (lt_z lower (pos 0)) (lt_z (pos 0) upper) lt_z-true lt_z-false lt_z-true lt_z-false

pub strip-steps : (a : Axis) → Steady a → (side w n : ℤ) → StepsWith (Between a side w) n (strip_of a side w n)
strip-steps a s side w n = steps_of a.scale a.start side w n s.signed

-- ---- both directions
meet-steps : {P Q : ℤ → Type 0} {n : ℤ} {r s : Span} → StepsWith P n r → StepsWith Q n s → StepsWith (λ t. P t × Q t) n (meet r s n)
meet-steps {P} {Q} {n} {r} {s} p q = record {
  to = λ t h k b.
      let i = p.to t h k b.0 in
      let j = q.to t h k b.1 in
      (max_least h (max_least i.0 j.0), min-greatest k (min-greatest i.1 j.1));
  from = λ t h k i j.
      let i' = ≤ℤ_trans (max-≥ʳ (pos 0) (max r.first s.first)) i in
      let j' = ≤ℤ_trans j (min-≤ʳ n (min r.last s.last)) in (
        p.from t h k (≤ℤ_trans (max-≥ˡ r.first s.first) i') (≤ℤ_trans j' (min-≤ˡ r.last s.last)),
        q.from t h k (≤ℤ_trans (max-≥ʳ r.first s.first) i') (≤ℤ_trans j' (min-≤ʳ r.last s.last)),
      );
}

pub meet_low : (r s : Span) (n : ℤ) → pos 0 ≤ℤ (meet r s n).first
meet_low r s n = max-≥ˡ (pos 0) (max r.first s.first)

pub meet_high : (r s : Span) (n : ℤ) → (meet r s n).last ≤ℤ n
meet_high r s n = min-≤ˡ n (min r.last s.last)

pub rows-steps : (b : Axis) → Steady b → (c : Cell) (n : ℤ) → StepsWith (Between b c.top c.width) n (rows b c n)
rows-steps b s c n =
    let y = strip-steps b s c.top c.width n in
    record { to = λ t h j i. (meet-steps y y).to t h j (i, i); from = λ t h j k l. ((meet-steps y y).from t h j k l).0 }

module _ (a b : Axis) (sa : Steady a) (sb : Steady b) (c : Cell) where
  abbrev x_strip : ℤ → Span
  x_strip n = strip_of a c.left c.width n

  abbrev y_strip : ℤ → Span
  y_strip n = strip_of b c.top c.width n

  pub span-steps : (n : ℤ) → StepsWith (λ t. Between a c.left c.width t × Between b c.top c.width t) n (span a b c n)
  span-steps n = meet-steps (strip-steps a sa c.left c.width n) (strip-steps b sb c.top c.width n)

  pub span-inside : {n : ℕ} → (span a b c (pos n)).first <ℤ (span a b c (pos n)).last → SomeStepInside a b c n
  span-inside {n} h = go (span a b c (pos n)).first (meet_low (x_strip (pos n)) (y_strip (pos n)) (pos n)) refl
    where
      go : (t : ℤ) → pos 0 ≤ℤ t → (span a b c (pos n)).first ≡ t → SomeStepInside a b c n
      go (negsuc t) k e = absurd k.le
      go (pos t) k e =
          let i : (pos t +ℤ pos 1) ≤ℤ (span a b c (pos n)).last = add_one_≤ℤ (subst (λ z. z <ℤ (span a b c (pos n)).last) e h) in
          let j : (pos t +ℤ pos 1) ≤ℤ pos n = ≤ℤ_trans i (meet_high (x_strip (pos n)) (y_strip (pos n)) (pos n)) in
          let l : t + 1 ≤ n = ≤_of_pos j in
          let p = (span-steps (pos n)).from (pos t) k j (≤ℤ_of_≡ e) i in
          record { step = t; on = omega arith; x = p.0; y = p.1 }

  pub inside-span : {n : ℕ} → SomeStepInside a b c n → (span a b c (pos n)).first <ℤ (span a b c (pos n)).last
  inside-span {n} s =
      let l = s.on in
      let p = (span-steps (pos n)).to (pos s.step) (nonneg s.step) (pos-≤ℤ {m = s.step + 1} (omega arith)) (s.x, s.y) in
      <ℤ_of_add_one_≤ℤ (lin≤ ((span a b c (pos n)).first ∷ (span a b c (pos n)).last ∷ pos s.step ∷ []) (le p.0 & le p.1) (search linear depth 40) tt)
