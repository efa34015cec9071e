-- `round_half_away n d` is the number that 01 asks for: nearest to n / d, and of two that are as near the one farther from zero. No other number is, so no
-- other rounding can be taken for it.
--
-- Main results
--   round_half_away_is_nearest     `round_half_away n d` has the property `IsNearestAway` of `Rounding`
--   round_half_away_unique         a number with that property is `round_half_away n d`
use Rattle.std.specs.Prelude.{◌≡◌, ◌⊎◌, ℕ, ◌<◌, ◌+ℤ◌, ◌-ℤ◌, ◌*ℤ◌, ◌≤ℤ◌, ◌<ℤ◌}
use Rattle.std.proofs.Common.{sym, ◌∙◌, subst₂, inl, inr}
use Rattle.std.proofs.Math.Path.{ap}
use mathlib.Core.List.{List, [], ◌∷◌}
use Rattle.std.proofs.Math.IntN.{ℤ, pos, neg_ℤ}
use Rattle.integers.proofs.Theorems.Ring.{read, ring}
use Rattle.integers.proofs.Theorems.Order.{pos-≤ℤ, positive, nonneg, ≤ℤ-mul, ≤ℤ-mul-nonneg, ≤ℤ_or_<ℤ, ≤ℤ_antisym, ≤ℤ_of_<ℤ, add_one_≤ℤ, ≤ℤ_of_≡}
use Rattle.integers.proofs.Theorems.Linear.{le, lt, eq, ◌&◌, linear, lin≤, lin<, lin≡, lin⊥}
use Rattle.integers.specs.Magnitude.{abs, AbsView, nonnegative, nonpositive}
use Rattle.integers.proofs.Theorems.Magnitude.{abs-nonneg, abs_neg, abs-le, le-abs, neg-le-abs, abs_view}
use Rattle.integers.specs.Rounding.{round_half_away, IsNearestAway}
use Rattle.integers.specs.RoundHalfAway.{ErrorBounds}
use Rattle.integers.proofs.Theorems.RoundHalfAway.{error_neg, round_half_away-bounds, round_half_away_of_bounds}

-- ---- from the bounds: another number p is no nearer, and where it is as near, no farther from zero. First for p above q
module _ {n d p q : ℤ} (g : pos 0 <ℤ d) (e : ErrorBounds n d q) (k : q <ℤ p) where
  -- p lies at least d farther along than q
  far : (d -ℤ (n -ℤ d *ℤ q)) ≤ℤ abs (n -ℤ d *ℤ p)
  far =
      lin≤ (n ∷ d ∷ p ∷ q ∷ abs (n -ℤ d *ℤ p) ∷ []) (le (≤ℤ-mul (add_one_≤ℤ k) (≤ℤ_of_<ℤ g)) & le (neg-le-abs (n -ℤ d *ℤ p))) (search linear depth 40) tt

  nearer_above : abs (n -ℤ d *ℤ q) ≤ℤ abs (n -ℤ d *ℤ p)
  nearer_above =
      let A = abs (n -ℤ d *ℤ p) in
      abs-le (lin≤ (n ∷ d ∷ q ∷ A ∷ []) (le far & le e.under) (search linear depth 40) tt)
      (lin≤ (n ∷ d ∷ q ∷ A ∷ []) (le far & lt g) (search linear depth 40) tt)

  -- where p is as near, n / d is a half above q, so n is negative, and p is q + 1 and at most 0
  tie_above : abs (n -ℤ d *ℤ p) ≡ abs (n -ℤ d *ℤ q) → abs p ≤ℤ abs q
  tie_above t = half (abs_view (n -ℤ d *ℤ q))
    where
      A : ℤ
      A = abs (n -ℤ d *ℤ p)

      B : ℤ
      B = abs (n -ℤ d *ℤ q)

      half : AbsView (n -ℤ d *ℤ q) B → abs p ≤ℤ abs q
      half (nonpositive h b) = lin⊥ (n ∷ d ∷ q ∷ A ∷ B ∷ []) (le far & eq t & eq b & lt g) (search linear depth 40) tt
      half (nonnegative h b) = negative (≤ℤ_or_<ℤ (pos 0) n) (≤ℤ_or_<ℤ (pos 0) q) (≤ℤ_or_<ℤ p (q +ℤ pos 1))
        where
          negative : (pos 0 ≤ℤ n) ⊎ (n <ℤ pos 0) → (pos 0 ≤ℤ q) ⊎ (q <ℤ pos 0) → (p ≤ℤ (q +ℤ pos 1)) ⊎ ((q +ℤ pos 1) <ℤ p) → abs p ≤ℤ abs q
          negative (inl i) j l = lin⊥ (n ∷ d ∷ q ∷ A ∷ B ∷ []) (le far & eq t & eq b & lt (e.under_strict i)) (search linear depth 40) tt
          negative (inr i) (inl j) l = lin⊥ (n ∷ d ∷ q ∷ []) (lt i & le h & le (≤ℤ-mul-nonneg (≤ℤ_of_<ℤ g) j)) (search linear depth 40) tt
          negative (inr i) (inr j) (inl l) =
              abs-le (lin≤ (p ∷ q ∷ abs q ∷ []) (le l & lt j & le (abs-nonneg q)) (search linear depth 40) tt)
              (lin≤ (p ∷ q ∷ abs q ∷ []) (lt k & le (neg-le-abs q)) (search linear depth 40) tt)
          negative (inr i) (inr j) (inr l) =
              lin⊥ (n ∷ d ∷ p ∷ q ∷ A ∷ B ∷ [])
              (le (≤ℤ-mul (add_one_≤ℤ l) (≤ℤ_of_<ℤ g)) & le (neg-le-abs (n -ℤ d *ℤ p)) & eq t & eq b & le e.under & lt g) (search linear depth 40) tt

turned : (n d q : ℤ) → abs (neg_ℤ n -ℤ d *ℤ neg_ℤ q) ≡ abs (n -ℤ d *ℤ q)
turned n d q = ap abs {y = neg_ℤ (n -ℤ d *ℤ q)} (ring (n ∷ d ∷ q ∷ []) (search read depth 40) tt) ∙ abs_neg (n -ℤ d *ℤ q)

turned_lt : {p q : ℤ} → p <ℤ q → neg_ℤ q <ℤ neg_ℤ p
turned_lt {p} {q} k = lin< (p ∷ q ∷ []) (lt k) (search linear depth 40) tt

nearest_of_bounds : {n : ℤ} {d : ℕ} {q : ℤ} → 0 < d → ErrorBounds n (pos d) q → IsNearestAway n d q
nearest_of_bounds {n} {d} {q} h e = record {
  nearest = λ p. near p (≤ℤ_or_<ℤ p q) (≤ℤ_or_<ℤ q p);
  away = λ p t. tie p t (≤ℤ_or_<ℤ p q) (≤ℤ_or_<ℤ q p);
}
  where
    g : pos 0 <ℤ pos d
    g = positive h

    near : (p : ℤ) → (p ≤ℤ q) ⊎ (q <ℤ p) → (q ≤ℤ p) ⊎ (p <ℤ q) → abs (n -ℤ pos d *ℤ q) ≤ℤ abs (n -ℤ pos d *ℤ p)
    near p (inr k) l = nearer_above g e k
    near p (inl k) (inl l) = ≤ℤ_of_≡ (ap (λ x. abs (n -ℤ pos d *ℤ x)) (≤ℤ_antisym l k))
    near p (inl k) (inr l) = subst₂ ◌≤ℤ◌ (turned n (pos d) q) (turned n (pos d) p) (nearer_above g (error_neg e) (turned_lt l))

    tie : (p : ℤ) → abs (n -ℤ pos d *ℤ p) ≡ abs (n -ℤ pos d *ℤ q) → (p ≤ℤ q) ⊎ (q <ℤ p) → (q ≤ℤ p) ⊎ (p <ℤ q) → abs p ≤ℤ abs q
    tie p t (inr k) l = tie_above g e k t
    tie p t (inl k) (inl l) = ≤ℤ_of_≡ (ap abs (≤ℤ_antisym k l))
    tie p t (inl k) (inr l) =
        subst₂ ◌≤ℤ◌ (abs_neg p) (abs_neg q) (tie_above g (error_neg e) (turned_lt l) (turned n (pos d) p ∙ t ∙ sym (turned n (pos d) q)))

pub round_half_away_is_nearest : (n : ℤ) {d : ℕ} → 0 < d → IsNearestAway n d (round_half_away n d)
round_half_away_is_nearest n h = nearest_of_bounds h (round_half_away-bounds n h)

-- ---- and no other number is. What is known of q, by comparing it with q + 1; with q − 1 it is the same, turned about zero
nearest-neg : {n : ℤ} {d : ℕ} {q : ℤ} → IsNearestAway n d q → IsNearestAway (neg_ℤ n) d (neg_ℤ q)
nearest-neg {n} {d} {q} r = record {
  nearest = λ p. subst₂ ◌≤ℤ◌ (sym (turned n (pos d) q)) (other p) (r.nearest (neg_ℤ p));
  away = λ p t. subst₂ ◌≤ℤ◌ (abs_neg p) (sym (abs_neg q)) (r.away (neg_ℤ p) (other p ∙ t ∙ turned n (pos d) q));
}
  where
    other : (p : ℤ) → abs (n -ℤ pos d *ℤ neg_ℤ p) ≡ abs (neg_ℤ n -ℤ pos d *ℤ p)
    other p = sym (abs_neg (n -ℤ pos d *ℤ neg_ℤ p)) ∙ ap abs {y = neg_ℤ n -ℤ pos d *ℤ p} (ring (n ∷ pos d ∷ p ∷ []) (search read depth 40) tt)

module _ {n : ℤ} {d : ℕ} {q : ℤ} (h : 0 < d) (r : IsNearestAway n d q) where
  -- the distances from n / d to q and to q + 1
  X : ℤ
  X = n -ℤ pos d *ℤ q

  Y : ℤ
  Y = n -ℤ pos d *ℤ (q +ℤ pos 1)

  half_above : (pos 2 *ℤ X) ≤ℤ pos d
  unfolding X Y
  half_above = go (abs_view Y)
    where
      ρ : List ℤ
      ρ = n ∷ pos d ∷ q ∷ abs X ∷ abs Y ∷ []

      go : AbsView Y (abs Y) → (pos 2 *ℤ X) ≤ℤ pos d
      go (nonnegative i e) = lin⊥ ρ (le (r.nearest (q +ℤ pos 1)) & le (le-abs X) & eq e & le (pos-≤ℤ h)) (search linear depth 40) tt
      go (nonpositive i e) = lin≤ ρ (le (r.nearest (q +ℤ pos 1)) & le (le-abs X) & eq e) (search linear depth 40) tt

  -- were q a half too small, q + 1 would be as near; and where n is not negative, q + 1 is farther from zero
  not_half_above : pos 0 ≤ℤ n → (pos 2 *ℤ X) <ℤ pos d
  unfolding X Y
  not_half_above i = go (≤ℤ_or_<ℤ (pos d) (pos 2 *ℤ X))
    where
      go : (pos d ≤ℤ (pos 2 *ℤ X)) ⊎ ((pos 2 *ℤ X) <ℤ pos d) → (pos 2 *ℤ X) <ℤ pos d
      go (inr k) = k
      go (inl k) = sign (≤ℤ_or_<ℤ (pos 0) q) (abs_view q)
        where
          same : abs Y ≡ abs X
          same = ap abs {y = neg_ℤ X} (lin≡ (n ∷ pos d ∷ q ∷ []) (le k & le half_above) (search linear depth 40) (tt, tt)) ∙ abs_neg X

          sign : (pos 0 ≤ℤ q) ⊎ (q <ℤ pos 0) → AbsView q (abs q) → (pos 2 *ℤ X) <ℤ pos d
          sign (inr j) l =
              lin⊥ (n ∷ pos d ∷ q ∷ []) (le i & le (≤ℤ-mul (add_one_≤ℤ j) (nonneg d)) & le half_above & le (pos-≤ℤ h)) (search linear depth 40) tt
          sign (inl j) (nonnegative l e) =
              lin⊥ (q ∷ abs q ∷ abs (q +ℤ pos 1) ∷ []) (le (r.away (q +ℤ pos 1) same) & le (le-abs (q +ℤ pos 1)) & eq e) (search linear depth 40) tt
          sign (inl j) (nonpositive l e) =
              lin⊥ (q ∷ abs q ∷ abs (q +ℤ pos 1) ∷ []) (le (r.away (q +ℤ pos 1) same) & le (le-abs (q +ℤ pos 1)) & eq e & le j) (search linear depth 40) tt

bounds_of_nearest : {n : ℤ} {d : ℕ} {q : ℤ} → 0 < d → IsNearestAway n d q → ErrorBounds n (pos d) q
unfolding X
bounds_of_nearest {n} {d} {q} h r = record {
  over = lin≤ (n ∷ pos d ∷ q ∷ []) (le (half_above h (nearest-neg r))) (search linear depth 40) tt;
  under = half_above h r;
  under_strict = not_half_above h r;
  over_strict = λ i. lin< (n ∷ pos d ∷ q ∷ []) (lt (not_half_above h (nearest-neg r) (lin≤ (n ∷ []) (le i) (search linear depth 40) tt))) (search linear depth 40) tt;
}

pub round_half_away_unique : {n : ℤ} {d : ℕ} {q : ℤ} → 0 < d → IsNearestAway n d q → q ≡ round_half_away n d
round_half_away_unique h r = round_half_away_of_bounds h (bounds_of_nearest h r)
