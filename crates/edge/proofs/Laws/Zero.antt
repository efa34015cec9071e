-- The zero law: an edge with no part strictly inside a cell has no details there, and none in any cell inside that one.
-- (Its area there need not be 0: an edge to the right of the cell has the whole width on its left.) Widths are not negative.
--
-- Main results
--   inside_wider                               what lies strictly inside a cell lies strictly inside each cell that contains it
--   idle_past                                  a step on which y rests adds nothing to the area
--   idle_near-past, idle_near-near             nor does a step outside to h, v or d
--   NoStepInside, no_step-inside,
--   near-past-zero, past-near-zero,
--   near-near-zero                             the same of any walk
--   h_zero, v_zero, d_zero, details-zero       no part strictly inside: each is 0
--   outside_exact                              and so rounding keeps it
--   not-inside_within, h_zero_within,
--   v_zero_within, d_zero_within,
--   details-zero_within                        and in each cell inside this one
use Rattle.std.specs.Prelude.{◌≡◌, [], ◌∷◌, ◌⊎◌, ℕ, ◌+◌, ◌≤◌, ℤ, pos, negsuc, ◌+ℤ◌, ◌-ℤ◌, ◌*ℤ◌, ◌≤ℤ◌}
use Rattle.std.proofs.Common.{◌∙◌, ap₂, inl, inr, arith}
use Rattle.std.proofs.Math.Path.{ap}
use Rattle.std.proofs.Math.IntN.{neg_ℤ}
use Rattle.integers.proofs.Theorems.Ring.{read, ring, comb}
use Rattle.integers.proofs.Theorems.Order.{≤ℤ-mul, ≤ℤ-mul-nonneg, ≤_of_pos, nonneg}
use Rattle.integers.proofs.Theorems.Linear.{le, lt, ◌&◌, linear, lin<}
use Rattle.edge.specs.declared.Edge.{Edge}
use Rattle.edge.specs.declared.Cell.{Cell}
use Rattle.edge.specs.declared.Axis.{Axis}
use Rattle.edge.specs.Walk.{ax, ay, steps, x_axis, y_axis, past, near}
use Rattle.edge.specs.Integrals.{along, h_on, d_on, h_num, v_num, d_num}
use Rattle.edge.specs.Inside.{Between, SomeStepInside, Inside}
use Rattle.edge.specs.Rounded.{details, Exact}
use Rattle.edge.specs.Nested.{Contains}
use Rattle.edge.proofs.Lemmas.Records.{details-eq}
use Rattle.edge.proofs.Laws.StepCount.{rounded_whole, whole_kept}
use Rattle.edge.proofs.Lemmas.Ends.{Steady, steady_within, x_steady, y_steady}
use Rattle.edge.proofs.Lemmas.Steps.{exchanged, Outside, Rests, between_or_outside, outside_rests}
use Rattle.edge.proofs.Lemmas.Runs.{piece, idle_zero}

-- ---- a cell inside another
between_wider : {a : Axis} {side' w' t : ℤ} (side w : ℤ) → pos 0 ≤ℤ a.scale → side ≤ℤ side' → (side' +ℤ w') ≤ℤ (side +ℤ w)
    → Between a side' w' t → Between a side w t
between_wider {a} {side'} {w'} {t} side w g i j b = record {
  after = lin< (a.scale ∷ a.start ∷ a.sign ∷ side ∷ side' ∷ t ∷ []) (lt b.after & le (≤ℤ-mul g i)) (search linear depth 40) tt;
  before = lin< (a.scale ∷ a.start ∷ a.sign ∷ side ∷ side' ∷ w ∷ w' ∷ t ∷ []) (lt b.before & le (≤ℤ-mul g j)) (search linear depth 40) tt;
}

pub inside_wider : (e : Edge) {c b : Cell} → Contains c b → Inside e b → Inside e c
inside_wider e {c} {b} k i = record {
  step = i.step;
  on = i.on;
  x = between_wider c.left c.width (nonneg (ay e)) k.left k.right i.x;
  y = between_wider c.top c.width (nonneg (ax e)) k.top k.bottom i.y;
}

-- ---- steps outside
pub idle_past : (f : ℤ → ℤ) {b : Axis} {q w t : ℤ} → Rests b q w t → piece f (past b q w) t (t +ℤ pos 1) ≡ pos 0
idle_past f {b} {q} {w} {t} r =
    let g = past b q w in
    ap (λ x. (f t +ℤ f (t +ℤ pos 1)) *ℤ (x -ℤ g t)) r.past₁ ∙ ring (f t ∷ f (t +ℤ pos 1) ∷ g t ∷ []) (search read depth 40) tt

pub idle_near-past : {a b : Axis} {p q w t : ℤ} → Rests a p w t ⊎ Rests b q w t → piece (near a p w) (past b q w) t (t +ℤ pos 1) ≡ pos 0
idle_near-past {a} {b} {p} {q} {w} {t} (inl r) =
    let g = past b q w in
    ap₂ (λ x y. (x +ℤ y) *ℤ (g (t +ℤ pos 1) -ℤ g t)) r.near₀ r.near₁ ∙ ring (g (t +ℤ pos 1) ∷ g t ∷ []) (search read depth 40) tt
idle_near-past {a} {p = p} {w = w} (inr r) = idle_past (near a p w) r

pub idle_near-near : {a b : Axis} {p q w t : ℤ} → Rests a p w t ⊎ Rests b q w t → piece (near a p w) (near b q w) t (t +ℤ pos 1) ≡ pos 0
idle_near-near {a} {b} {p} {q} {w} {t} (inl r) =
    let g = near b q w in
    ap₂ (λ x y. (x +ℤ y) *ℤ (g (t +ℤ pos 1) -ℤ g t)) r.near₀ r.near₁ ∙ ring (g (t +ℤ pos 1) ∷ g t ∷ []) (search read depth 40) tt
idle_near-near {a} {b} {p} {q} {w} {t} (inr r) =
    let f = near a p w in
    ap₂ (λ x y. (f t +ℤ f (t +ℤ pos 1)) *ℤ (x -ℤ y)) r.near₁ r.near₀ ∙ ring (f t ∷ f (t +ℤ pos 1) ∷ []) (search read depth 40) tt

-- ---- no step inside
-- no step of the walk lies strictly inside the cell
pub record NoStepInside (a b : Axis) (c : Cell) (n : ℕ) : Type 0 where
  pub outside : (t : ℤ) → pos 0 ≤ℤ t → (t +ℤ pos 1) ≤ℤ pos n → Outside a c.left c.width t ⊎ Outside b c.top c.width t

pub no_step-inside : {a b : Axis} {c : Cell} {n : ℕ} → Steady a → Steady b → (SomeStepInside a b c n → ⊥) → NoStepInside a b c n
no_step-inside {a} {b} {c} {n} sa sb none = record { outside = out }
  where
    out : (t : ℤ) → pos 0 ≤ℤ t → (t +ℤ pos 1) ≤ℤ pos n → Outside a c.left c.width t ⊎ Outside b c.top c.width t
    out (negsuc t) h k = absurd h.le
    out (pos t) h k = go (between_or_outside a c.left c.width (pos t) (steady_within sa)) (between_or_outside b c.top c.width (pos t) (steady_within sb))
      where
        go : Between a c.left c.width (pos t) ⊎ Outside a c.left c.width (pos t) → Between b c.top c.width (pos t) ⊎ Outside b c.top c.width (pos t)
            → Outside a c.left c.width (pos t) ⊎ Outside b c.top c.width (pos t)
        go (inr x) y = inl x
        go (inl x) (inr y) = inr y
        go (inl x) (inl y) =
            let l : t + 1 ≤ n = ≤_of_pos k in
            absurd (none (record { step = t; on = omega arith; x = x; y = y }))

-- over a walk with a and b for its directions; exchanged, they serve v
module _ {a b : Axis} {c : Cell} {n : ℕ} (sa : Steady a) (sb : Steady b) (hw : pos 0 ≤ℤ c.width) (none : NoStepInside a b c n) where
  rests : (t : ℤ) → pos 0 ≤ℤ t → (t +ℤ pos 1) ≤ℤ pos n → Rests a c.left c.width t ⊎ Rests b c.top c.width t
  rests t h k = go (none.outside t h k)
    where
      go : Outside a c.left c.width t ⊎ Outside b c.top c.width t → Rests a c.left c.width t ⊎ Rests b c.top c.width t
      go (inl o) = inl (outside_rests a c.left c.width t (≤ℤ-mul-nonneg sa.scaled hw) o)
      go (inr o) = inr (outside_rests b c.top c.width t (≤ℤ-mul-nonneg sb.scaled hw) o)

  pub near-past-zero : h_on a b c n ≡ pos 0
  near-past-zero = idle_zero (near a c.left c.width) (past b c.top c.width) n (record { none = λ t h k. idle_near-past (rests t h k) })

  pub past-near-zero : along (near b c.top c.width) (past a c.left c.width) n ≡ pos 0
  past-near-zero = idle_zero (near b c.top c.width) (past a c.left c.width) n (record { none = λ t h k. idle_near-past (exchanged (rests t h k)) })

  pub near-near-zero : d_on a b c n ≡ pos 0
  near-near-zero = idle_zero (near a c.left c.width) (near b c.top c.width) n (record { none = λ t h k. idle_near-near (rests t h k) })

-- ---- of an edge
module _ (e : Edge) (c : Cell) (hw : pos 0 ≤ℤ c.width) (none : Inside e c → ⊥) where
  none_inside : NoStepInside (x_axis e) (y_axis e) c (steps e)
  none_inside = no_step-inside (x_steady e) (y_steady e) none

  pub h_zero : h_num e c ≡ pos 0
  unfolding h_num
  h_zero = near-past-zero (x_steady e) (y_steady e) hw none_inside

  pub v_zero : v_num e c ≡ pos 0
  unfolding v_num
  v_zero = ap neg_ℤ (past-near-zero (x_steady e) (y_steady e) hw none_inside)

  pub d_zero : d_num e c ≡ pos 0
  unfolding d_num
  d_zero = near-near-zero (x_steady e) (y_steady e) hw none_inside

  zero_times : {z : ℤ} → z ≡ pos 0 → z ≡ pos 0 *ℤ pos (steps e)
  zero_times {z} k = comb (z ∷ pos (steps e) ∷ []) k (search read depth 40) tt

  pub details-zero : details e c ≡ record { h = pos 0; v = pos 0; d = pos 0 }
  unfolding details
  details-zero =
      details-eq (rounded_whole e (pos 0) (zero_times h_zero)) (rounded_whole e (pos 0) (zero_times v_zero)) (rounded_whole e (pos 0) (zero_times d_zero))

  pub outside_exact : Exact e c
  outside_exact = record {
    h = whole_kept e (pos 0) (zero_times h_zero);
    v = whole_kept e (pos 0) (zero_times v_zero);
    d = whole_kept e (pos 0) (zero_times d_zero);
  }

-- ---- in each cell inside the one that the edge does not come into
module _ (e : Edge) {c b : Cell} (k : Contains c b) (hw : pos 0 ≤ℤ b.width) (none : Inside e c → ⊥) where
  pub not-inside_within : Inside e b → ⊥
  not-inside_within i = none (inside_wider e k i)

  pub h_zero_within : h_num e b ≡ pos 0
  h_zero_within = h_zero e b hw not-inside_within

  pub v_zero_within : v_num e b ≡ pos 0
  v_zero_within = v_zero e b hw not-inside_within

  pub d_zero_within : d_num e b ≡ pos 0
  d_zero_within = d_zero e b hw not-inside_within

  pub details-zero_within : details e b ≡ record { h = pos 0; v = pos 0; d = pos 0 }
  details-zero_within = details-zero e b hw not-inside_within
