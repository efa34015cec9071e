-- An edge walked the other way has the opposite integrals, the opposite rounded details, the opposite rounded area and the opposite root term.
--
-- Main results
--   reverse, opposite                                         the edge with its end points exchanged; details of the opposite sign
--   steps-reverse                                             the walk back is as long
--   area_reverse, h_reverse, v_reverse, d_reverse             each numerator is opposite
--   details-reverse, rounded_area-reverse, root-reverse       and so are the rounded details, the rounded area, and the root term
use Rattle.std.specs.Prelude.{◌≡◌, [], ◌∷◌, ℕ, zero, suc, ◌+◌, ◌*◌, ℤ, pos, negsuc, ◌+ℤ◌, ◌-ℤ◌, ◌*ℤ◌}
use Rattle.std.proofs.Common.{◌∙◌, ap₂, add-zero, arith}
use Rattle.std.proofs.Math.Path.{ap}
use Rattle.std.proofs.Math.IntN.{neg_ℤ}
use Rattle.integers.proofs.Theorems.Ring.{read, ring, comb, ◌⊕◌, ◌⊗◌}
use Rattle.integers.specs.Clamp.{clamp}
use Rattle.integers.specs.Tent.{tent}
use Rattle.integers.specs.Trapezoid.{S}
use Rattle.integers.proofs.Theorems.Trapezoid.{S-zero, S-suc}
use Rattle.integers.specs.Rounding.{round_half_away}
use Rattle.integers.proofs.Theorems.RoundHalfAway.{round_half_away-neg}
use Rattle.edge.specs.declared.Edge.{Edge}
use Rattle.edge.specs.declared.Cell.{Cell}
use Rattle.edge.specs.declared.Details.{Details}
use Rattle.edge.specs.declared.Axis.{Axis}
use Rattle.edge.specs.Walk.{extent, sign, steps, x_axis, y_axis, beyond, past, near}
use Rattle.edge.proofs.Lemmas.Records.{details-eq}
use Rattle.edge.proofs.Laws.StepCount.{steps_pos}
use Rattle.edge.proofs.Lemmas.Ends.{extent-neg, sign-neg, x_end, y_end}
use Rattle.edge.specs.Integrals.{along, area_num, h_num, v_num, d_num}
use Rattle.edge.specs.Rounded.{details, root_term, rounded_area}

abbrev pub reverse : Edge → Edge
reverse e = record { x0 = e.x1; y0 = e.y1; x1 = e.x0; y1 = e.y0 }

abbrev pub opposite : Details → Details
opposite d = record { h = neg_ℤ d.h; v = neg_ℤ d.v; d = neg_ℤ d.d }

-- ---- a sum backwards: F(i) = f(j) and G(i) = g(j) where i + j = n
abbrev Mirrors : (ℕ → ℤ) → (ℕ → ℤ) → ℕ → Type 0
Mirrors f F n = (i j : ℕ) → i + j ≡ n → F i ≡ f j

-- the first i steps back are the last i steps
S-back : (f g F G : ℕ → ℤ) (n : ℕ) → Mirrors f F n → Mirrors g G n → (i j : ℕ) → i + j ≡ n → S F G i ≡ S f g j -ℤ S f g n
S-back f g F G n p q zero j e =
    let all : j ≡ n = omega arith in
    comb (S F G 0 ∷ S f g j ∷ S f g n ∷ []) (S-zero F G ⊕ negsuc 0 ⊗ ap (S f g) all) (search read depth 40) tt
S-back f g F G n p q (suc i) j e =
    S-suc F G i
    ∙ ap₂ ◌+ℤ◌ (S-back f g F G n p q i (suc j) k) (ap₂ ◌*ℤ◌ (ap₂ ◌+ℤ◌ (p i (suc j) k) (p (suc i) j e)) (ap₂ ◌-ℤ◌ (q (suc i) j e) (q i (suc j) k)))
    ∙ comb (S f g j ∷ S f g (suc j) ∷ S f g n ∷ f j ∷ f (suc j) ∷ g j ∷ g (suc j) ∷ []) (S-suc f g j) (search read depth 40) tt
  where
    k : i + suc j ≡ n
    k = omega arith

S-reverse : (f g F G : ℕ → ℤ) (n : ℕ) → Mirrors f F n → Mirrors g G n → S F G n ≡ neg_ℤ (S f g n)
S-reverse f g F G n p q = S-back f g F G n p q n 0 (add-zero n) ∙ comb (S f g 0 ∷ S f g n ∷ []) (S-zero f g) (search read depth 40) tt

-- ---- one direction
-- b is the way back along a, in n steps
record WayBack (a b : Axis) (n : ℕ) : Type 0 where
  scale : b.scale ≡ a.scale
  sign : b.sign ≡ neg_ℤ a.sign
  start : (line : ℤ) → beyond a line (pos n) ≡ a.scale *ℤ (b.start -ℤ line)

module _ {a b : Axis} {n : ℕ} (r : WayBack a b n) (side w : ℤ) where
  beyond-back : Mirrors (λ t. beyond a side (pos t)) (λ t. beyond b side (pos t)) n
  beyond-back i j e =
      comb (a.scale ∷ b.scale ∷ a.start ∷ b.start ∷ a.sign ∷ b.sign ∷ side ∷ pos i ∷ pos j ∷ pos n ∷ [])
      ((b.start -ℤ side) ⊗ r.scale ⊕ pos i ⊗ r.sign ⊕ negsuc 0 ⊗ r.start side ⊕ (negsuc 0 *ℤ a.sign) ⊗ ap pos e) (search read depth 40) tt

  past_back : Mirrors (λ t. past a side w (pos t)) (λ t. past b side w (pos t)) n
  past_back i j e = ap₂ (λ v m. clamp v (pos 0) m) (beyond-back i j e) (ap (λ k. k *ℤ w) r.scale)

  near-back : Mirrors (λ t. near a side w (pos t)) (λ t. near b side w (pos t)) n
  near-back i j e = ap₂ tent (ap (λ k. k *ℤ w) r.scale) (beyond-back i j e)

-- ---- an edge
extent-back : (p q : ℤ) → extent (p -ℤ q) ≡ extent (q -ℤ p)
extent-back p q = ap extent {y = neg_ℤ (q -ℤ p)} (ring (p ∷ q ∷ []) (search read depth 40) tt) ∙ extent-neg (q -ℤ p)

sign-back : (p q : ℤ) → sign (p -ℤ q) ≡ neg_ℤ (sign (q -ℤ p))
sign-back p q = ap sign {y = neg_ℤ (q -ℤ p)} (ring (p ∷ q ∷ []) (search read depth 40) tt) ∙ sign-neg (q -ℤ p)

pub steps-reverse : (e : Edge) → steps (reverse e) ≡ steps e
steps-reverse e = ap₂ ◌*◌ (extent-back e.x0 e.x1) (extent-back e.y0 e.y1)

x_back : (e : Edge) → WayBack (x_axis e) (x_axis (reverse e)) (steps e)
x_back e = record { scale = ap pos (extent-back e.y0 e.y1); sign = sign-back e.x0 e.x1; start = x_end e }

y_back : (e : Edge) → WayBack (y_axis e) (y_axis (reverse e)) (steps e)
y_back e = record { scale = ap pos (extent-back e.x0 e.x1); sign = sign-back e.y0 e.y1; start = y_end e }

module _ (e : Edge) (c : Cell) where
  abbrev past_x : Edge → ℤ → ℤ
  past_x d t = past (x_axis d) c.left c.width t

  abbrev past_y : Edge → ℤ → ℤ
  past_y d t = past (y_axis d) c.top c.width t

  abbrev near_x : Edge → ℤ → ℤ
  near_x d t = near (x_axis d) c.left c.width t

  abbrev near_y : Edge → ℤ → ℤ
  near_y d t = near (y_axis d) c.top c.width t

  -- walked back, f takes its values in the other order
  abbrev TurnsBack : (Edge → ℤ → ℤ) → Type 0
  TurnsBack f = Mirrors (λ t. f e (pos t)) (λ t. f (reverse e) (pos t)) (steps e)

  along-back : (f g : Edge → ℤ → ℤ) → TurnsBack f → TurnsBack g → along (f (reverse e)) (g (reverse e)) (steps (reverse e)) ≡ neg_ℤ (along (f e) (g e) (steps e))
  along-back f g p q =
      ap (along (f (reverse e)) (g (reverse e))) (steps-reverse e)
      ∙ S-reverse (λ t. f e (pos t)) (λ t. g e (pos t)) (λ t. f (reverse e) (pos t)) (λ t. g (reverse e) (pos t)) (steps e) p q

  past_x_back : TurnsBack past_x
  past_x_back = past_back (x_back e) c.left c.width

  past_y_back : TurnsBack past_y
  past_y_back = past_back (y_back e) c.top c.width

  near_x_back : TurnsBack near_x
  near_x_back = near-back (x_back e) c.left c.width

  near_y_back : TurnsBack near_y
  near_y_back = near-back (y_back e) c.top c.width

  pub area_reverse : area_num (reverse e) c ≡ neg_ℤ (area_num e c)
  unfolding area_num
  area_reverse = along-back past_x past_y past_x_back past_y_back

  pub h_reverse : h_num (reverse e) c ≡ neg_ℤ (h_num e c)
  unfolding h_num
  h_reverse = along-back near_x past_y near_x_back past_y_back

  pub v_reverse : v_num (reverse e) c ≡ neg_ℤ (v_num e c)
  unfolding v_num
  v_reverse = ap neg_ℤ (along-back near_y past_x near_y_back past_x_back)

  pub d_reverse : d_num (reverse e) c ≡ neg_ℤ (d_num e c)
  unfolding d_num
  d_reverse = along-back near_x near_y near_x_back near_y_back

  -- ---- rounded
  round-back : (num : Edge → Cell → ℤ) → num (reverse e) c ≡ neg_ℤ (num e c)
      → round_half_away (num (reverse e) c) (steps (reverse e)) ≡ neg_ℤ (round_half_away (num e c) (steps e))
  round-back num p = ap₂ round_half_away p (steps-reverse e) ∙ round_half_away-neg (num e c) (steps_pos e)

  pub details-reverse : details (reverse e) c ≡ opposite (details e c)
  unfolding details
  details-reverse = details-eq (round-back h_num h_reverse) (round-back v_num v_reverse) (round-back d_num d_reverse)

  pub rounded_area-reverse : rounded_area (reverse e) c ≡ neg_ℤ (rounded_area e c)
  unfolding rounded_area
  rounded_area-reverse = round-back area_num area_reverse

pub root-reverse : (e : Edge) → root_term (reverse e) ≡ neg_ℤ (root_term e)
unfolding root_term
root-reverse e = ring (e.x0 ∷ e.y0 ∷ e.x1 ∷ e.y1 ∷ []) (search read depth 40) tt
