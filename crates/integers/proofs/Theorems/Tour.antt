-- Each tactic at work on a goal of this project. Copy from here.
--
-- Main results: none; the goals are
--   shoelace, next_term              `ring`
--   green                            `comb`
--   past_the_middle, lighter         `lin≤`, with facts, with weights
--   before_the_far_side, one_more    `lin<`, with facts, with none
--   right_half                       `lin≡`
--   one_rounding                     `lin⊥`, with a product as a fact
--   square_of_difference             a square as a fact
--   product-fits, shoelace-fits      `linfits`
use Rattle.std.specs.Prelude.{◌≡◌, [], ◌∷◌, ℕ, suc, ℤ, pos, neg_ℤ, ◌+ℤ◌, ◌-ℤ◌, ◌*ℤ◌, ◌≤ℤ◌, ◌<ℤ◌}
use Rattle.std.specs.Int.{w64}
use Rattle.std.proofs.Common.{SFits, to_z, of_z}
use Rattle.integers.specs.Units.{units_per_pixel, greatest_coordinate}
use Rattle.integers.proofs.Theorems.Ring.{read, ring, comb, ◌⊕◌, ◌⊗◌}
use Rattle.integers.proofs.Theorems.Order.{≤ℤ-mul, ≤ℤ-square}
use Rattle.integers.proofs.Theorems.Linear.{le, lt, eq, ◌&◌, none!, ◌⊹◌, ◌·◌, linear, lin≤, lin<, lin≡, lin⊥}
use Rattle.integers.proofs.Theorems.Machine.{machine, linfits, box}

-- ring: the shoelace term of an edge is twice the trapezoid between it and the y axis, less the change of x y along it
shoelace : (x0 y0 x1 y1 : ℤ) → x0 *ℤ y1 -ℤ x1 *ℤ y0 ≡ (x0 +ℤ x1) *ℤ (y1 -ℤ y0) -ℤ (x1 *ℤ y1 -ℤ x0 *ℤ y0)
shoelace x0 y0 x1 y1 = ring (x0 ∷ y0 ∷ x1 ∷ y1 ∷ []) (search read depth 40) tt

-- ring, where an atom is no variable, and a natural number stands under `pos`: a sum's next term
next_term : (f : ℕ → ℤ) (a : ℤ) (n : ℕ) → f n +ℤ pos (suc n) *ℤ a -ℤ pos n *ℤ a ≡ f n +ℤ a
next_term f a n = ring (f n ∷ a ∷ pos n ∷ []) (search read depth 40) tt

-- comb: around a closed curve the integrals of f dg and of g df are opposite. The goal's sides differ as those of the equation that is put together do
green : (A B end start : ℤ) → A +ℤ B ≡ pos 2 *ℤ (end -ℤ start) → end ≡ start → A ≡ neg_ℤ B
green A B end start e f = comb (A ∷ B ∷ end ∷ start ∷ []) (e ⊕ pos 2 ⊗ f) (search read depth 40) tt

-- lin≤: of whole numbers, 2 h ≤ 2 v + 1 gives h ≤ v
past_the_middle : (v h : ℤ) → (pos 2 *ℤ h) ≤ℤ (pos 2 *ℤ v +ℤ pos 1) → h ≤ℤ v
past_the_middle v h k = lin≤ (v ∷ h ∷ []) (le k) (search linear depth 40) tt

-- lin≤, with a sum of facts weighted by hand: a quarter's figure is bounded by its parent's and by the three details of level 1
lighter : (f F h v d E : ℤ) → f ≤ℤ F → h ≤ℤ E → v ≤ℤ E → d ≤ℤ E → (f +ℤ pos 4 *ℤ (h +ℤ v +ℤ d)) ≤ℤ (F +ℤ pos 12 *ℤ E)
lighter f F h v d E k a b c = lin≤ (f ∷ F ∷ h ∷ v ∷ d ∷ E ∷ []) (le (k ⊹ 4 · (a ⊹ b ⊹ c))) (search linear depth 40) tt

-- lin<: what is not past the middle of a cell is before its far side
before_the_far_side : (p h w : ℤ) → pos 0 <ℤ h → w ≡ h +ℤ h → p ≤ℤ h → p <ℤ w
before_the_far_side p h w g e k = lin< (p ∷ h ∷ w ∷ []) (lt g & eq e & le k) (search linear depth 40) tt

-- lin<, from no facts
one_more : (f : ℤ) → f <ℤ (f +ℤ pos units_per_pixel)
one_more f = lin< (f ∷ []) none! (search linear depth 40) tt

-- lin≡: past the middle, the distance to the right side is the left half less the right half. The two `tt` are for ≤ and ≥
right_half : (m h whole left right : ℤ) → m ≡ h +ℤ h → whole ≡ left +ℤ right → left ≡ h → m -ℤ whole ≡ left -ℤ right
right_half m h whole left right w e f = lin≡ (m ∷ h ∷ whole ∷ left ∷ right ∷ []) (eq w & eq e & eq f) (search linear depth 40) (tt, tt)

-- lin⊥, with a product as a fact: n / d has no two roundings, p above q, since p − q is at least 1 and d (p − q − 1) is not negative
one_rounding : (n d p q : ℤ) → pos 0 ≤ℤ d → (q +ℤ pos 1) ≤ℤ p → (pos 2 *ℤ (d *ℤ p -ℤ n)) ≤ℤ d → (pos 2 *ℤ (n -ℤ d *ℤ q)) <ℤ d → pos 1 ≡ pos 2
one_rounding n d p q g h i j = lin⊥ (n ∷ d ∷ p ∷ q ∷ []) (le (≤ℤ-mul h g) & le i & lt j) (search linear depth 40) tt

-- a square as a fact: twice the product of an edge's extents is at most its length, squared
square_of_difference : (dx dy : ℤ) → (pos 2 *ℤ (dx *ℤ dy)) ≤ℤ (dx *ℤ dx +ℤ dy *ℤ dy)
square_of_difference dx dy = lin≤ (dx ∷ dy ∷ []) (le (≤ℤ-square (dx -ℤ dy))) (search linear depth 40) tt

-- linfits: the shoelace term of an edge on a tile fits 64 bits, with its products as the machine has them, read back from their bits
record OnTile (x : ℤ) : Type 0 where
  low : pos 0 ≤ℤ x
  high : x ≤ℤ pos greatest_coordinate

product-fits : {x y : ℤ} → OnTile x → OnTile y → SFits w64 (x *ℤ y)
product-fits {x} {y} p q = linfits (x ∷ y ∷ []) (box p.low p.high q.low q.high) (search machine depth 40) (tt, tt)

shoelace-fits : {x0 y0 x1 y1 : ℤ} → OnTile x0 → OnTile y0 → OnTile x1 → OnTile y1 → SFits w64 (to_z w64 (of_z w64 (x0 *ℤ y1)) -ℤ to_z w64 (of_z w64 (x1 *ℤ y0)))
shoelace-fits {x0} {y0} {x1} {y1} a b c d =
    let f = product-fits a d in
    let g = product-fits c b in
    linfits (x0 ∷ y0 ∷ x1 ∷ y1 ∷ [])
    (box a.low a.high d.low d.high & box c.low c.high b.low b.high) (search machine depth 40) (tt, tt)
