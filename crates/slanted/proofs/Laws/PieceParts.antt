-- A slanted walk in a quarter of a cell, from its six numbers in the cell: the middle of a half is crossed q steps before that of the whole, or after it,
-- and the steps inside are those of the cell, cut at the crossings of its middles.
--
-- Main results
--   strip-moving              the steps of a direction between its sides, by its middle
--   half_on_below,
--   half_on_twice             which half of the cell, and back
--   middle_part               where the middle of a half is crossed
--   HalfStrip, half_strip     the steps of a half are those of the whole up to the crossing, or from it on
--   CutAt, cut_x, cut_y       so in both directions at once: one more comparison
--   piece_eq                  the six numbers equal
--   piece_part                all six numbers
use Rattle.std.specs.Prelude.{◌≡◌, refl, [], ◌∷◌, ℕ, zero, suc, ◌/◌, ◌%◌, ◌<◌, ℤ, pos, negsuc, neg_ℤ, ◌+ℤ◌, ◌-ℤ◌, ◌*ℤ◌, ◌≤ℤ◌}
use Rattle.std.proofs.Common.{sym, ◌∙◌, ap, ap₂, subst₂, arith}
use Rattle.integers.proofs.Theorems.Ring.{read, ring, comb, ◌⊕◌, ◌⊗◌}
use Rattle.integers.proofs.Theorems.Order.{≤ℤ_trans, ≤ℤ_antisym, ≤ℤ-mul-nonneg}
use Rattle.integers.proofs.Theorems.Linear.{le, eq, ◌&◌, linear, lin≤, lin≡}
use Rattle.integers.specs.MinMax.{min, max}
use Rattle.integers.proofs.Theorems.MinMax.{min-≤ˡ, min-≤ʳ, min-greatest, max-≥ˡ, max-≥ʳ, max_least}
use Rattle.edge.specs.declared.Axis.{Axis}
use Rattle.edge.specs.declared.Cell.{Cell}
use Rattle.edge.specs.declared.Span.{Span}
use Rattle.edge.specs.Cuts.{to_side, strip, strip_of, meet, to_middle}
use Rattle.edge.specs.Nested.{quarter}
use Rattle.edge.specs.WalkOf.{Course, IsWalk}
use Rattle.edge.proofs.Lemmas.Records.{span-eq}
use Rattle.slanted.specs.declared.Piece.{Piece}
use Rattle.slanted.specs.Pieces.{Moving, onward, back, piece_of}
use Rattle.slanted.specs.Parts.{half_on, since, until, shifted, IsPart}
use Rattle.slanted.proofs.Laws.Walks.{walk_steady}

-- ---- one direction
pub strip-moving : {a : Axis} → Moving a → (side half : ℤ) {w : ℤ} → w ≡ half +ℤ half → (n : ℤ)
    → strip_of a side w n ≡ record { first = to_middle a side half -ℤ a.scale *ℤ half; last = to_middle a side half +ℤ a.scale *ℤ half }
unfolding strip
strip-moving {a} (onward e) side half {w} even n =
    ap (λ s. strip s (to_side a side) (to_side a side +ℤ a.scale *ℤ w) n) e
    ∙ span-eq (comb (a.scale ∷ a.start ∷ a.sign ∷ side ∷ half ∷ []) (neg_ℤ (to_side a side +ℤ a.scale *ℤ half) ⊗ e) (search read depth 40) tt)
    (comb (a.scale ∷ a.start ∷ a.sign ∷ side ∷ half ∷ w ∷ []) (neg_ℤ (to_side a side +ℤ a.scale *ℤ half) ⊗ e ⊕ a.scale ⊗ even) (search read depth 40) tt)
strip-moving {a} (back e) side half {w} even n =
    ap (λ s. strip s (to_side a side) (to_side a side +ℤ a.scale *ℤ w) n) e
    ∙ span-eq (comb (a.scale ∷ a.start ∷ a.sign ∷ side ∷ half ∷ w ∷ []) (neg_ℤ (to_side a side +ℤ a.scale *ℤ half) ⊗ e ⊕ neg_ℤ a.scale ⊗ even) (search read depth 40) tt)
    (comb (a.scale ∷ a.start ∷ a.sign ∷ side ∷ half ∷ []) (neg_ℤ (to_side a side +ℤ a.scale *ℤ half) ⊗ e) (search read depth 40) tt)

-- a half of it, in the order in which they are walked
data Half : ℕ → Type 0 where
  before : Half 0
  after : Half 1

half_of : (k : ℕ) → k < 2 → Half k
half_of zero h = before
half_of (suc zero) h = after
half_of (suc (suc k)) h = absurd (omega arith)

-- ---- a half in the cell and a half on the way: of 0 and 1 one is the other's, either way round
pub half_on_below : (s : ℤ) {k : ℕ} → k < 2 → half_on s k < 2
unfolding half_on
half_on_below (pos s) h = h
half_on_below (negsuc s) h = omega arith

pub half_on_twice : (s : ℤ) {k : ℕ} → k < 2 → half_on s (half_on s k) ≡ k
unfolding half_on
half_on_twice (pos s) h = refl
half_on_twice (negsuc s) h = omega arith

pub middle_part : {a : Axis} → Moving a → (side half q : ℤ) → half ≡ q +ℤ q → (k : ℕ) → k < 2
    → to_middle a (side +ℤ pos (half_on a.sign k) *ℤ half) q ≡ shifted k (to_middle a side half) (a.scale *ℤ q)
unfolding half_on shifted
middle_part {a} mv side half q h k l = go mv (half_of k l)
  where
    go : Moving a → {k : ℕ} → Half k → to_middle a (side +ℤ pos (half_on a.sign k) *ℤ half) q ≡ shifted k (to_middle a side half) (a.scale *ℤ q)
    go (onward e) before =
        ap (λ s. to_middle a (side +ℤ pos (half_on s 0) *ℤ half) q) e
        ∙ comb (a.scale ∷ a.start ∷ a.sign ∷ side ∷ half ∷ q ∷ []) ((neg_ℤ a.sign *ℤ a.scale) ⊗ h ⊕ neg_ℤ (a.scale *ℤ q) ⊗ e) (search read depth 40) tt
    go (onward e) after =
        ap (λ s. to_middle a (side +ℤ pos (half_on s 1) *ℤ half) q) e
        ∙ comb (a.scale ∷ a.start ∷ a.sign ∷ side ∷ half ∷ q ∷ []) ((a.scale *ℤ q) ⊗ e) (search read depth 40) tt
    go (back e) before =
        ap (λ s. to_middle a (side +ℤ pos (half_on s 0) *ℤ half) q) e
        ∙ comb (a.scale ∷ a.start ∷ a.sign ∷ side ∷ half ∷ q ∷ []) ((a.scale *ℤ q) ⊗ e) (search read depth 40) tt
    go (back e) after =
        ap (λ s. to_middle a (side +ℤ pos (half_on s 1) *ℤ half) q) e
        ∙ comb (a.scale ∷ a.start ∷ a.sign ∷ side ∷ half ∷ q ∷ []) ((neg_ℤ a.sign *ℤ a.scale) ⊗ h ⊕ neg_ℤ (a.scale *ℤ q) ⊗ e) (search read depth 40) tt

-- its steps are those of the whole up to the crossing at m, or from it on
data Ends (m : ℤ) (whole part : Span) : ℕ → Type 0 where
  earlier : part.first ≡ whole.first → part.last ≡ m → Ends m whole part 0
  later : part.first ≡ m → part.last ≡ whole.last → Ends m whole part 1

pub record HalfStrip (m : ℤ) (k : ℕ) (whole part : Span) : Type 0 where
  low : whole.first ≤ℤ m
  high : m ≤ℤ whole.last
  ends : Ends m whole part k

-- by the middles m and m', and half of the widths, p and p'
ends_of : {k : ℕ} → Half k → (m p m' p' : ℤ) → p ≡ p' +ℤ p' → m' ≡ shifted k m p' → {whole part : Span}
    → whole ≡ record { first = m -ℤ p; last = m +ℤ p } → part ≡ record { first = m' -ℤ p'; last = m' +ℤ p' } → Ends m whole part k
unfolding shifted
ends_of before m p m' p' h e i j = earlier
    (ap (λ (s : Span). s.first) j ∙ comb (m ∷ p ∷ m' ∷ p' ∷ []) (e ⊕ h) (search read depth 40) tt ∙ sym (ap (λ (s : Span). s.first) i))
    (ap (λ (s : Span). s.last) j ∙ comb (m ∷ p ∷ m' ∷ p' ∷ []) e (search read depth 40) tt)
ends_of after m p m' p' h e i j = later
    (ap (λ (s : Span). s.first) j ∙ comb (m ∷ p ∷ m' ∷ p' ∷ []) e (search read depth 40) tt)
    (ap (λ (s : Span). s.last) j ∙ comb (m ∷ p ∷ m' ∷ p' ∷ []) (e ⊕ negsuc 0 ⊗ h) (search read depth 40) tt ∙ sym (ap (λ (s : Span). s.last) i))

pub half_strip : {a : Axis} → Moving a → pos 0 ≤ℤ a.scale → (side half q : ℤ) {w : ℤ} → w ≡ half +ℤ half → half ≡ q +ℤ q → pos 0 ≤ℤ q → (n : ℤ) (k : ℕ) → k < 2
    → HalfStrip (to_middle a side half) k (strip_of a side w n) (strip_of a (side +ℤ pos (half_on a.sign k) *ℤ half) half n)
half_strip {a} mv scaled side half q {w} even h q≥0 n k l = record {
  low = below (to_middle a side half) (a.scale *ℤ half) (ap (λ (s : Span). s.first) whole) peak;
  high = above (to_middle a side half) (a.scale *ℤ half) (ap (λ (s : Span). s.last) whole) peak;
  ends = ends_of (half_of k l) (to_middle a side half) (a.scale *ℤ half) (to_middle a (side +ℤ pos (half_on a.sign k) *ℤ half) q) (a.scale *ℤ q)
      (ap (λ z. a.scale *ℤ z) h ∙ ring (a.scale ∷ q ∷ []) (search read depth 40) tt) (middle_part mv side half q h k l) whole
      (strip-moving mv (side +ℤ pos (half_on a.sign k) *ℤ half) q h n);
}
  where
    whole : strip_of a side w n ≡ record { first = to_middle a side half -ℤ a.scale *ℤ half; last = to_middle a side half +ℤ a.scale *ℤ half }
    whole = strip-moving mv side half even n

    peak : pos 0 ≤ℤ (a.scale *ℤ half)
    peak = ≤ℤ-mul-nonneg scaled (lin≤ (half ∷ q ∷ []) (eq h & le q≥0) (search linear depth 40) tt)

    below : (m p : ℤ) {f : ℤ} → f ≡ m -ℤ p → pos 0 ≤ℤ p → f ≤ℤ m
    below m p {f} e k = lin≤ (m ∷ p ∷ f ∷ []) (eq e & le k) (search linear depth 40) tt

    above : (m p : ℤ) {f : ℤ} → f ≡ m +ℤ p → pos 0 ≤ℤ p → m ≤ℤ f
    above m p {f} e k = lin≤ (m ∷ p ∷ f ∷ []) (eq e & le k) (search linear depth 40) tt

-- ---- both directions at once: in one half of one of them, one more comparison
max_insert : (z y : ℤ) {x m : ℤ} → x ≤ℤ m → max z (max m y) ≡ max (max z (max x y)) m
max_insert z y {x} {m} h = ≤ℤ_antisym
    (max_least (≤ℤ_trans (max-≥ˡ z (max x y)) left) (max_least (max-≥ʳ (max z (max x y)) m) (≤ℤ_trans (max-≥ʳ x y) (≤ℤ_trans (max-≥ʳ z (max x y)) left))))
    (max_least (max_least (max-≥ˡ z (max m y)) (max_least (≤ℤ_trans h (≤ℤ_trans (max-≥ˡ m y) right)) (≤ℤ_trans (max-≥ʳ m y) right))) (≤ℤ_trans (max-≥ˡ m y) right))
  where
    left : max z (max x y) ≤ℤ max (max z (max x y)) m
    left = max-≥ˡ (max z (max x y)) m

    right : max m y ≤ℤ max z (max m y)
    right = max-≥ʳ z (max m y)

min_insert : (z y : ℤ) {x m : ℤ} → m ≤ℤ x → min z (min m y) ≡ min (min z (min x y)) m
min_insert z y {x} {m} h = ≤ℤ_antisym
    (min-greatest (min-greatest (min-≤ˡ z (min m y)) (min-greatest (≤ℤ_trans right (≤ℤ_trans (min-≤ˡ m y) h)) (≤ℤ_trans right (min-≤ʳ m y)))) (≤ℤ_trans right (min-≤ˡ m y)))
    (min-greatest (≤ℤ_trans left (min-≤ˡ z (min x y))) (min-greatest (min-≤ʳ (min z (min x y)) m) (≤ℤ_trans left (≤ℤ_trans (min-≤ʳ z (min x y)) (min-≤ʳ x y)))))
  where
    left : min (min z (min x y)) m ≤ℤ min z (min x y)
    left = min-≤ˡ (min z (min x y)) m

    right : min z (min m y) ≤ℤ min m y
    right = min-≤ʳ z (min m y)

pub record CutAt (m : ℤ) (k : ℕ) (whole part : Span) : Type 0 where
  pub first : part.first ≡ since k whole.first m
  pub last : part.last ≡ until k whole.last m

pub cut_x : {m : ℤ} {k : ℕ} {r r' : Span} → HalfStrip m k r r' → (s : Span) (n : ℤ) → CutAt m k (meet r s n) (meet r' s n)
unfolding since until
cut_x {m} {k} {r} {r'} h s n = go h.ends
  where
    go : {k : ℕ} → Ends m r r' k → CutAt m k (meet r s n) (meet r' s n)
    go (earlier i j) = record {
      first = ap (λ x. max (pos 0) (max x s.first)) i;
      last = ap (λ x. min n (min x s.last)) j ∙ min_insert n s.last h.high;
    }
    go (later i j) = record {
      first = ap (λ x. max (pos 0) (max x s.first)) i ∙ max_insert (pos 0) s.first h.low;
      last = ap (λ x. min n (min x s.last)) j;
    }

meet-turned : (r s : Span) (n : ℤ) → meet r s n ≡ meet s r n
meet-turned r s n = span-eq (ap (max (pos 0)) (max-turned r.first s.first)) (ap (min n) (min-turned r.last s.last))
  where
    max-turned : (a b : ℤ) → max a b ≡ max b a
    max-turned a b = ≤ℤ_antisym (max_least (max-≥ʳ b a) (max-≥ˡ b a)) (max_least (max-≥ʳ a b) (max-≥ˡ a b))

    min-turned : (a b : ℤ) → min a b ≡ min b a
    min-turned a b = ≤ℤ_antisym (min-greatest (min-≤ʳ a b) (min-≤ˡ a b)) (min-greatest (min-≤ʳ b a) (min-≤ˡ b a))

pub cut_y : {m : ℤ} {k : ℕ} {r r' : Span} → HalfStrip m k r r' → (s : Span) (n : ℤ) → CutAt m k (meet s r n) (meet s r' n)
cut_y {m} {k} {r} {r'} h s n = subst₂ (CutAt m k) (meet-turned r s n) (meet-turned r' s n) (cut_x h s n)

-- ---- all six numbers
pub piece_eq : {a a' b b' c c' d d' e e' f f' : ℤ} → a ≡ a' → b ≡ b' → c ≡ c' → d ≡ d' → e ≡ e' → f ≡ f'
    → ◌≡◌ {A = Piece} (record { first = a; last = b; middle_x = c; middle_y = d; half_x = e; half_y = f })
    (record { first = a'; last = b'; middle_x = c'; middle_y = d'; half_x = e'; half_y = f' })
piece_eq {a} {a'} {b} {b'} {c} {c'} {d} {d'} {e} {e'} {f} {f'} i j k l m n =
    ap₂ (λ x y. record { first = x; last = y; middle_x = c; middle_y = d; half_x = e; half_y = f }) i j
    ∙ ap₂ (λ x y. record { first = a'; last = b'; middle_x = x; middle_y = y; half_x = e; half_y = f }) k l
    ∙ ap₂ (λ x y. record { first = a'; last = b'; middle_x = c'; middle_y = d'; half_x = x; half_y = y }) m n

-- half of half of a width
halved : (k q : ℤ) {half p : ℤ} → half ≡ q +ℤ q → k *ℤ half ≡ p +ℤ p → p ≡ k *ℤ q
halved k q {half} {p} h e = lin≡ (k ∷ half ∷ q ∷ p ∷ []) (eq e & eq twice) (search linear depth 40) (tt, tt)
  where
    twice : k *ℤ half ≡ k *ℤ (q +ℤ q)
    twice = ap (λ z. k *ℤ z) h

pub piece_part : {w : Course} → IsWalk w → Moving w.x → Moving w.y → (c : Cell) (half q : ℤ) → c.width ≡ half +ℤ half → half ≡ q +ℤ q → pos 0 ≤ℤ q
    → (p : ℕ) → p < 4 → {r : Piece} → IsPart (piece_of w c half) p r
    → r ≡ piece_of w (quarter c half (half_on w.x.sign (p % 2)) (half_on w.y.sign (p / 2))) q
piece_part {w} k ma mb c half q even h q≥0 p l {r} t = piece_eq first last mid_x mid_y half_x_lem half_y_lem
  where
    i : p % 2 < 2
    i = omega arith

    j : p / 2 < 2
    j = omega arith

    strip_x : HalfStrip (to_middle w.x c.left half) (p % 2) (strip_of w.x c.left c.width w.steps)
        (strip_of w.x (c.left +ℤ pos (half_on w.x.sign (p % 2)) *ℤ half) half w.steps)
    strip_x = half_strip ma (walk_steady k).0.scaled c.left half q even h q≥0 w.steps (p % 2) i

    strip_y : HalfStrip (to_middle w.y c.top half) (p / 2) (strip_of w.y c.top c.width w.steps)
        (strip_of w.y (c.top +ℤ pos (half_on w.y.sign (p / 2)) *ℤ half) half w.steps)
    strip_y = half_strip mb (walk_steady k).1.scaled c.top half q even h q≥0 w.steps (p / 2) j

    half_x_lem : r.half_x ≡ w.x.scale *ℤ q
    half_x_lem = halved w.x.scale q h t.half_x_lem

    half_y_lem : r.half_y ≡ w.y.scale *ℤ q
    half_y_lem = halved w.y.scale q h t.half_y_lem

    mid_x : r.middle_x ≡ to_middle w.x (c.left +ℤ pos (half_on w.x.sign (p % 2)) *ℤ half) q
    mid_x = t.middle_x_lem ∙ ap (shifted (p % 2) (to_middle w.x c.left half)) half_x_lem ∙ sym (middle_part ma c.left half q h (p % 2) i)

    mid_y : r.middle_y ≡ to_middle w.y (c.top +ℤ pos (half_on w.y.sign (p / 2)) *ℤ half) q
    mid_y = t.middle_y_lem ∙ ap (shifted (p / 2) (to_middle w.y c.top half)) half_y_lem ∙ sym (middle_part mb c.top half q h (p / 2) j)

    -- first in x alone, then in y
    first : r.first ≡ (piece_of w (quarter c half (half_on w.x.sign (p % 2)) (half_on w.y.sign (p / 2))) q).first
    first =
        t.first
        ∙ sym ((cut_y strip_y (strip_of w.x (c.left +ℤ pos (half_on w.x.sign (p % 2)) *ℤ half) half w.steps) w.steps).first
        ∙ ap (λ z. since (p / 2) z (to_middle w.y c.top half)) (cut_x strip_x (strip_of w.y c.top c.width w.steps) w.steps).first)

    last : r.last ≡ (piece_of w (quarter c half (half_on w.x.sign (p % 2)) (half_on w.y.sign (p / 2))) q).last
    last =
        t.last
        ∙ sym ((cut_y strip_y (strip_of w.x (c.left +ℤ pos (half_on w.x.sign (p % 2)) *ℤ half) half w.steps) w.steps).last
        ∙ ap (λ z. until (p / 2) z (to_middle w.y c.top half)) (cut_x strip_x (strip_of w.y c.top c.width w.steps) w.steps).last)
