-- A miss of half a unit for each of `most_edges` edges, as many times over as the tile has pixels, or a smaller one, moves a grey by at most one.
--
-- Main results
--   close_greys                  the grey of a figure f and that of a fraction a / den, so near to each other
use Rattle.std.specs.Prelude.{[], ◌∷◌, ℕ, ◌*◌, ◌^◌, ◌<◌, ◌≤◌, ℤ, pos, ◌-ℤ◌, ◌*ℤ◌}
use Rattle.std.proofs.Common.{arith, mul-le-mul, mul-le-mul_left, mul-le-mul_right}
use Rattle.std.proofs.Math.Nat.{one-le-pow}
use Rattle.integers.specs.Units.{units_per_pixel, most_edges, full_grey}
use Rattle.integers.proofs.Theorems.Ring.{read, ring}
use Rattle.integers.proofs.Theorems.Order.{pos-≤ℤ}
use Rattle.integers.proofs.Theorems.Linear.{le, ◌&◌, linear, lin≤}
use Rattle.integers.specs.Within.{Within}
use Rattle.integers.proofs.Theorems.Within.{bounds, within_is, within_scale}
use Rattle.haar.specs.Greys.{grey, grey_of, OneApart}
use Rattle.haar.proofs.Laws.Cells.{level_square}
use Rattle.haar.proofs.Laws.Greys.{greys_one_apart}
use Rattle.accuracy.proofs.Laws.MostEdges.{most_edges_within_grey}

-- |x| ≤ p n / 2 gives g |x| ≤ u q, where p ≤ q, n ≤ m and g m ≤ 2 u. Here x has the denominator den.
scaled_miss_within : (g u den : ℕ) (x : ℤ) {m n p q : ℕ} → g * m ≤ 2 * u → n ≤ m → p ≤ q → Within (pos (p * n * den)) (pos 2 *ℤ x)
    → Within (pos (u * q * den)) (pos g *ℤ x)
scaled_miss_within g u den x {m} {n} {p} {q} room few small w =
    let ρ = pos g ∷ pos u ∷ pos den ∷ x ∷ pos m ∷ pos n ∷ pos p ∷ pos q ∷ [] in
    let more = pos-≤ℤ (mul-le-mul_left g (mul-le-mul_right den (mul-le-mul small few))) in
    let facts = bounds (within_scale g w) & le more & le (pos-≤ℤ (mul-le-mul_right (q * den) room)) in
    record { low = lin≤ ρ facts (search linear depth 40) tt; high = lin≤ ρ facts (search linear depth 40) tt }

pub close_greys : (depth : ℕ) {p edges : ℕ} (den : ℕ) (f a : ℤ) → p ≤ 4 ^ depth → edges ≤ most_edges → 0 < den
    → Within (pos (p * edges * den)) (pos 2 *ℤ (f *ℤ pos den -ℤ a)) → OneApart (grey_of (2 ^ depth) f) (grey (2 ^ depth) a den)
close_greys depth {p} den f a l h d w =
    let pixels : p ≤ 2 ^ depth * 2 ^ depth = omega (arith, level_square depth) in
    let near = scaled_miss_within full_grey units_per_pixel den (f *ℤ pos den -ℤ a) most_edges_within_grey h pixels w in
    greys_one_apart (one-le-pow depth 2 (omega arith)) f a (omega arith) d
    (within_is (ring (pos (2 ^ depth) ∷ pos den ∷ []) (search read depth 40) tt) (ring (f ∷ a ∷ pos den ∷ []) (search read depth 40) tt) near)
