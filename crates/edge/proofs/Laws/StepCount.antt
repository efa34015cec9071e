-- The number of an edge's steps, over which its values are fractions: it is never 0, and a value that is whole is kept by rounding.
--
-- Main results
--   extent-pos, steps_pos           an edge has at least one step
--   rounded_whole, whole_kept       a value that is whole is kept by rounding
use Rattle.std.specs.Prelude.{◌≡◌, zero, suc, ◌<◌, ℤ, pos, negsuc, ◌*ℤ◌}
use Rattle.std.proofs.Common.{sym, ◌∙◌, ap, mul-pos, arith}
use Rattle.integers.specs.Rounding.{round_half_away}
use Rattle.integers.proofs.Theorems.RoundHalfAway.{round_half_away-mul}
use Rattle.edge.specs.declared.Edge.{Edge}
use Rattle.edge.specs.Walk.{extent, dx, dy, steps}

pub extent-pos : (d : ℤ) → 0 < extent d
unfolding extent
extent-pos (pos zero) = omega arith
extent-pos (pos (suc n)) = omega arith
extent-pos (negsuc n) = omega arith

pub steps_pos : (e : Edge) → 0 < steps e
steps_pos e = mul-pos (extent-pos (dx e)) (extent-pos (dy e))

pub rounded_whole : (e : Edge) {z : ℤ} (q : ℤ) → z ≡ q *ℤ pos (steps e) → round_half_away z (steps e) ≡ q
rounded_whole e q k = ap (λ z. round_half_away z (steps e)) k ∙ round_half_away-mul q (steps_pos e)

pub whole_kept : (e : Edge) {z : ℤ} (q : ℤ) → z ≡ q *ℤ pos (steps e) → round_half_away z (steps e) *ℤ pos (steps e) ≡ z
whole_kept e q h = ap (λ z. z *ℤ pos (steps e)) (rounded_whole e q h) ∙ sym h
