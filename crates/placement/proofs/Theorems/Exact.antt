-- Laws of what specs/Exact.antt defines. The head of that file lists the main results.
use Rattle.std.specs.Prelude.{◌≡◌, ℕ, ◌+◌, ◌*◌, ◌<◌, ◌≤◌, true, T, List, [], ◌∷◌, length, ℤ, pos, ◌+ℤ◌, ◌*ℤ◌, slice_index_or, unsigned_abs, Float}
use Rattle.std.proofs.Common.{mul-le-mul, le_trans, lt_of_le_of_lt, arith, lit<, lit≤}
use Rattle.std.specs.Float.{binary64}
use Rattle.std.specs.Float.Ieee.{fits, of_int, mul, add}
use Rattle.std.specs.Float.Ieee.Fits.{add-fits}
use Rattle.integers.specs.Units.{parts_per_step, factor_limit, offset_limit, movable_limit, placed_limit}
use Rattle.placement.specs.Parts.{Value, parts_of, is_multiple, Inside, part_bits, per_step}
use Rattle.placement.specs.Placed.{parts_at, placeable}
use Rattle.placement.specs.Ready.{Ready}
use Rattle.placement.proofs.Laws.ExactArithmetic.{mul_exact, add_exact}
use Rattle.placement.proofs.Laws.PartsOf.{multiple_value, multiple_inside, multiple_bound, value_multiple}
use Rattle.placement.proofs.Laws.Comparisons.{inside_wider}
use Rattle.placement.proofs.Laws.WholeFloats.{whole_value, cut_whole}
use Rattle.placement.proofs.Laws.InParts.{scaled, whole_parts}
use Rattle.placement.proofs.Laws.TestedFloats.{tested}
use Rattle.placement.proofs.Laws.Turning.{a_usable, b_usable, c_usable, x_small, y_small, sum_bound, all_bound, parts_at-bound}
use Rattle.placement.proofs.Laws.Turns.{turn_ready, shift_ready, scale_ready}
use Rattle.placement.proofs.Laws.PlacedPoints.{placeable_at}
use Rattle.placement.specs.declared.Placement.{Placement}
use Rattle.placement.specs.declared.Placement.TheVariants.{None, Shift, Scale, Turn}
use Rattle.placement.specs.Exact.{EveryProductAndSumIsExact, ExactlyMoved, ExactlyTested, turned}

-- a coordinate as a float, and a factor times it
cast : (x : ℤ) → unsigned_abs x ≤ movable_limit → Value (of_int binary64 x) x 1
cast x h = whole_value x (le_trans h (lit≤ tt))

factor_times_coordinate : (a : Float) (x : ℤ) → is_multiple factor_limit a ≡ true → unsigned_abs x ≤ movable_limit → Value (mul binary64 a (of_int binary64 x)) (parts_of a *ℤ x) parts_per_step
factor_times_coordinate a x h g =
    mul_exact a (of_int binary64 x) (parts_of a) x part_bits 0 (lit≤ tt) (multiple_value factor_limit a h) (cast x g)
    (lt_of_le_of_lt (mul-le-mul (multiple_bound factor_limit a h) g) (lit< tt))

pub every-product_and_sum_is_exact : {a b c : Float} {x y : ℤ} → Ready a b c x y → EveryProductAndSumIsExact a b c x y
every-product_and_sum_is_exact {a} {b} {c} {x} {y} r =
    let ax = mul binary64 a (of_int binary64 x) in
    let by = mul binary64 b (of_int binary64 y) in
    let first = factor_times_coordinate a x (a_usable r) (x_small r) in
    let second = factor_times_coordinate b y (b_usable r) (y_small r) in
    let sum = add_exact ax by (parts_of a *ℤ x) (parts_of b *ℤ y) part_bits (lit≤ tt) first second (lt_of_le_of_lt (sum_bound r) (lit< tt)) in
    let all =
    add_exact (add binary64 ax by) c (parts_of a *ℤ x +ℤ parts_of b *ℤ y) (parts_of c) part_bits (lit≤ tt) sum (multiple_value offset_limit c (c_usable r))
    (lt_of_le_of_lt (all_bound r) (lit< tt)) in
    let usable = (value_multiple placed_limit (turned a b c x y) (parts_at a b c x y) all (parts_at-bound r)).0 in
    let parts = scaled (turned a b c x y) (add-fits binary64 (add binary64 ax by) c) (multiple_inside placed_limit (turned a b c x y) usable) in
    let whole = whole_parts (mul binary64 (turned a b c x y) per_step) (parts_at a b c x y) (parts.exact (parts_at a b c x y) parts_per_step all) in
    record {
      cast_x = cast x (x_small r);
      first_product = first;
      cast_y = cast y (y_small r);
      second_product = second;
      first_sum = sum;
      second_sum = all;
      in_parts = whole;
      cast-back = cut_whole (mul binary64 (turned a b c x y) per_step) (parts_at a b c x y) whole (le_trans (parts_at-bound r) (lit≤ tt));
    }

rows_exact : {a b c d e f : Float} {x y : ℤ} → Ready a b c x y × Ready d e f x y → EveryProductAndSumIsExact a b c x y × EveryProductAndSumIsExact d e f x y
rows_exact r = (every-product_and_sum_is_exact r.0, every-product_and_sum_is_exact r.1)

point_exact : (p : Placement) (x y : ℤ) → placeable p (x ∷ y ∷ []) ≡ true → ExactlyMoved p x y
point_exact None x y e = tt
point_exact (Shift u v) x y e = rows_exact (shift_ready u v e)
point_exact (Scale s) x y e = rows_exact (scale_ready s e)
point_exact (Turn m) x y e = rows_exact (turn_ready m e)

pub exactly_moved : (p : Placement) (points : List ℤ) → placeable p points ≡ true → (k : ℕ) → 2 * k + 1 < length points
    → ExactlyMoved p (slice_index_or points (2 * k) (pos 0)) (slice_index_or points (2 * k + 1) (pos 0))
exactly_moved p points e k h =
    let g : 2 * k < length points = omega (arith, h) in
    point_exact p (slice_index_or points (2 * k) (pos 0)) (slice_index_or points (2 * k + 1) (pos 0)) (placeable_at p points (2 * k) (2 * k + 1) e g h)

-- every 64-bit float x, which `fits` says, within a limit that is at most `offset_limit`
pub exactly_tested : (limit : ℕ) → limit ≤ offset_limit → (x : Float) → T (fits binary64 x) → Inside limit x → ExactlyTested limit x
exactly_tested limit h x f i =
    let exact = scaled x f (inside_wider (le_trans h (lit≤ tt)) x i) in
    let t = tested h x (mul binary64 x per_step) i exact in
    record {
      limit_cast = whole_value (pos limit) (le_trans h (lit≤ tt));
      product = exact;
      cut = t.cut_is;
      cast-back = whole_value (parts_of x) t.small;
    }
