-- Laws of what specs/Laws/SidesWithin.antt defines. The head of that file lists the main results.
use Rattle.std.specs.Prelude.{◌≡◌, refl, Bool, true, false, cond, ℕ, zero, suc, ◌+◌, ◌*◌, ◌%◌, ◌<◌, ◌≤◌, eqb, take, ℤ, pos}
use mathlib.Core.List.{List, [], ◌∷◌}
use Rattle.std.proofs.Common.{arith, length-take-le}
use Rattle.std.proofs.Math.ListN.{length, drop, length-drop}
use Rattle.integers.specs.ListSum.{All, tally, joined}
use Rattle.integers.proofs.Theorems.ListSum.{all_map, all_entry, all_drop, all_take, all_joined}
use Rattle.accuracy.specs.Outline.{Point, point_at, edge_between, edge_count}
use Rattle.chords.specs.declared.Side.TheVariants.{Straight, Curved}
use Rattle.chords.specs.Sides.{numbers_of, numbers, curve_between, start_or, sides_from, MarkedContour, sides_of, marked_contours}
use Rattle.chords.specs.Laws.SidesWithin.{Right, SideWithin}

-- ---- numbers
pub numbers-split : (n : ℕ) (ms : List ℕ) → numbers ms ≡ numbers (take n ms) + numbers (drop n ms)
unfolding tally
numbers-split zero ms = omega arith
numbers-split (suc n) [] = refl
numbers-split (suc n) (m ∷ ms) = omega (arith, numbers-split n ms)

at_least : (b : Bool) → 2 ≤ cond b 2 4
at_least true = omega arith
at_least false = omega arith

pub some-numbers : (m : ℕ) → 2 ≤ numbers_of m
some-numbers m = at_least (eqb m 0)

evenly : (b : Bool) → cond b 2 4 % 2 ≡ 0
evenly true = refl
evenly false = refl

pub numbers_even : (ms : List ℕ) → numbers ms % 2 ≡ 0
unfolding tally
numbers_even [] = refl
numbers_even (m ∷ ms) = omega (arith, evenly (eqb m 0), numbers_even ms)

module _ (P : ℤ → Type 0) where
  -- ---- points
  abbrev PointWithin : Point → Type 0
  PointWithin p = P p.x × P p.y

  point_within : (zs : List ℤ) (k : ℕ) → 2 * k + 1 < length zs → All P zs → PointWithin (point_at zs k)
  point_within zs k h all = (all_entry P (pos 0) zs all (2 * k) (omega arith), all_entry P (pos 0) zs all (2 * k + 1) h)

  start_within : (first : Point) (ms : List ℕ) (zs : List ℤ) → PointWithin first → numbers ms ≤ length zs → All P zs → PointWithin (start_or first ms zs)
  unfolding tally
  start_within first [] zs f h all = f
  start_within first (m ∷ ms) zs f h all = point_within zs 0 (omega (arith, some-numbers m)) all

  -- ---- sides
  one_within : (b : Bool) (zs : List ℤ) (q : Point) → cond b 2 4 ≤ length zs → All P zs → PointWithin q
      → SideWithin P (cond b (Straight (edge_between (point_at zs 0) q)) (Curved (curve_between (point_at zs 0) (point_at zs 1) q)))
  one_within true zs q h all w = let p = point_within zs 0 (omega arith) all in (p.0, p.1, w.0, w.1)
  one_within false zs q h all w =
      let p = point_within zs 0 (omega arith) all in
      let c = point_within zs 1 (omega arith) all in
      (p.0, c.0, w.0, p.1, c.1, w.1)

  pub from_within : (first : Point) (ms : List ℕ) (zs : List ℤ) → PointWithin first → numbers ms ≤ length zs → All P zs → All (SideWithin P) (sides_from first ms zs)
  unfolding tally sides_from
  from_within first [] zs f h all = tt
  from_within first (m ∷ ms) zs f h all =
      let rest = drop (numbers_of m) zs in
      let enough : numbers ms ≤ length rest = omega (arith, length-drop (numbers_of m) zs, h) in
      let others = all_drop P (numbers_of m) zs all in (
        one_within (eqb m 0) zs (start_or first ms rest) (omega (arith, h)) all (start_within first ms rest f enough others),
        from_within first ms rest f enough others,
      )

  pub contour_within : (c : MarkedContour) → Right P c → All (SideWithin P) (sides_of c)
  unfolding tally sides_from
  contour_within c h = go c.marks h.0
    where
      go : (ms : List ℕ) → length c.coordinates ≡ numbers ms → All (SideWithin P) (sides_from (point_at c.coordinates 0) ms c.coordinates)
      go [] e = tt
      go (m ∷ ms) e =
          from_within (point_at c.coordinates 0) (m ∷ ms) c.coordinates (point_within c.coordinates 0 (omega (arith, e, some-numbers m)) h.1)
          (omega (arith, e)) h.1

  pub sides_within : (cs : List MarkedContour) → All (Right P) cs → All (SideWithin P) (joined sides_of cs)
  sides_within cs h = all_joined sides_of (SideWithin P) cs (all_map contour_within cs h)

  -- ---- the contours of an outline
  pub contours_right : (counts marks : List ℕ) (zs : List ℤ) → length marks ≡ edge_count counts → length zs ≡ numbers marks → All P zs
      → All (Right P) (marked_contours counts marks zs)
  unfolding tally marked_contours
  contours_right [] marks zs e h all = tt
  contours_right (n ∷ counts) marks zs e h all =
      let split = numbers-split n marks in
      let own = numbers (take n marks) in (
        (length-take-le own zs (omega (arith, h, split)), all_take P own zs all),
        contours_right counts (drop n marks) (drop own zs) (omega (arith, length-drop n marks, e)) (omega (arith, length-drop own zs, h, split))
            (all_drop P own zs all),
      )
