-- The side that is next in a contour: the first mark's.
--
-- Main results
--   no_sides, next_side          there is none where there is no mark; else it is the first of those that are left
--   test_none, test_some         whether there are any
--   end_first, end_next          where the last side ends, and where another one does
--   enough, enough_for           there are coordinates where there is a mark, and those of the first mark's side
--   Last, last_all, behind,
--   last_next                    the coordinates that are left are the contour's last; all are; how many come before them; so are those after the next side
--   numbers_first                the first mark's numbers, and those of the others
--   straight_next                a straight side is the contour's edge from its point
--   chords_next, chords_counted  its edges, and those of the sides after it
--   all_within                   what all coordinates have, those of all sides have
use Rattle.std.specs.Prelude.{◌≡◌, refl, Bool, true, false, cond, ℕ, ◌+◌, ◌-◌, ◌*◌, ◌/◌, ◌≤◌, ◌<◌, eqb, zero, suc, ◌==◌, List, [], ◌∷◌, ◌++◌, length, drop, ℤ, pos}
use Rattle.std.proofs.Common.{sym, ap, ap₂, ◌∙◌, arith, get_or, true≢false, length-append, length-drop, drop-drop, get_or-drop}
use Rattle.integers.specs.ListSum.{All, joined, tally}
use Rattle.integers.proofs.Theorems.ListSum.{all_entry}
use Rattle.integers.proofs.Theorems.Tests.{eqb_means}
use Rattle.accuracy.specs.Outline.{Point, point_at, edge_between}
use Rattle.contours.specs.Contour.{next, edge_of}
use Rattle.contours.specs.Laws.ContourEdges.{next_within, next_last}
use Rattle.chords.specs.declared.Side.{Side}
use Rattle.chords.specs.declared.Side.TheVariants.{Straight}
use Rattle.chords.specs.Sides.{numbers_of, numbers, start_or, sides_from}
use Rattle.chords.specs.Chords.{chords_of}
use Rattle.chords.specs.Marked.{side_by}
use Rattle.chords.specs.Laws.SidesWithin.{SideWithin}
use Rattle.chords.proofs.Laws.SidesWithin.{some-numbers, from_within}

-- ---- as the code tests it
pub test_none : {n : ℕ} {b : Bool} → b ≡ (n == 0) → b ≡ true → n ≡ 0
test_none {n = n} e h = (eqb_means n 0).0 (sym e ∙ h)

pub test_some : {n : ℕ} {b : Bool} → b ≡ (n == 0) → b ≡ false → 0 < n
test_some {n = zero} e h = absurd (true≢false (sym ((eqb_means 0 0).1 refl) ∙ sym e ∙ h))
test_some {n = suc n} e h = omega arith

-- ---- the next side
pub no_sides : (first : Point) (ms : List ℕ) (zs : List ℤ) → length ms ≡ 0 → sides_from first ms zs ≡ []
unfolding sides_from
no_sides first [] zs e = refl
no_sides first (m ∷ ms) zs e = absurd (omega (arith, e))

pub next_side : (first : Point) (ms : List ℕ) (zs : List ℤ) → 0 < length ms → (q : Point) → q ≡ start_or first (drop 1 ms) (drop (numbers_of (get_or ms 0 0)) zs)
    → sides_from first ms zs ≡ side_by (eqb (get_or ms 0 0) 0) zs q ∷ sides_from first (drop 1 ms) (drop (numbers_of (get_or ms 0 0)) zs)
unfolding sides_from
next_side first [] zs e q h = absurd (omega (arith, e))
next_side first (m ∷ ms) zs e q h = ap (λ p. side_by (eqb m 0) zs p ∷ sides_from first ms (drop (numbers_of m) zs)) (sym h)

pub end_first : (first : Point) (ms : List ℕ) (zs : List ℤ) → length ms ≡ 0 → start_or first ms zs ≡ first
end_first first [] zs e = refl
end_first first (m ∷ ms) zs e = absurd (omega (arith, e))

pub end_next : (first : Point) (ms : List ℕ) (zs : List ℤ) → 0 < length ms → start_or first ms zs ≡ point_at zs 0
end_next first [] zs e = absurd (omega (arith, e))
end_next first (m ∷ ms) zs e = refl

pub enough : (ms : List ℕ) → 0 < length ms → 2 ≤ numbers ms
unfolding tally
enough [] e = absurd (omega (arith, e))
enough (m ∷ ms) e = omega (arith, some-numbers m)

pub enough_for : (ms : List ℕ) → 0 < length ms → cond (eqb (get_or ms 0 0) 0) 2 4 ≤ numbers ms
unfolding tally
enough_for [] e = absurd (omega (arith, e))
enough_for (m ∷ ms) e = omega arith

pub numbers_first : (ms : List ℕ) → 0 < length ms → numbers ms ≡ numbers_of (get_or ms 0 0) + numbers (drop 1 ms)
unfolding tally
numbers_first [] e = absurd (omega (arith, e))
numbers_first (m ∷ ms) e = refl

-- ---- where it lies in its contour, whose coordinates are zs
abbrev pub Last : List ℤ → List ℤ → Type 0
Last zs ys = ys ≡ drop (2 * (length zs / 2 - length ys / 2)) zs

pub behind : (zs : List ℤ) {ys : List ℤ} → Last zs ys → 2 * (length zs / 2 - length ys / 2) + length ys ≡ length zs
behind zs {ys} e = omega (arith, ap length e, length-drop (2 * (length zs / 2 - length ys / 2)) zs)

pub last_all : (zs : List ℤ) → Last zs zs
last_all zs = let none : 0 ≡ 2 * (length zs / 2 - length zs / 2) = omega arith in ap (λ n. drop n zs) none

pub last_next : (zs : List ℤ) {ys rest : List ℤ} → Last zs ys → (own : ℕ) → 2 * own ≤ length ys → rest ≡ drop (2 * own) ys → Last zs rest
last_next zs {ys} {rest} e own h f =
    let before = 2 * (length zs / 2 - length ys / 2) in
    let further : before + 2 * own ≡ 2 * (length zs / 2 - length rest / 2) = omega (arith, behind zs e, h, ap length f, length-drop (2 * own) ys) in
    f ∙ ap (drop (2 * own)) e ∙ drop-drop (2 * own) before zs ∙ ap (λ n. drop n zs) further

point-drop : (zs : List ℤ) (k j : ℕ) → point_at (drop (2 * k) zs) j ≡ point_at zs (k + j)
point-drop zs k j =
    let x : 2 * k + 2 * j ≡ 2 * (k + j) = omega arith in
    let y : 2 * k + (2 * j + 1) ≡ 2 * (k + j) + 1 = omega arith in
    ap₂ (λ a b. record { x = a; y = b }) (get_or-drop (2 * k) zs (2 * j) (pos 0) ∙ ap (λ i. get_or zs i (pos 0)) x)
    (get_or-drop (2 * k) zs (2 * j + 1) (pos 0) ∙ ap (λ i. get_or zs i (pos 0)) y)

-- where the edge from point k ends: at the point of the marks ms after it, or at the contour's first
end_at : (zs : List ℤ) (k : ℕ) (ms : List ℕ) → 2 * (k + 1) + numbers ms ≡ length zs
    → point_at zs (next (length zs / 2) k) ≡ start_or (point_at zs 0) ms (drop (2 * (k + 1)) zs)
unfolding tally
end_at zs k [] e = ap (point_at zs) (next_last (length zs / 2) k (omega (arith, e)))
end_at zs k (m ∷ ms) e =
    let same : k + 1 ≡ k + 1 + 0 = omega arith in
    ap (point_at zs) (next_within (length zs / 2) k (omega (arith, e, some-numbers m)) ∙ same) ∙ sym (point-drop zs (k + 1) 0)

straight_at : (zs ys : List ℤ) (k : ℕ) (ms : List ℕ) → ys ≡ drop (2 * k) zs → 2 * k + (2 + numbers ms) ≡ length zs
    → edge_of zs (length zs / 2) k ≡ edge_between (point_at ys 0) (start_or (point_at zs 0) ms (drop 2 ys))
straight_at zs ys k ms begun e =
    let two : 2 * (k + 1) ≡ 2 * k + 2 = omega arith in
    let same : k ≡ k + 0 = omega arith in
    ap₂ edge_between (ap (point_at zs) same ∙ sym (point-drop zs k 0))
    (end_at zs k ms (omega (arith, e)) ∙ ap (start_or (point_at zs 0) ms) (ap (λ n. drop n zs) two ∙ sym (drop-drop 2 (2 * k) zs)))
    ∙ ap (λ l. edge_between (point_at l 0) (start_or (point_at zs 0) ms (drop 2 l))) (sym begun)

pub straight_next : (zs : List ℤ) {ys : List ℤ} (ms : List ℕ) → 0 < length ms → Last zs ys → length ys ≡ numbers ms → eqb (get_or ms 0 0) 0 ≡ true
    → Straight (edge_of zs (length zs / 2) (length zs / 2 - length ys / 2))
    ≡ side_by (eqb (get_or ms 0 0) 0) ys (start_or (point_at zs 0) (drop 1 ms) (drop (numbers_of (get_or ms 0 0)) ys))
straight_next zs {ys} ms some last all is =
    let two : numbers_of (get_or ms 0 0) ≡ 2 = ap (λ b. cond b 2 4) is in
    let here : edge_of zs (length zs / 2) (length zs / 2 - length ys / 2) ≡ edge_between (point_at ys 0) (start_or (point_at zs 0) (drop 1 ms) (drop 2 ys)) =
    straight_at zs ys (length zs / 2 - length ys / 2) (drop 1 ms) last (omega (arith, behind zs last, all, numbers_first ms some, two)) in
    ap Straight here ∙ ap (λ n. side_by true ys (start_or (point_at zs 0) (drop 1 ms) (drop n ys))) (sym two)
    ∙ ap (λ b. side_by b ys (start_or (point_at zs 0) (drop 1 ms) (drop (numbers_of (get_or ms 0 0)) ys))) (sym is)

-- ---- all sides
pub all_within : (P : ℤ → Type 0) (ms : List ℕ) (zs : List ℤ) → length zs ≡ numbers ms → All P zs → All (SideWithin P) (sides_from (point_at zs 0) ms zs)
unfolding sides_from
all_within P [] zs e all = tt
all_within P (m ∷ ms) zs e all =
    let long : 2 ≤ length zs = omega (arith, e, enough (m ∷ ms) (omega arith)) in
    from_within P (point_at zs 0) (m ∷ ms) zs (all_entry P (pos 0) zs all 0 (omega (arith, long)), all_entry P (pos 0) zs all 1 (omega (arith, long))) (omega (arith, e)) all

-- ---- edges
pub chords_next : {ss rest : List Side} {s : Side} → ss ≡ s ∷ rest → joined chords_of ss ≡ chords_of s ++ joined chords_of rest
unfolding joined
chords_next e = ap (joined chords_of) e

pub chords_counted : {ss rest : List Side} {s : Side} → ss ≡ s ∷ rest → length (joined chords_of ss) ≡ length (chords_of s) + length (joined chords_of rest)
chords_counted {ss} {rest} {s} e = ap length (chords_next e) ∙ length-append (chords_of s) (joined chords_of rest)

pub no_chords : {ss : List Side} → ss ≡ [] → joined chords_of ss ≡ []
unfolding joined
no_chords e = ap (joined chords_of) e
