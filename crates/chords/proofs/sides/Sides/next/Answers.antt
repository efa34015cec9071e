-- The first of the sides that are left.
use Rattle.std.proofs.Common.{◌≡◌, ℕ, ◌-◌, ◌*◌, ◌≤◌, ◌∷◌, cond, eqb, length, drop, refl, sym, ap, ap₂, ◌∙◌, arith, get_or, length-drop}
use Rattle.accuracy.specs.Outline.{Point, point_at}
use Rattle.placement.specs.Coordinates.{coordinates}
use Rattle.placement.specs.declared.Point.{Point as CodePoint}
use Rattle.contours.specs.Contour.{edge_of}
use Rattle.chords.specs.declared.Side.TheVariants.{Straight, Curved}
use Rattle.chords.specs.Sides.{numbers_of, numbers, start_or, sides_from}
use Rattle.chords.specs.Marked.{is_straight, side_by}
use Rattle.chords.proofs.NextSide.{test_none, test_some, no_sides, next_side, end_first, end_next, enough, enough_for, numbers_first, behind, last_next, straight_next}
use Rattle.chords.proofs.sides.Sides.next.Goals as goal
use Rattle.chords.proofs.sides.Sides.next.Goals.{in-Straight, in-Curved, then-is_empty-2, else-is_empty-2}

abbrev at : CodePoint → Point
at p = record { x = p.x; y = p.y }

point-eq : {p q : Point} → (p.x ≡ q.x) × (p.y ≡ q.y) → p ≡ q
point-eq e = ap₂ (λ x y. record { x = x; y = y }) e.0 e.1

pub returns-then-is_empty : goal.returns-then-is_empty
returns-then-is_empty c = no_sides _ c.args.self.now.left.marks.now _ (test_none c.is_empty.ensures c.if-is_empty.true)

-- its own points are there
pub split_at-requires-2 : goal.split_at-requires-2
split_at-requires-2 c =
    let left = c.args.self.now.left in
    let own = ap {B = ℕ} (λ b. cond b 2 4) c.from-mark.ensures in
    omega (arith, c.points.ensures, own, left.as_many, enough_for left.marks.now (test_some c.is_empty.ensures c.if-is_empty.false))

pub edge_from-requires : goal.edge_from-requires
edge_from-requires c =
    let s = c.args.self.now in
    let there = enough s.left.marks.now (test_some c.is_empty.ensures c.if-is_empty.false) in
    (omega (arith, c.count-n.ensures, c.count.ensures, behind (coordinates s.contour) s.begun, s.left.as_many, there), omega (arith, c.count-n.ensures))

pub point-end-requires : goal.point-end-requires
point-end-requires c =
    let s = c.args.self.now in
    omega (arith, behind (coordinates s.contour) s.begun, s.left.as_many, enough s.left.marks.now (test_some c.is_empty.ensures c.if-is_empty.false))

-- where there are other marks there are points of theirs
pub point-end-requires-else-is_empty-2 : goal.point-end-requires-else-is_empty-2
point-end-requires-else-is_empty-2 c =
    let left = c.args.self.now.left in
    let marks = c.split_at.result.1.now in
    let own = c.points.ensures ∙ ap {B = ℕ} (λ b. cond b 2 4) c.from-mark.ensures in
    let past = ap length c.split_at-2.ensures.others ∙ length-drop (2 * c.points.result) (coordinates left.points) in
    let first = numbers_first left.marks.now (test_some c.is_empty.ensures c.if-is_empty.false) in
    omega (arith, past, own, left.as_many, first, ap numbers c.split_at.ensures.back, enough marks (test_some c.is_empty-in-Curved.ensures c.if-is_empty-2.false))

pub curve_to-requires : goal.curve_to-requires
curve_to-requires c =
    let left = c.args.self.now.left in
    let four = ap {B = ℕ} (λ b. cond b 2 4) (sym c.from-mark.ensures ∙ ap is_straight c.in-Curved.is) in
    omega (arith, four, left.as_many, enough_for left.marks.now (test_some c.is_empty.ensures c.if-is_empty.false))

pub invariant_of-self : goal.invariant_of-self
invariant_of-self c =
    let left = c.args.self.now.left in
    let own = c.points.ensures ∙ ap {B = ℕ} (λ b. cond b 2 4) c.from-mark.ensures in
    let past = ap length c.split_at-2.ensures.others ∙ length-drop (2 * c.points.result) (coordinates left.points) in
    let first = numbers_first left.marks.now (test_some c.is_empty.ensures c.if-is_empty.false) in
    record { as_many = omega (arith, past, own, left.as_many, first, ap numbers c.split_at.ensures.back) }

pub invariant_of-self-2 : goal.invariant_of-self-2
invariant_of-self-2 c =
    let s = c.args.self.now in
    let own = c.points.ensures ∙ ap {B = ℕ} (λ b. cond b 2 4) c.from-mark.ensures in
    let there : 2 * c.points.result ≤ length (coordinates s.left.points) =
    omega (arith, own, s.left.as_many, numbers_first s.left.marks.now (test_some c.is_empty.ensures c.if-is_empty.false)) in
    record { begun = last_next (coordinates s.contour) s.begun c.points.result there c.split_at-2.ensures.others }

pub returns : goal.returns
returns c =
    let s = c.args.self.now in
    let marks = s.left.marks.now in
    let ys = coordinates s.left.points in
    let zs = coordinates s.contour in
    let first = point_at zs 0 in
    let some = test_some c.is_empty.ensures c.if-is_empty.false in
    let own : 2 * c.points.result ≡ numbers_of (get_or marks 0 0) = c.points.ensures ∙ ap (λ b. cond b 2 4) c.from-mark.ensures in
    let marks-are = c.split_at.ensures.back in
    let points-are : coordinates c.split_at-2.result.1 ≡ drop (numbers_of (get_or marks 0 0)) ys = c.split_at-2.ensures.others ∙ ap (λ n. drop n ys) own in
    let end = start_or first (drop 1 marks) (drop (numbers_of (get_or marks 0 0)) ys) in
    let side-is : c.match-mark.side ≡ side_by (eqb (get_or marks 0 0) 0) ys end =
    elim c.match-mark.branch [
      | in-Straight w ↦
          w.side-is ∙ ap Straight (w.edge_from.ensures ∙ ap₂ (λ n m. edge_of zs n (n - m)) w.count-n.ensures w.count.ensures)
          ∙ straight_next zs marks some s.begun s.left.as_many (sym c.from-mark.ensures ∙ ap is_straight w.in-Straight.is)
      | in-Curved w ↦
          let rest = coordinates c.split_at-2.result.1 in
          let others = c.split_at.result.1.now in
          let ends : at w.if-is_empty-2.end ≡ start_or first others rest =
          elim w.if-is_empty-2.branch [
            | then-is_empty-2 w' ↦ ap at w'.end-is ∙ point-eq w'.point-end.ensures ∙ sym (end_first first others rest (test_none w.is_empty-in-Curved.ensures w'.if-is_empty-2.true))
            | else-is_empty-2 w' ↦ ap at w'.end-is ∙ point-eq w'.point-end-else-is_empty-2.ensures ∙ sym (end_next first others rest (test_some w.is_empty-in-Curved.ensures w'.if-is_empty-2.false))
          ] in
          w.side-is ∙ ap Curved w.curve_to.ensures
          ∙ ap (λ b. side_by b ys (at w.if-is_empty-2.end)) (sym (sym c.from-mark.ensures ∙ ap is_straight w.in-Curved.is))
          ∙ ap (side_by (eqb (get_or marks 0 0) 0) ys) (ends ∙ ap₂ (start_or first) marks-are points-are)
    ] in
    next_side first marks ys some end refl ∙ ap₂ ◌∷◌ (sym side-is) (sym (ap₂ (sides_from first) marks-are points-are))
