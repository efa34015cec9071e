-- Each part has the points that its marks say.
use Rattle.std.proofs.Common.{◌*◌, ◌≤◌, length, ap, ◌∙◌, arith, length-take-le, length-drop}
use Rattle.placement.specs.Coordinates.{coordinates}
use Rattle.chords.specs.Sides.{numbers}
use Rattle.chords.proofs.Laws.SidesWithin.{numbers-split}
use Rattle.chords.proofs.marked.MarkedPoints.split_at.Goals as goal

pub split_at-requires-2 : goal.split_at-requires-2
split_at-requires-2 c =
    let q = c.args.self.now in
    let own = ap numbers c.split_at.ensures.front in
    omega (arith, q.as_many, c.points_of.ensures, own, numbers-split c.args.k q.marks.now)

pub invariant_of-result : goal.invariant_of-result
invariant_of-result c =
    let q = c.args.self.now in
    let own = ap numbers c.split_at.ensures.front in
    let there : 2 * c.points_of.result ≤ length (coordinates q.points) = omega (arith, q.as_many, c.points_of.ensures, own, numbers-split c.args.k q.marks.now) in
    record { as_many = ap length c.split_at-2.ensures.first ∙ length-take-le (2 * c.points_of.result) (coordinates q.points) there ∙ c.points_of.ensures }

pub invariant_of-result-2 : goal.invariant_of-result-2
invariant_of-result-2 c =
    let q = c.args.self.now in
    let own = ap numbers c.split_at.ensures.front in
    let rest = ap numbers c.split_at.ensures.back in
    let left = ap length c.split_at-2.ensures.others in
    record {
      as_many =
          omega (arith, q.as_many, c.points_of.ensures, own, rest, left, length-drop (2 * c.points_of.result) (coordinates q.points), numbers-split c.args.k q.marks.now);
    }
