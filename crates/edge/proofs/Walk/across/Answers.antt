-- One direction of a walk has room where its edge has. Where the code takes the other side, what is refused is what it says of its answer.
use Rattle.std.proofs.Common.{refl, rules}
use Rattle.integers.proofs.Theorems.Bits.{back_is}
use Rattle.edge.proofs.Sizes.{width_within}
use Rattle.edge.proofs.WalkRoom.{x_room-back, y_room-back}
use Rattle.edge.proofs.Laws.WalkKnown.{is_walk}
use Rattle.edge.proofs.Walk.across.Goals as goal

pub invariant_of-result : goal.invariant_of-result
invariant_of-result c =
    let w = is_walk c.args.self in
    let x = x_room-back w c.requires in
    let y = y_room-back w c.requires in
    record { room = search rules }

pub returns : goal.returns
returns c = (refl, back_is tt c.requires.left, back_is tt (width_within c.requires))
