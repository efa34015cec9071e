-- There is room for the walk's edge, which is the case's.
use Rattle.std.proofs.Common.{◌≡◌, sym, subst}
use Rattle.edge.specs.declared.Edge.{Edge}
use Rattle.edge.specs.declared.Cell.{Cell}
use Rattle.edge.specs.Room.{Room}
use Rattle.edge_vectors.proofs.show.Goals as goal

room_of : {d e : Edge} {c : Cell} → d ≡ e → Room e c → Room d c
room_of {c = c} e r = subst (λ d. Room d c) (sym e) r

pub details_in-details-requires : goal.details_in-details-requires
details_in-details-requires g c = room_of c.of-walk.ensures c.requires

pub area_in-area-requires : goal.area_in-area-requires
area_in-area-requires g c = room_of c.of-walk.ensures c.requires

pub comes_inside-requires : goal.comes_inside-requires
comes_inside-requires g c = room_of c.of-walk.ensures c.requires
