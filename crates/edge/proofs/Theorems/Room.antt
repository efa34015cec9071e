-- Laws of what specs/Room.antt defines. The head of that file lists the main results.
use Rattle.std.specs.Prelude.{◌≡◌, refl, ◌^◌}
use Rattle.edge.specs.Room.{crossing_limit}

crossing_is : crossing_limit ≡ 2 ^ 59
crossing_is = refl
