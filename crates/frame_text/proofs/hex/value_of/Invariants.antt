-- One digit after the other. A byte that is no digit counts for 16, so that i bytes stand for less than 17^i.
use Rattle.std.proofs.Common.{◌≡◌, ◌^◌, ◌<◌, drop}
use Rattle.frame_text.specs.Digits.{value_from, hex_value}
use Rattle.frame_text.proofs.hex.value_of.Given as goal

abbrev pub invariant-loop-b : goal.invariant-loop-b
invariant-loop-b l = (l.v < 17 ^ l.b-index) × (hex_value l.digits ≡ value_from l.v (drop l.b-index l.digits))
