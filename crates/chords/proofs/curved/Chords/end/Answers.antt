-- Both coordinates.
use Rattle.std.proofs.Common.{◌^◌, ap, arith}
use Rattle.chords.proofs.FewChords.{few_splits}
use Rattle.chords.proofs.curved.Chords.end.Goals as goal

pub chord_end-requires : goal.chord_end-requires
chord_end-requires c = (few_splits c.args.self, omega (arith, c.requires, ap (λ k. 2 ^ k) c.args.self.least))

pub chord_end-requires-2 : goal.chord_end-requires-2
chord_end-requires-2 c = (few_splits c.args.self, omega (arith, c.requires, ap (λ k. 2 ^ k) c.args.self.least))
