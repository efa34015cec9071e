-- k is at most 7.
use Rattle.chords.proofs.FewChords.{few_splits}
use Rattle.chords.proofs.curved.Chords.count.Goals as goal

pub chords_at-requires : goal.chords_at-requires
chords_at-requires c = few_splits c.args.self
