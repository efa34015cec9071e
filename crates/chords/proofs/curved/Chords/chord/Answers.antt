-- A curve has at most 128 chords.
use Rattle.std.proofs.Common.{◌^◌, ap, arith, pow_mono}
use Rattle.integers.specs.Units.{most_splits}
use Rattle.chords.proofs.FewChords.{few_splits}
use Rattle.chords.proofs.curved.Chords.chord.Goals as goal

pub overflow_add-i : goal.overflow_add-i
overflow_add-i c =
    let a = c.args.self in
    record { fits = omega (arith, c.requires, ap (λ k. 2 ^ k) a.least, pow_mono {i = a.k} {j = most_splits} (few_splits a)) }
