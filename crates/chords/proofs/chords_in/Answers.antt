-- One edge, or 2^k chords.
use Rattle.std.proofs.Common.{◌^◌, length, sym, ap, ◌∙◌}
use Rattle.chords.specs.Chords.{splits_of, chords_of}
use Rattle.chords.proofs.Laws.ChordList.{straight_chords, curved_length}
use Rattle.chords.proofs.chords_in.Goals as goal

pub returns-in-Straight : goal.returns-in-Straight
returns-in-Straight c = sym (ap (λ s. length (chords_of s)) c.in-Straight.is ∙ ap length (straight_chords _))

pub returns-in-Curved : goal.returns-in-Curved
returns-in-Curved c =
    c.count.ensures ∙ ap (λ k. 2 ^ splits_of k) c.of.ensures ∙ sym (curved_length c.in-Curved.c)
    ∙ sym (ap (λ s. length (chords_of s)) c.in-Curved.is)
