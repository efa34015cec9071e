-- The edge, or the way back along it.
use Rattle.std.proofs.Common.{◌≡◌, sym, ◌∙◌, ap, [], ◌∷◌, pos, ◌*ℤ◌, w64, of_z}
use Rattle.std.proofs.Math.Path.{subst⁻¹}
use Rattle.integers.proofs.Theorems.Ring.{read, ring}
use Rattle.integers.proofs.Theorems.Within.{within_zero}
use Rattle.integers.proofs.Theorems.Bits.{fits_within, same_bits}
use Rattle.rasterize.specs.Added.{added, entry_of}
use Rattle.rasterize.specs.Views.{seen_by, part_table, Seen, seen_table, turned_by}
use Rattle.rasterize.proofs.Laws.Adding.{added_same, added_none}
use Rattle.rasterize.proofs.Laws.EdgeAdded.{measured_in}
use Rattle.rasterize.proofs.Laws.TurnedEdges.{seen_in_view, turned_seen, turned_entry}
use Rattle.rasterize.proofs.add_edge.Goals as goal

pub seen-requires : goal.seen-requires
seen-requires c = measured_in (seen_in_view c.requires.1)

pub add_whole-requires : goal.add_whole-requires
add_whole-requires c =
    let a = c.args in
    (c.requires.0, subst⁻¹ (Seen a.pass.view a.pass.depth) (c.turned-way.ensures ∙ ap (turned_by a.pass.sign) c.seen.ensures) (turned_seen a.pass.sign (seen_in_view c.requires.1)))

pub returns-then-pass-ne0 : goal.returns-then-pass-ne0
returns-then-pass-ne0 c =
    let a = c.args in
    c.add_whole.ensures
    ∙ ap (λ e. added a.table.now (entry_of a.pass.depth (seen_table a.pass.view a.pass.depth e))) (c.turned-way.ensures ∙ ap (turned_by a.pass.sign) c.seen.ensures)
    ∙ added_same a.table.now (entry_of a.pass.depth (seen_table a.pass.view a.pass.depth (turned_by a.pass.sign (seen_by a.pass.view a.e))))
    (λ i. a.pass.sign *ℤ entry_of a.pass.depth (part_table a.pass.view a.pass.depth a.e) i)
    (λ i h. turned_entry a.pass.view a.pass.depth (seen_by a.pass.view a.e) a.pass.sign a.pass.sign_within (λ e. c.if-pass-ne0.true (ap (of_z w64) e)) i)

-- with a sign of 0 nothing is added
pub returns-else-pass-ne0 : goal.returns-else-pass-ne0
returns-else-pass-ne0 c =
    let a = c.args in
    let none : a.pass.sign ≡ pos 0 = same_bits (fits_within {b = 1} tt a.pass.sign_within) (fits_within {b = 0} tt (within_zero 0)) c.if-pass-ne0.false in
    sym (added_none a.table.now (λ i. a.pass.sign *ℤ entry_of a.pass.depth (part_table a.pass.view a.pass.depth a.e) i)
    (λ i. ap (λ n. n *ℤ entry_of a.pass.depth (part_table a.pass.view a.pass.depth a.e) i) none
    ∙ ring (entry_of a.pass.depth (part_table a.pass.view a.pass.depth a.e) i ∷ []) (search read depth 40) tt))
