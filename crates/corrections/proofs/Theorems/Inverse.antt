-- "Putting in adds a contour's rounded values to the table; taking out is its inverse." Of any tile, whatever it holds, alone or on a sheet: where the one is not
-- refused, the other, at the same site and with the same points and placement, is not refused then, and leaves table and record as they were before both.
--
-- Main results
--   put_then-take                taking out what was put in
--   take-then_put                putting back what was taken out: where the record counted no more edges than the most, since else question 5 refuses it
use Rattle.std.specs.Prelude.{◌≡◌, List, [], ◌∷◌, ℕ, ◌+◌, ◌*◌, ◌≤◌, ℤ, ◌*ℤ◌}
use Rattle.std.proofs.Common.{◌∙◌, ap, arith}
use Rattle.std.proofs.Math.Path.{ap₂}
use Rattle.std.proofs.Math.Bool.{◌&&◌}
use borrow.Author.Tests.{le-leb}
use Rattle.std.proofs.Math.ListN.{length}
use Rattle.integers.specs.Units.{most_edges}
use Rattle.integers.specs.ListSum.{tally}
use Rattle.integers.proofs.Theorems.Tests.{and_true_means}
use Rattle.placement.specs.declared.Placement.{Placement}
use Rattle.accuracy.specs.Outline.{edge_count}
use Rattle.rasterize.specs.Added.{added}
use Rattle.rasterize.proofs.Laws.Adding.{added-length, added_undone}
use Rattle.tile.specs.Questions.{question9}
use Rattle.tile.proofs.Theorems.Refusals.{question2_means}
use Rattle.tile.proofs.Laws.IfDone.{if_done_lem}
use Rattle.sheet.specs.declared.Site.{Site}
use Rattle.sheet.specs.Sites.{tile_side}
use Rattle.corrections.specs.declared.Change.{Change}
use Rattle.corrections.specs.declared.Change.TheVariants.{Put, Take}
use Rattle.corrections.specs.Corrections.{Tile, Call, tile_of, call_of, contour_of, part, sign_of, already_in, taken_out, would_leave, edges_after, correct_refusal, corrected}
use Rattle.corrections.proofs.Theorems.CorrectingRefusals.{question13_means}
use Rattle.corrections.proofs.Laws.Answered.{AcceptedCall, call_accepted}
use Rattle.corrections.proofs.Laws.AskedContour.{opposite, sign-opposite, few_edges}

-- ---- what a change does, the opposite one undoes
module _ (count edges : ℕ) where
  pub few_again : (c : Change) → edges ≤ most_edges → already_in c edges + count ≤ most_edges → taken_out c count ≤ edges
      → already_in (opposite c) (edges_after c count edges) + count ≤ most_edges
  few_again Put room few out = omega (arith, few)
  few_again Take room few out = omega (arith, room, out)

  pub counted_again : (c : Change) → taken_out (opposite c) count ≤ edges_after c count edges
  counted_again Put = omega arith
  counted_again Take = omega arith

  pub edges_again : (c : Change) → taken_out c count ≤ edges → edges_after (opposite c) count (edges_after c count edges) ≡ edges
  edges_again Put out = omega arith
  edges_again Take out = omega (arith, out)

-- ---- so does the call
module _ (change : Change) (site : Site) (points : List ℤ) (count : ℕ) (placement : Placement) (t : Tile)
    (done : correct_refusal (call_of change site points count placement) t ≡ 0) (room : t.edges ≤ most_edges) where
  abbrev k : Call
  k = call_of change site points count placement

  abbrev back : Call
  back = call_of (opposite change) site points count placement

  abbrev left : Tile
  left = tile_of (would_leave k t) (edges_after change count t.edges)

  accepted : AcceptedCall k t
  accepted = (call_accepted k t).0 done

  left_is : corrected k t ≡ left
  left_is = if_done_lem _ t done

  restored : would_leave back left ≡ t.table
  restored =
      ap (λ s. added (would_leave k t) (λ i. s *ℤ part site (contour_of k) i)) (sign-opposite change) ∙ added_undone t.table (sign_of change) (part site (contour_of k))

  out : taken_out change count ≤ t.edges
  out = (question13_means (taken_out change count) t.edges).0 accepted.yes13

  accepted-back : correct_refusal back left ≡ 0
  unfolding tally
  accepted-back =
      let y = accepted.about in
      let nine = (and_true_means (question9 t.table).answer (question9 (would_leave k t)).answer).0 accepted.yes9 in
      let few = few_again count t.edges change room (few_edges k t y) out in
      let long : length (would_leave k t) ≡ tile_side site * tile_side site = added-length t.table _ ∙ (question2_means (tile_side site) t.table).0 y.yes2 in
      (call_accepted back left).1
      (record {
        about = record {
          site = y.site;
          yes2 = (question2_means (tile_side site) left.table).1 long;
          yes4 = y.yes4;
          yes5 = le-leb (already_in (opposite change) (edges_after change count t.edges) + edge_count (count ∷ [])) most_edges (omega (arith, few));
          yes3 = y.yes3;
          yes12 = y.yes12;
          yes6 = y.yes6;
        };
        yes13 = le-leb (taken_out (opposite change) count) (edges_after change count t.edges) (counted_again count t.edges change);
        yes9 = ap₂ ◌&&◌ nine.1 (ap (λ l. (question9 l).answer) restored ∙ nine.0);
      })

  undone : (correct_refusal back (corrected k t) ≡ 0) × (corrected back (corrected k t) ≡ t)
  undone = (
    ap (correct_refusal back) left_is ∙ accepted-back,
    ap (corrected back) left_is ∙ if_done_lem _ left accepted-back ∙ ap₂ tile_of restored (edges_again count t.edges change out),
  )

module _ (site : Site) (points : List ℤ) (count : ℕ) (placement : Placement) (t : Tile) where
  abbrev put_in : Call
  put_in = call_of Put site points count placement

  abbrev take_out : Call
  take_out = call_of Take site points count placement

  pub put_then-take : correct_refusal put_in t ≡ 0 → (correct_refusal take_out (corrected put_in t) ≡ 0) × (corrected take_out (corrected put_in t) ≡ t)
  put_then-take done =
      let few = few_edges put_in t ((call_accepted put_in t).0 done).about in
      undone Put site points count placement t done (omega (arith, few))

  pub take-then_put : t.edges ≤ most_edges → correct_refusal take_out t ≡ 0
      → (correct_refusal put_in (corrected take_out t) ≡ 0) × (corrected put_in (corrected take_out t) ≡ t)
  take-then_put room done = undone Take site points count placement t done room
