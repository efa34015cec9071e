-- Laws of what specs/TableEntries.antt defines. The head of that file lists the main results.
use Rattle.std.specs.Prelude.{◌≡◌, refl, List, [], ℕ, suc, ◌+◌, ◌*◌, ◌-◌, ◌/◌, ◌%◌, ◌^◌, ◌<◌, ◌≤◌, length, get_or, replicate, ℤ, pos, ◌+ℤ◌, ◌*ℤ◌}
use Rattle.std.proofs.Common.{sym, ◌∙◌, ap, subst, lit≤}
use Rattle.std.proofs.Math.Path.{subst⁻¹}
use Rattle.std.proofs.Math.Nat.{one-le-pow}
use Rattle.std.proofs.lemmas.List.{length-replicate, get_or-replicate}
use Rattle.integers.specs.ListSum.{total, tally}
use Rattle.edge.specs.Rounded.{details}
use Rattle.haar.specs.Cells.{children}
use Rattle.haar.specs.Table.{index}
use Rattle.haar.specs.Plane.{dimensions, quarter_details, at}
use Rattle.haar.proofs.Laws.Layout.{index-onto, index_plane, index_within}
use Rattle.haar.proofs.Laws.Entries.{entries-root, entries_detail, entries_unique}
use Rattle.accuracy.specs.Outline.{contours_of, edge_count, outline_edges, signed_area}
use Rattle.accuracy.specs.Tile.{square}
use Rattle.accuracy.specs.ExactArea.{denominator, exact_area_num}
use Rattle.accuracy.specs.ExactDetails.{numbered, exact_detail_num, QuarterDifferences}
use Rattle.accuracy.specs.OutlineTable.{outline_table}
use Rattle.tile.specs.Questions.{depth_of, Yes, question1}
use Rattle.tile.specs.Outcomes.{edges_of, table_of, build_refusal, build_table}
use Rattle.tile.proofs.Theorems.Refusals.{building_refusals, question2_means}
use Rattle.tile.proofs.Laws.Sides.{side_cells}
use Rattle.tile.proofs.Laws.Accepted.{accepted, accepted-count, accepted_alone}
use Rattle.tile.proofs.Laws.BuiltTable.{built_is, table_length_lem}
use Rattle.tile.specs.TableEntries.{DetailEntry}

module _ (side : ℕ) (points : List ℤ) (counts : List ℕ) (before : List ℤ) (done : build_refusal side points counts before ≡ 0) where
  pub built_length : length (build_table side points counts before) ≡ side * side
  built_length =
      ap length (built_is side points counts before done) ∙ table_length_lem side (edges_of points counts) (accepted side points counts before done).is_side

  pub built_root_lem : get_or (build_table side points counts before) 0 (pos 0) ≡ signed_area (edges_of points counts)
  built_root_lem =
      ap (λ t. get_or t 0 (pos 0)) (built_is side points counts before done)
      ∙ entries-root dimensions (depth_of side) (outline_table (depth_of side) (edges_of points counts))

  -- "Cell (cx, cy) of level j below the depth has three entries from 4^j + 3 × (cy × 2^j + cx) on": h, v and d are details 1, 2 and 3. `details e s`
  -- are the three that edge e has in the square s, each rounded, halves away from zero, and `numbered` picks one.
  pub built_detail : (j cx cy k : ℕ) → j < depth_of side → cx < 2 ^ j → cy < 2 ^ j → 1 ≤ k → k ≤ 3
      → get_or (build_table side points counts before) (4 ^ j + 3 * (cy * 2 ^ j + cx) + (k - 1)) (pos 0)
      ≡ total (λ e. numbered (details e (square (depth_of side) j (at cx cy))) k) (edges_of points counts)
  built_detail j cx cy k h x y first last =
      ap (λ t. get_or t (4 ^ j + 3 * (cy * 2 ^ j + cx) + (k - 1)) (pos 0)) (built_is side points counts before done)
      ∙ ap (λ i. get_or (table_of side points counts) i (pos 0)) (sym (index_plane j cx cy k))
      ∙ entries_detail (outline_table (depth_of side) (edges_of points counts)) h (record { inside = (x, (y, tt)); first = first; last = last })

  -- the root, "the signed area of the whole outline", is the exact area of the tile; and the exact details, the sums over the edges before rounding,
  -- lead from a cell's exact area to its quarters'
  pub exact-whole :
      exact_area_num (depth_of side) (edges_of points counts) 0 (at 0 0) ≡ signed_area (edges_of points counts) *ℤ pos (denominator (edges_of points counts))
  exact-whole = (accepted_alone (accepted side points counts before done)).whole

  pub exact_quarter : (j cx cy : ℕ) → j < depth_of side
      → pos 4 *ℤ exact_area_num (depth_of side) (edges_of points counts) (suc j) (at cx cy)
      ≡ exact_area_num (depth_of side) (edges_of points counts) j (at (cx / 2) (cy / 2))
      +ℤ quarter_details (exact_detail_num (depth_of side) (edges_of points counts) j (at (cx / 2) (cy / 2))) (cx % 2) (cy % 2)
  exact_quarter = (accepted_alone (accepted side points counts before done)).accurate.quarter

  -- "h: area in the left half less area in the right half; v: upper half less lower half; d: upper left and lower right quarters, less the other two"
  pub exact_differences : (j cx cy : ℕ) → j < depth_of side
      → QuarterDifferences (λ a b. exact_area_num (depth_of side) (edges_of points counts) (suc j) (at (2 * cx + a) (2 * cy + b)))
      (exact_detail_num (depth_of side) (edges_of points counts) j (at cx cy))
  exact_differences = (accepted_alone (accepted side points counts before done)).accurate.differences

  pub edges_counted : length (edges_of points counts) ≡ edge_count counts
  edges_counted = accepted-count (accepted side points counts before done)

pub detail_entry : (side : ℕ) → Yes (question1 side) → (i : ℕ) → 1 ≤ i → i < side * side → DetailEntry (depth_of side) i
detail_entry side is_side i low high =
    let d = index-onto dimensions (depth_of side) i low (subst (λ (n : ℕ). i < n) (side_cells side is_side) high) in
    let g = d.is_detail in
    record {
      level = d.level;
      x = d.cell.0;
      y = d.cell.1.0;
      number = d.number;
      below = d.below;
      x_below = g.inside.0;
      y_below = g.inside.1.0;
      first = g.first;
      last = g.last;
      at = d.at ∙ index_plane d.level d.cell.0 d.cell.1.0 d.number;
    }

pub no_contour : (side : ℕ) (before : List ℤ) → Yes (question1 side) → length before ≡ side * side
    → (build_refusal side [] [] before ≡ 0) × (build_table side [] [] before ≡ replicate (side * side) (pos 0))
unfolding total tally contours_of outline_edges
no_contour side before is_side e =
    let done = (building_refusals side [] [] before).accepted.1 (is_side, ((question2_means side before).1 e, (refl, (refl, (refl, (refl, tt)))))) in
    (done, built_is side [] [] before done ∙ sym zeros)
  where
    zero_at : (i : ℕ) → i < children dimensions ^ depth_of side → get_or (replicate (side * side) (pos 0)) i (pos 0) ≡ pos 0
    zero_at i h = get_or-replicate (side * side) i (pos 0) (pos 0) (subst⁻¹ (λ (n : ℕ). i < n) (side_cells side is_side) h)

    zeros : replicate (side * side) (pos 0) ≡ table_of side [] []
    zeros =
        entries_unique dimensions (depth_of side) (outline_table (depth_of side) []) (replicate (side * side) (pos 0))
        (length-replicate (side * side) (pos 0) ∙ side_cells side is_side)
        (record {
          same_root = zero_at 0 (one-le-pow (depth_of side) (children dimensions) (lit≤ tt));
          same_detail = λ j h cell b k f l. zero_at (index dimensions j cell k) (index_within h (record { inside = b; first = f; last = l }));
        })
