-- A run edge by edge, in its cell and below.
--
-- Main results
--   along_start, along-step       no edge yet; one more
--   run_view, run_measured        the contour's edges are in view, and in range
--   along_starts, along_on        the next edge begins where the run has come to, and lies on the cell where its end does
--   along_asks, along_small       what adding the next edge asks for; its part of the root is small
use mathlib.Core.Path.{◌≡◌, refl, sym, ◌∙◌, ap, ap₂, subst, subst⁻¹}
use mathlib.Core.Bool.{true, cond}
use mathlib.Core.List.{List, [], ◌∷◌}
use Prim.Native.Nat.{ℕ, zero, suc, ◌+◌, ◌*◌, ◌-◌, ◌/◌, ◌^◌, ◌<◌, ◌≤◌}
use native.Mathlib.Omega.{arith}
use lib.ListN.{length}
use lib.IntN.{ℤ, pos, negsuc, ◌+ℤ◌, ◌-ℤ◌}
use borrow.Author.Tests.{lt-ltb}
use Rattle.integers.specs.Units.{greatest_depth, detail_limit}
use Rattle.integers.proofs.Theorems.Ring.{read, ring, comb, ◌⊕◌, ◌⊗◌}
use Rattle.integers.specs.Within.{Within}
use Rattle.integers.proofs.Theorems.Within.{within_is, within_zero, within_add}
use Rattle.integers.specs.RangeSum.{Σ<}
use Rattle.integers.proofs.Theorems.RangeSum.{Σ-zero, Σ-suc}
use Rattle.edge.specs.declared.Edge.{Edge}
use Rattle.edge.specs.Room.{Measured}
use Rattle.edge.specs.Nested.{OnRange, OnCell}
use Rattle.edge.specs.Rounded.{root_term}
use Rattle.haar.specs.Cells.{children}
use Rattle.haar.specs.Plane.{dimensions, at}
use Rattle.accuracy.specs.Outline.{Point, point_at, edge_between}
use Rattle.accuracy.specs.Tile.{cell_width, square, CellOf}
use Rattle.rasterize.specs.declared.Spot.{Spot}
use Rattle.rasterize.specs.declared.View.TheVariants.{Alone}
use Rattle.rasterize.specs.Added.{added, at_root, entry_of}
use Rattle.rasterize.specs.Nodes.{node_at}
use Rattle.rasterize.specs.Contribution.{contribution}
use Rattle.rasterize.specs.Ready.{visits, Spare, OnSheet, ReadyIn}
use Rattle.rasterize.specs.Views.{part_table, InView}
use Rattle.rasterize.proofs.Laws.Adding.{added-length, added_same, added-added, added-both, added_none}
use Rattle.rasterize.proofs.Laws.Spare.{spare_le, spare_added}
use Rattle.rasterize.proofs.Laws.Contributions.{contribution_within}
use Rattle.rasterize.proofs.Laws.EdgeAdded.{measured_in, edge_entry_lem}
use Rattle.rasterize.proofs.Laws.TurnedEdges.{seen_in_view}
use Rattle.contours.specs.declared.Run.{Run}
use Rattle.contours.specs.Contour.{edge_of, edge_entry, edges_from}
use Rattle.contours.specs.Runs.{run_levels, widest_run, longest_run, triangle_limit, run_square, run_node, triangle, above, RunReady, chord_of, Along}
use Rattle.contours.specs.Laws.ContourEdges.{edge_of-has}
use Rattle.contours.specs.Laws.RunDetails.{on_cell_join}
use Rattle.contours.specs.Laws.Runs.{above_none}
use Rattle.contours.specs.Laws.RunsAdded.{on_sheet_at, contribution-join}
use Rattle.contours.specs.Laws.RunBounds.{triangle_small}
use Rattle.contours.specs.Laws.RunCells.{run_width, run-square}

at_root_lem : {z : ℤ} → Within (pos detail_limit) z → (i : ℕ) → Within (pos detail_limit) (at_root z i)
at_root_lem w zero = w
at_root_lem w (suc i) = within_zero detail_limit

root_none : (s : Point) → root_term (edge_between s s) ≡ pos 0
unfolding root_term
root_none s = ring (s.x ∷ s.y ∷ []) (search read depth 40) tt

module _ {t points : List ℤ} {depth k : ℕ} {c : Spot} (ready : RunReady t points depth k c) where
  abbrev n : ℕ
  n = length points / 2

  abbrev first : Point
  first = point_at points k

  cell_of_lem : CellOf depth c.level c.x c.y
  cell_of_lem = record { level_to_depth = omega (arith, ready.level); x_below = ready.x_below; y_below = ready.y_below }

  narrow : cell_width depth c.level ≤ widest_run
  narrow = omega (arith, run_width depth c.level ready.level)

  on_square : {e : Edge} → OnCell (run_square c) e → OnCell (square depth c.level (at c.x c.y)) e
  on_square {e} o = subst (λ s. OnCell s e) (run-square c ready.level) o

  below_levels : depth - c.level ≡ run_levels
  below_levels = omega (arith, ready.level)

  -- ---- before the first edge
  first_on : OnCell (run_square c) (edge_between first first)
  first_on = let o = ready.on in record { x0 = o.x0; y0 = o.y0; x1 = o.x0; y1 = o.y0 }

  pub along_start : {e : Edge} {r : Run} → e ≡ edge_of points n k → r ≡ record { next = k; x = e.x0; y = e.y0; sum = pos 0 } → Along depth points k c t t r
  along_start {e} {r} i j = subst⁻¹ (Along depth points k c t t) is (record {
    from = omega arith;
    to = omega (arith, ready.from);
    short = omega arith;
    at_end = ap (λ b. point_at points (cond b k 0)) {x = true} (sym (lt-ltb k n ready.from));
    on = first_on;
    sums = within_zero _;
    small = within_is refl (sym flat) (within_zero _);
    spare = spare_le (omega arith) ready.spare;
    rest = added_none t _ (λ m. ap (λ a. above (edge_between first first) a depth c.level c.x c.y m) flat ∙ above_none c.level c.x c.y cell_of_lem.level_to_depth (on_square first_on) m)
        ∙ sym (ap (λ u. added t (edges_from Alone depth points k u)) nothing ∙ added_none t _ (λ m. Σ-zero (λ u. edge_entry Alone depth points m (k + u))));
  })
    where
      is : r ≡ record { next = k; x = first.x; y = first.y; sum = pos 0 }
      is = j ∙ ap (λ (d : Edge). record { next = k; x = d.x0; y = d.y0; sum = pos 0 }) i

      flat : pos 0 -ℤ root_term (edge_between first first) ≡ pos 0
      flat = ap (λ z. pos 0 -ℤ z) (root_none first)

      nothing : k - k ≡ 0
      nothing = omega arith

  -- ---- an edge of the contour
  pub run_view : {e : Edge} {j : ℕ} → j < n → e ≡ edge_of points n j → InView Alone depth e
  run_view {j = j} h w = subst⁻¹ (InView Alone depth) w (edge_of-has points (InView Alone depth) ready.in_view j h)

  pub run_measured : {e : Edge} {j : ℕ} → j < n → e ≡ edge_of points n j → Measured e
  run_measured h w = measured_in (seen_in_view (run_view h w))

  pub along_long : {table : List ℤ} {r : Run} → Along depth points k c t table r → length table ≡ length t
  along_long {table} {r} l =
      sym (added-length table (above (chord_of points k r) (r.sum -ℤ root_term (chord_of points k r)) depth c.level c.x c.y)) ∙ ap length l.rest
      ∙ added-length t (edges_from Alone depth points k (r.next - k))

  -- the run's last point, where the next edge begins
  pub along_starts : {table : List ℤ} {r : Run} → Along depth points k c t table r → r.next < n → record { x = r.x; y = r.y } ≡ point_at points r.next
  along_starts {r = r} l h = l.at_end ∙ ap (λ b. point_at points (cond b r.next 0)) (lt-ltb r.next n h)

  -- so the next edge lies on the cell where its end does
  pub along_on : {table : List ℤ} {r : Run} (l : Along depth points k c t table r) → r.next < n → {e : Edge} → e ≡ edge_of points n r.next
      → OnRange (run_square c).left (run_square c).width e.x1 × OnRange (run_square c).top (run_square c).width e.y1 → OnCell (run_square c) e
  along_on {r = r} l h {e} w o = record {
    x0 = subst (OnRange (run_square c).left (run_square c).width) (ap (λ (p : Point). p.x) from) l.on.x1;
    y0 = subst (OnRange (run_square c).top (run_square c).width) (ap (λ (p : Point). p.y) from) l.on.y1;
    x1 = o.0;
    y1 = o.1;
  }
    where
      from : ◌≡◌ {A = Point} (record { x = r.x; y = r.y }) (record { x = e.x0; y = e.y0 })
      from = along_starts l h ∙ sym (ap (λ (d : Edge). record { x = d.x0; y = d.y0 }) w)

  -- ---- one edge more
  module _ {table : List ℤ} {r : Run} (l : Along depth points k c t table r) (h : r.next < n) {e : Edge} (w : e ≡ edge_of points n r.next) (o : OnCell (run_square c) e) where
    view : InView Alone depth e
    view = run_view h w

    on_tile : OnSheet e depth (node_at depth 0 0 0).square
    on_tile = view.on_sheet

    pub along_small : Within (pos detail_limit) (root_term e)
    along_small = view.small.root_within

    abbrev area : ℤ
    area = r.sum -ℤ root_term (chord_of points k r)

    abbrev pending : ℕ → ℤ
    pending = above (chord_of points k r) area depth c.level c.x c.y

    as_long : length table ≡ children dimensions ^ depth
    as_long = along_long l ∙ ready.exact

    room : Spare table (1 + visits (depth - c.level))
    unfolding visits
    room = subst⁻¹ (λ m. Spare table (1 + visits m)) below_levels (spare_le (omega (arith, l.from, l.short)) l.spare)

    pub along_asks : ReadyIn table e depth (run_node depth c)
    along_asks = record {
      shallow = ready.shallow;
      exact = as_long;
      level_to_depth = cell_of_lem.level_to_depth;
      x_below = ready.x_below;
      y_below = ready.y_below;
      of_tile = refl;
      spare = room;
      on_sheet = on_sheet_at on_tile c.level c.x c.y cell_of_lem;
      on = on_square o;
      root = along_small;
    }

    abbrev middle : Point
    middle = record { x = r.x; y = r.y }

    abbrev last : Point
    last = record { x = e.x1; y = e.y1 }

    edge_is : e ≡ edge_between middle last
    edge_is = ap (λ (d : Edge). edge_between (record { x = d.x0; y = d.y0 }) last) w ∙ ap (λ p. edge_between p last) (sym (along_starts l h))

    on_edge : OnCell (run_square c) (edge_between middle last)
    on_edge = subst (OnCell (run_square c)) edge_is o

    chord_on : OnCell (run_square c) (edge_between first last)
    chord_on = on_cell_join l.on on_edge

    -- what the edge adds in the cell and below, with its part of the root
    abbrev below : ℕ → ℤ
    below i = at_root (root_term e) i +ℤ contribution e (depth - c.level) (run_node depth c) i

    below_within : (i : ℕ) → Within (pos ((1 + visits run_levels) * detail_limit)) (below i)
    below_within i = within_is size refl (within_add (at_root_lem along_small i) (contribution_within (depth - c.level) (run_node depth c) (on_sheet_at on_tile c.level c.x c.y cell_of_lem) i))
      where
        size : pos detail_limit +ℤ pos (visits (depth - c.level) * detail_limit) ≡ pos ((1 + visits run_levels) * detail_limit)
        size = ap (λ m. pos (detail_limit + visits m * detail_limit)) below_levels ∙ ap pos (omega arith)

    abbrev gained : ℤ
    gained = area +ℤ triangle first middle last

    gained_is : (r.sum +ℤ root_term e) -ℤ root_term (edge_between first last) ≡ gained
    gained_is =
        ap (λ d. (r.sum +ℤ root_term d) -ℤ root_term (edge_between first last)) edge_is
        ∙ ring (r.sum ∷ root_term (edge_between middle last) ∷ root_term (edge_between first last) ∷ root_term (edge_between first middle) ∷ []) (search read depth 40) tt

    one_more : (r.next + 1) - k ≡ suc (r.next - k)
    one_more = omega (arith, l.from)

    -- what is pending and the whole edge are what is pending then and what the edge has added
    joined : (i : ℕ) → pending i +ℤ contribution e depth (node_at depth 0 0 0) i
        ≡ above (edge_between first last) gained depth c.level c.x c.y i +ℤ contribution e (depth - c.level) (run_node depth c) i
    joined i =
        subst⁻¹ (λ d. pending i +ℤ contribution d depth (node_at depth 0 0 0) i
        ≡ above (edge_between first last) gained depth c.level c.x c.y i +ℤ contribution d (depth - c.level) (run_node depth c) i) edge_is
        (contribution-join c.level c.x c.y cell_of_lem area (subst (λ d. OnSheet d depth (node_at depth 0 0 0).square) edge_is on_tile) (on_square l.on) (on_square on_edge) i)

    -- what the edge adds in all
    abbrev whole : ℕ → ℤ
    whole = entry_of depth (part_table Alone depth e)

    abbrev then : ℕ → ℤ
    then = above (edge_between first last) gained depth c.level c.x c.y

    regrouped : (i : ℕ) → i < length table → below i +ℤ then i ≡ pending i +ℤ whole i
    regrouped i q =
        let root = at_root (root_term e) i in
        let all = contribution e depth (node_at depth 0 0 0) i in
        let here = contribution e (depth - c.level) (run_node depth c) i in
        comb (root ∷ here ∷ then i ∷ pending i ∷ whole i ∷ all ∷ []) (negsuc 0 ⊗ joined i ⊕ pos 1 ⊗ edge_entry_lem Alone depth e i (omega (arith, q, as_long))) (search read depth 40) tt

    counted : (i : ℕ) → edges_from Alone depth points k (r.next - k) i +ℤ whole i ≡ edges_from Alone depth points k ((r.next + 1) - k) i
    counted i =
        let f : ℕ → ℤ = λ u. edge_entry Alone depth points i (k + u) in
        let here : r.next ≡ k + (r.next - k) = omega (arith, l.from) in
        ap (λ z. Σ< (r.next - k) f +ℤ z) (ap (λ d. entry_of depth (part_table Alone depth d) i) w ∙ ap (edge_entry Alone depth points i) here)
        ∙ sym (ap (λ m. Σ< m f) one_more ∙ Σ-suc (r.next - k) f)

    pub along-step : {after : List ℤ} {r' : Run} → r.next < k + longest_run → after ≡ added table below
        → r' ≡ record { next = r.next + 1; x = e.x1; y = e.y1; sum = r.sum +ℤ root_term e } → Along depth points k c t after r'
    unfolding visits
    along-step {after} {r'} m i j = subst⁻¹ (Along depth points k c t after) j (record {
      from = omega (arith, l.from);
      to = omega arith;
      short = omega arith;
      at_end = ap (λ (d : Edge). record { x = d.x1; y = d.y1 }) w;
      on = chord_on;
      sums = within_is (ap pos {y = ((r.next + 1) - k) * detail_limit} (omega (arith, one_more))) refl (within_add l.sums along_small);
      small = within_is (ap pos {y = ((r.next + 1) - k) * triangle_limit} (omega (arith, one_more))) (sym gained_is)
          (within_add l.small (triangle_small depth c.level c.x c.y narrow (on_square l.on) (on_square on_edge)));
      spare = subst⁻¹ (λ u. Spare u left) i (spare_added (1 + visits run_levels) left below (λ q f. below_within q) (spare_le enough l.spare));
      rest = ap₂ (λ u a. added u (above (edge_between first last) a depth c.level c.x c.y)) i gained_is
          ∙ added-added table below then
          ∙ added_same table (λ q. below q +ℤ then q) (λ q. pending q +ℤ whole q) regrouped
          ∙ sym (added-added table pending whole)
          ∙ ap (λ u. added u whole) l.rest
          ∙ added-both t (edges_from Alone depth points k (r.next - k)) whole (edges_from Alone depth points k ((r.next + 1) - k)) (λ q f. counted q);
    })
      where
        left : ℕ
        left = visits greatest_depth - (1 + visits run_levels) * ((r.next + 1) - k)

        enough : (1 + visits run_levels) + left ≤ visits greatest_depth - (1 + visits run_levels) * (r.next - k)
        enough = omega (arith, one_more, l.from)
