-- What an edge adds in the whole quadtree is the edge's table, entry by entry: every entry but the root's is a detail of exactly one cell, and the
-- quadtree has that cell once.
--
-- Main results
--   own_part_cell                what a cell's own details add to a detail's entry: that detail if the cell is its own, and else 0
--   contribution-covers          what an edge adds there in a cell and below it: the detail if its cell is covered, and else 0
--   contribution_detail          so in the whole tile it adds the detail
--   contribution-root            no cell adds anything to the root
--   edge-entries                 in the whole tile an edge adds the entries of its table, but for the root
use Rattle.std.specs.Prelude.{◌≡◌, refl, [], ◌∷◌, ◌≢◌, ℕ, zero, suc, ◌+◌, ◌*◌, ◌-◌, ◌/◌, ◌%◌, ◌^◌, ◌<◌, ◌≤◌, ℤ, pos, negsuc, ◌+ℤ◌, ◌*ℤ◌}
use Rattle.std.proofs.Common.{sym, ◌∙◌, ap, ap₂, arith, pow_pos}
use Rattle.std.proofs.Math.IntN.{*ℤ-zero}
use Rattle.integers.proofs.Theorems.Ring.{read, ring, comb, ◌⊗◌}
use Rattle.integers.specs.RangeSum.{Σ<}
use Rattle.integers.proofs.Theorems.RangeSum.{Σ_cong, Σ_scale, Σ_const}
use Rattle.edge.specs.declared.Edge.{Edge}
use Rattle.edge.specs.declared.Details.{Details}
use Rattle.edge.specs.Rounded.{details}
use Rattle.haar.specs.Cells.{children, Cell, details as detail_count}
use Rattle.haar.specs.Table.{index}
use Rattle.haar.specs.Plane.{dimensions, h_detail, at}
use Rattle.haar.proofs.Laws.Layout.{IsDetail, index-pos, SameDetail, index_injective, index-onto, index_plane}
use Rattle.haar.proofs.Laws.Entries.{entries_detail}
use Rattle.accuracy.specs.Tile.{square}
use Rattle.accuracy.specs.ExactDetails.{numbered}
use Rattle.accuracy.specs.OutlineTable.{edge_table, rooted_table}
use Rattle.accuracy.proofs.Laws.Numbered.{numbered_none}
use Rattle.rasterize.specs.declared.Node.{Node}
use Rattle.rasterize.specs.Nodes.{quarters, quarter_node, node_at}
use Rattle.rasterize.specs.Contribution.{first_detail, own_part, contribution}
use Rattle.rasterize.specs.Added.{entry_of}
use Rattle.rasterize.proofs.Laws.Nodes.{quarter_node_at, quarter-below}
use Rattle.rasterize.proofs.Laws.Covering.{indicator, indicator_choose, covers, covers-quarters, covers_coarser, covers-tile}

-- ---- one cell
-- a cell's details stand one after the other: how far an entry is from the first is the number of its detail, and says where it stands
detail_number : (j x y k : ℕ) → 1 ≤ k → suc (index dimensions j (at x y) k) - index dimensions j (at x y) h_detail ≡ k
detail_number j x y k h = omega (arith, index_plane j x y k, index_plane j x y h_detail)

number_detail : (j x y i : ℕ) → 1 ≤ suc i - index dimensions j (at x y) h_detail
    → i ≡ index dimensions j (at x y) (suc i - index dimensions j (at x y) h_detail)
number_detail j x y i h =
    let first = index dimensions j (at x y) h_detail in
    omega (arith, index_plane j x y (suc i - first), index_plane j x y h_detail)

-- nothing, for an entry that is none of the cell's own details
own_part_none : (w : Details) (j x y i : ℕ) → ((k : ℕ) → 1 ≤ k → k ≤ detail_count dimensions → i ≢ index dimensions j (at x y) k)
    → own_part w (index dimensions j (at x y) h_detail) i ≡ pos 0
own_part_none w j x y i h =
    let k = suc i - index dimensions j (at x y) h_detail in
    numbered_none w k (λ f l. h k f l (number_detail j x y i f))

-- of any details w of the cells
pub own_part_cell : (w : ℕ → Cell dimensions → Details) (j x y : ℕ) {L X Y k : ℕ} → x < 2 ^ j → y < 2 ^ j → IsDetail dimensions L (at X Y) k
    → own_part (w j (at x y)) (index dimensions j (at x y) h_detail) (index dimensions L (at X Y) k)
    ≡ indicator L j *ℤ (indicator X x *ℤ (indicator Y y *ℤ numbered (w L (at X Y)) k))
own_part_cell w j x y {L} {X} {Y} {k} p q d =
    indicator_choose L j (λ e. indicator_choose X x (λ f. indicator_choose Y y (same e f) (λ g. other (λ m s. g (ap (λ c. c.1.0) s.same_cell))))
    (λ f. other (λ m s. f (ap (λ c. c.0) s.same_cell)))) (λ e. other (λ m s. e s.same_level))
  where
    own : ℕ → ℕ → ℕ → ℤ
    own l a b = own_part (w l (at a b)) (index dimensions l (at a b) h_detail) (index dimensions L (at X Y) k)

    same : L ≡ j → X ≡ x → Y ≡ y → own j x y ≡ numbered (w L (at X Y)) k
    same e f g =
        sym (ap₂ (own L) f g ∙ ap (λ l. own l x y) e) ∙ ap (numbered (w L (at X Y))) (detail_number L X Y k d.first)

    other : ((m : ℕ) → SameDetail dimensions L (at X Y) k j (at x y) m → ⊥) → own j x y ≡ pos 0
    other h =
        own_part_none (w j (at x y)) j x y (index dimensions L (at X Y) k)
        (λ m f l r. h m (index_injective d (record { inside = (p, (q, tt)); first = f; last = l }) r))

-- ---- the quadtree, by the levels left
pub contribution-covers : (e : Edge) {depth L X Y k : ℕ} → L < depth → IsDetail dimensions L (at X Y) k
    → (left j x y : ℕ) → j + left ≡ depth → x < 2 ^ j → y < 2 ^ j
    → contribution e left (node_at depth j x y) (index dimensions L (at X Y) k)
    ≡ (edge_table depth e).detail L (at X Y) k *ℤ covers j x y L X Y
unfolding contribution
contribution-covers e {depth} {L} {X} {Y} {k} h d zero j x y s p q =
    let v = (edge_table depth e).detail L (at X Y) k in
    sym (ap (λ z. v *ℤ z) (covers_coarser j x y L X Y (omega arith)) ∙ *ℤ-zero v)
contribution-covers e {depth} {L} {X} {Y} {k} h d (suc left) j x y s p q =
    let v = (edge_table depth e).detail L (at X Y) k in
    let i = index dimensions L (at X Y) k in
    let below : ℕ → ℤ = λ r. covers (suc j) (2 * x + r % 2) (2 * y + r / 2) L X Y in
    ap₂ ◌+ℤ◌ (own_part_cell (λ l cell. details e (square depth l cell)) j x y p q d)
    (Σ_cong quarters _ (λ r. v *ℤ below r) (λ r t. ap (λ c. contribution e left c i) (quarter_node_at depth j x y r (omega arith) t)
    ∙ contribution-covers e h d left (suc j) (2 * x + r % 2) (2 * y + r / 2) (omega arith)
    (quarter-below j p (omega arith)) (quarter-below j q (omega arith)))
    ∙ Σ_scale quarters v below)
    ∙ comb (v ∷ indicator L j ∷ indicator X x ∷ indicator Y y ∷ Σ< quarters below ∷ covers j x y L X Y ∷ []) ((negsuc 0 *ℤ v) ⊗ covers-quarters j x y L X Y)
    (search read depth 40) tt

pub contribution_detail : (e : Edge) (depth L X Y k : ℕ) → L < depth → IsDetail dimensions L (at X Y) k
    → contribution e depth (node_at depth 0 0 0) (index dimensions L (at X Y) k) ≡ (edge_table depth e).detail L (at X Y) k
contribution_detail e depth L X Y k h d =
    let v = (edge_table depth e).detail L (at X Y) k in
    contribution-covers e h d depth 0 0 0 (omega arith) (pow_pos 0) (pow_pos 0)
    ∙ ap (λ z. v *ℤ z) (covers-tile L X Y d.inside.0 d.inside.1.0) ∙ ring (v ∷ []) (search read depth 40) tt

pub contribution-root : (e : Edge) (left : ℕ) (c : Node) → contribution e left c 0 ≡ pos 0
unfolding contribution
contribution-root e zero c = refl
contribution-root e (suc left) c =
    let after = index-pos dimensions c.level (at c.x c.y) h_detail in
    ap₂ ◌+ℤ◌ (numbered_none (details e c.square) (1 - first_detail c) (λ f l. omega (arith, after)))
    (Σ_cong quarters _ (λ q. pos 0) (λ q h. contribution-root e left (quarter_node c q)) ∙ Σ_const quarters (pos 0))

-- ---- the table
pub edge-entries : (root : ℤ) (e : Edge) (depth i : ℕ) → 1 ≤ i → i < children dimensions ^ depth
    → contribution e depth (node_at depth 0 0 0) i ≡ entry_of depth (rooted_table root depth e) i
edge-entries root e depth i l h =
    let d = index-onto dimensions depth i l h in
    let cell = d.cell in
    ap (contribution e depth (node_at depth 0 0 0)) d.at
    ∙ contribution_detail e depth d.level cell.0 cell.1.0 d.number d.below d.is_detail
    ∙ sym (ap (entry_of depth (rooted_table root depth e)) d.at ∙ entries_detail (rooted_table root depth e) d.below d.is_detail)
