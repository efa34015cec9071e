-- From a cell to its quarters: an edge and a square that lie on one sheet do so in each quarter. So wherever the recursion comes the edge
-- has room, and its details are small.
--
-- Main results
--   half≥0, twice                                    a square that can be halved once more: its width is twice half of it
--   on_sheet_width, on_sheet_even, on_sheet_room     so it is even, and the edge has room in it
--   on_sheet_details                                 and its details there are small
--   on_sheet_contains, on_sheet_quarter              its quarters lie in it, and on the sheet like it
--   quarter_on_sheet, quarter_outside                the same of quarter q of a cell; an edge outside the cell is outside the quarter
--   quarter-beside                                   an edge in one quarter is outside the others
use Rattle.std.specs.Prelude.{◌≡◌, [], ◌∷◌, ◌≢◌, ℕ, suc, ◌*◌, ◌/◌, ◌%◌, ◌^◌, ◌<◌, ℤ, pos, nat_abs, ◌+ℤ◌, ◌*ℤ◌, ◌≤ℤ◌}
use Rattle.std.proofs.Common.{sym, ◌∙◌, ap, arith, pow-suc}
use Rattle.std.proofs.Math.Decide.{ℕ_discrete}
use Rattle.integers.specs.Units.{width_times_extent_limit}
use Rattle.integers.proofs.Theorems.Order.{nonneg, ≤ℤ-mul}
use Rattle.integers.proofs.Theorems.Linear.{le, eq, ◌&◌, linear, lin≤}
use Rattle.edge.specs.declared.Edge.{Edge}
use Rattle.edge.specs.declared.Cell.{Cell as Square}
use Rattle.edge.specs.Inside.{Inside}
use Rattle.edge.specs.Room.{Even, Room}
use Rattle.edge.specs.Rounded.{details}
use Rattle.edge.specs.Nested.{Contains, OnCell, quarter}
use Rattle.edge.proofs.Laws.Cells.{contains_trans, contains_quarter, sheet_room, details_on}
use Rattle.edge.proofs.Laws.Zero.{inside_wider}
use Rattle.edge.proofs.Laws.Beside.{other_column, other_row}
use Rattle.rasterize.specs.declared.Node.{Node}
use Rattle.rasterize.specs.Nodes.{quarters, half_width, quarter_node}
use Rattle.rasterize.specs.Ready.{SmallDetails, OnSheet}
use Rattle.rasterize.proofs.Laws.Nodes.{half_width_is}

-- ---- a square that can be halved once more
module _ {e : Edge} {left : ℕ} {s : Square} (p : OnSheet e (suc left) s) where
  abbrev half : ℤ
  half = pos (2 ^ left * p.finest)

  width_is : s.width ≡ half +ℤ half
  width_is = p.halves ∙ ap pos (omega (arith, ap (λ n. n * p.finest) (pow-suc 2 left)))

  half_is : half ≡ half_width s
  half_is = half_width_is s half width_is (nonneg (2 ^ left * p.finest))

  pub twice : s.width ≡ half_width s +ℤ half_width s
  twice = width_is ∙ ap (λ h. h +ℤ h) half_is

  pub half≥0 : pos 0 ≤ℤ half_width s
  half≥0 = nonneg (nat_abs s.width / 2)

  pub on_sheet_width : pos 0 ≤ℤ s.width
  on_sheet_width = lin≤ (s.width ∷ half_width s ∷ []) (eq twice & le half≥0) (search linear depth 40) tt

  pub on_sheet_even : Even s.width
  on_sheet_even = record { half = half_width s; half≥0 = half≥0; twice = twice }

  pub on_sheet_room : Room e s
  on_sheet_room = sheet_room p.is_sheet p.edge_on p.square_on on_sheet_even p.narrow

  pub on_sheet_details : SmallDetails (details e s)
  on_sheet_details = details_on s p.edge_on on_sheet_width p.narrow

  pub on_sheet_contains : (a b : ℕ) → a < 2 → b < 2 → Contains s (quarter s (half_width s) a b)
  on_sheet_contains a b h k = contains_quarter s (half_width s) twice half≥0 a b h k

  pub on_sheet_quarter : (a b : ℕ) → a < 2 → b < 2 → OnSheet e left (quarter s (half_width s) a b)
  on_sheet_quarter a b h k = record {
    sheet = p.sheet;
    is_sheet = p.is_sheet;
    edge_on = p.edge_on;
    square_on = contains_trans p.square_on (on_sheet_contains a b h k);
    narrow = narrow;
    finest = p.finest;
    halves = sym half_is;
  }
    where
      narrow : (p.sheet.width *ℤ half_width s) ≤ℤ pos width_times_extent_limit
      narrow =
          let w = p.sheet.width in
          lin≤ (w ∷ s.width ∷ half_width s ∷ [])
          (le p.narrow & eq (ap (λ z. w *ℤ z) twice) & le (≤ℤ-mul p.is_sheet.width half≥0) & le half≥0) (search linear depth 40) tt

-- quarter q of a cell lies in half q % 2 from the left and half q / 2 from the top
pub quarter_on_sheet : {e : Edge} {left : ℕ} (c : Node) (q : ℕ) → q < quarters → OnSheet e (suc left) c.square → OnSheet e left (quarter_node c q).square
quarter_on_sheet c q h p = on_sheet_quarter p (q % 2) (q / 2) (omega arith) (omega arith)

pub quarter_outside : {e : Edge} {left : ℕ} (c : Node) (q : ℕ) → q < quarters → OnSheet e (suc left) c.square → (Inside e c.square → ⊥)
    → Inside e (quarter_node c q).square → ⊥
quarter_outside {e} c q h p out i = out (inside_wider e (on_sheet_contains p (q % 2) (q / 2) (omega arith) (omega arith)) i)

pub quarter-beside : {e : Edge} (c : Node) (q r : ℕ) → q < quarters → r < quarters → r ≢ q → OnCell (quarter_node c q).square e
    → Inside e (quarter_node c r).square → ⊥
quarter-beside {e} c q r h k n o = go (ℕ_discrete (q % 2) (r % 2))
  where
    half : ℤ
    half = half_width c.square

    go : Dec (q % 2 ≡ r % 2) → Inside e (quarter_node c r).square → ⊥
    go (yes s) = other_row e c.square half {i = q % 2} (omega arith) (omega arith) o (r % 2) (r / 2) (omega arith) (λ t. n (omega arith))
    go (no s) = other_column e c.square half {j = q / 2} (omega arith) (omega arith) o (r % 2) (r / 2) (omega arith) s
