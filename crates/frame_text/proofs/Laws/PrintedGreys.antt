-- Where a cell's two digits stand among the lines of a picture.
--
-- Main results
--   row-digits               in its row
--   rows-from                the rows from one on
--   picture-digits           in the picture
--   row_end, picture_end     and where a row ends
use Rattle.std.specs.Prelude.{◌≡◌, ℕ, zero, suc, ◌+◌, ◌-◌, ◌*◌, ◌<◌, ◌≤◌, List, [], ◌∷◌, ◌++◌, length, take, drop, slice_index, refl}
use Rattle.std.proofs.Common.{sym, ◌∙◌, ap, ap₂, suc-mul, mul-le-mul_right, arith, length-drop, length-take-le, drop-drop, get_or-take, get_or-drop}
use Rattle.std.proofs.Math.Seq.{drop-append-add}
use Rattle.frame_text.specs.Digits.{hex}
use Rattle.frame_text.specs.Lines.{newline, line_text}
use Rattle.frame_text.specs.OutputLines.{grey_width, rows_text}
use Rattle.frame_text.proofs.Laws.Printing.{row-length}

pub row-digits : (row : List ℕ) (cx : ℕ) (rest : List ℕ) → cx < length row → take 2 (drop (2 * cx) (line_text grey_width row ++ rest)) ≡ hex 2 (slice_index row cx)
unfolding line_text hex
row-digits [] cx rest h = absurd (omega arith)
row-digits (g ∷ row) zero rest h = refl
row-digits (g ∷ row) (suc cx) rest h =
    let e : 2 * suc cx ≡ suc (suc (2 * cx)) = omega arith in
    ap (λ n. take 2 (drop n (line_text grey_width (g ∷ row) ++ rest))) e ∙ row-digits row cx rest (omega arith)

pub rows-from : (across rows cy : ℕ) (picture : List ℕ) → cy ≤ rows → rows * across ≤ length picture
    → drop (cy * (2 * across + 1)) (rows_text across rows picture) ≡ rows_text across (rows - cy) (drop (cy * across) picture)
unfolding rows_text
rows-from across rows zero picture h k =
    let e : rows ≡ rows - 0 = omega arith in
    let z : 0 ≡ 0 * across = omega (arith, suc-mul 0 across) in
    let y : 0 * (2 * across + 1) ≡ 0 = omega (arith, suc-mul 0 (2 * across + 1)) in
    ap (λ n. drop n (rows_text across rows picture)) y ∙ ap₂ (λ n m. rows_text across n (drop m picture)) e z
rows-from across zero (suc cy) picture h k = absurd (omega arith)
rows-from across (suc rows) (suc cy) picture h k =
    let line = line_text grey_width (take across picture) in
    let room = suc-mul rows across in
    let n : suc cy * (2 * across + 1) ≡ length line + cy * (2 * across + 1) = omega (arith, suc-mul cy (2 * across + 1), row-length across picture (omega arith)) in
    let m : across + cy * across ≡ suc cy * across = omega (arith, suc-mul cy across) in
    let l : rows - cy ≡ suc rows - suc cy = omega arith in
    ap (λ i. drop i (line ++ rows_text across rows (drop across picture))) n
    ∙ drop-append-add line (rows_text across rows (drop across picture)) (cy * (2 * across + 1))
    ∙ rows-from across rows cy (drop across picture) (omega arith) (omega (arith, length-drop across picture))
    ∙ ap (rows_text across (rows - cy)) (drop-drop (cy * across) across picture ∙ ap (λ i. drop i picture) m)
    ∙ ap (λ i. rows_text across i (drop (suc cy * across) picture)) l

pub picture-digits : (across cx cy : ℕ) (picture : List ℕ) → cx < across → cy < across → across * across ≤ length picture
    → take 2 (drop (cy * (2 * across + 1) + 2 * cx) (rows_text across across picture)) ≡ hex 2 (slice_index picture (cy * across + cx))
unfolding rows_text
picture-digits across cx cy picture h k r =
    let below : cy * across + across ≤ across * across = omega (arith, suc-mul cy across, mul-le-mul_right across k) in
    let s : across - cy ≡ suc (across - suc cy) = omega arith in
    let row = take across (drop (cy * across) picture) in
    let n : length row ≡ across = length-take-le across (drop (cy * across) picture) (omega (arith, length-drop (cy * across) picture)) in
    ap (take 2)
    (sym (drop-drop (2 * cx) (cy * (2 * across + 1)) (rows_text across across picture))
    ∙ ap (drop (2 * cx)) (rows-from across across cy picture (omega arith) r ∙ ap (λ i. rows_text across i (drop (cy * across) picture)) s))
    ∙ row-digits row cx (rows_text across (across - suc cy) (drop across (drop (cy * across) picture))) (omega (arith, n))
    ∙ ap (hex 2) (get_or-take across (drop (cy * across) picture) cx 0 h ∙ get_or-drop (cy * across) picture cx 0)

-- ---- the end of a row
pub row_end : (row rest : List ℕ) → slice_index (line_text grey_width row ++ rest) (2 * length row) ≡ newline
unfolding line_text hex
row_end [] rest = refl
row_end (g ∷ row) rest =
    let e : 2 * suc (length row) ≡ suc (suc (2 * length row)) = omega arith in
    ap (λ n. slice_index (line_text grey_width (g ∷ row) ++ rest) n) e ∙ row_end row rest

pub picture_end : (across cy : ℕ) (picture : List ℕ) → cy < across → across * across ≤ length picture
    → slice_index (rows_text across across picture) (cy * (2 * across + 1) + 2 * across) ≡ newline
unfolding rows_text
picture_end across cy picture k r =
    let below : cy * across + across ≤ across * across = omega (arith, suc-mul cy across, mul-le-mul_right across k) in
    let s : across - cy ≡ suc (across - suc cy) = omega arith in
    let row = take across (drop (cy * across) picture) in
    let n : length row ≡ across = length-take-le across (drop (cy * across) picture) (omega (arith, length-drop (cy * across) picture)) in
    let rest = rows_text across (across - suc cy) (drop across (drop (cy * across) picture)) in
    sym (get_or-drop (cy * (2 * across + 1)) (rows_text across across picture) (2 * across) 0)
    ∙ ap (λ l. slice_index l (2 * across)) (rows-from across across cy picture (omega arith) r ∙ ap (λ i. rows_text across i (drop (cy * across) picture)) s)
    ∙ ap (λ i. slice_index (line_text grey_width row ++ rest) (2 * i)) (sym n)
    ∙ row_end row rest
