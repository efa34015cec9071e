-- What the program's calls answer: numbers that two digits hold, and pictures and tables that its arrays hold.
--
-- Main results
--   picture-size-le, used_entries-le       they are within the program's arrays
--   zeros-length, take-zeros               zeros
--   first_below                            a list of questions whose numbers are below k refuses with none from k on
--   draw_number_small, build_number_small  a refusal's number has two digits
--   Drawn, drawn                           what is known where the greys are not refused
--   table_length_lem, built_table_length   building leaves as many entries
--   answer-holds, answer_printed           an answer holds its text, at its start
use Rattle.std.specs.Prelude.{◌≡◌, refl, Bool, true, false, cond, List, [], ◌∷◌, ℕ, zero, suc, ◌*◌, ◌^◌, ◌<◌, ◌≤◌, leb, ℤ, length, take}
use Rattle.std.proofs.Common.{sym, ◌∙◌, ap, mul-le-mul, arith, lit<, pow_mono, leb-true}
use Rattle.std.proofs.Math.Nat.{pow-le-pow_right, one-le-pow}
use Rattle.std.proofs.lemmas.List.{length-replicate}
use Rattle.integers.specs.Units.{greatest_side, greatest_depth}
use Rattle.integers.specs.ListSum.{All}
use Rattle.haar.specs.Greys.{grey_of}
use Rattle.haar.specs.Plane.{dimensions}
use Rattle.haar.specs.Table.{stored}
use Rattle.haar.proofs.Laws.Cells.{level_square}
use Rattle.haar.proofs.Laws.Pictures.{picture-length}
use Rattle.tile.specs.Questions.{Question, first_no, building_questions, drawing_questions}
use Rattle.tile.specs.Outcomes.{build_refusal, build_table, draw_refusal}
use Rattle.tile.proofs.Theorems.Refusals.{building_refusals, question2_means, refused_table}
use Rattle.tile.proofs.Theorems.TableEntries.{built_length}
use Rattle.tile.proofs.Theorems.DrawnFigures.{greys_drawn_lem}
use Rattle.tile.proofs.Laws.Answers.{drawable-picture}
use Rattle.frame_text.specs.Frames.{Frame}
use Rattle.frame_text.proofs.Laws.Over.{over-front, over-room}
use Rattle.frame.specs.declared.Answer.{Answer}
use Rattle.frame.specs.Output.{zeros, answer_length, answer_of}
use Rattle.frame.specs.Inner.{picture_size, draw_number, greys_drawn, used_entries, used_table, built_table}

pub picture-size-le : (level : ℕ) → picture_size level ≤ 4096
picture-size-le level = go (leb level greatest_depth) refl
  where
    go : (b : Bool) → leb level greatest_depth ≡ b → cond b (4 ^ level) 0 ≤ 4096
    go true e = pow-le-pow_right {n = 4} (omega arith) {i = level} {j = 6} (leb-true level greatest_depth e)
    go false e = omega arith

pub used_entries-le : (side : ℕ) → used_entries side ≤ 4096
used_entries-le side = go (leb side greatest_side) refl
  where
    go : (b : Bool) → leb side greatest_side ≡ b → cond b (side * side) 0 ≤ 4096
    go true e = let h = leb-true side greatest_side e in mul-le-mul {n₁ = side} {m₁ = side} {n₂ = 64} {m₂ = 64} h h
    go false e = omega arith

pub zeros-length : (n : ℕ) → length (zeros n) ≡ n
zeros-length n = length-replicate {A = ℕ} n 0

pub take-zeros : (n m : ℕ) → n ≤ m → take n (zeros m) ≡ zeros n
take-zeros zero m h = refl
take-zeros (suc n) zero h = absurd (omega arith)
take-zeros (suc n) (suc m) h = ap (λ l. 0 ∷ l) (take-zeros n m (omega arith))

-- ---- numbers
pub first_below : (k : ℕ) (qs : List Question) → 0 < k → All (λ q. q.number < k) qs → first_no qs < k
first_below k [] z h = z
first_below k (q ∷ qs) z h = go q.answer (first_below k qs z h.1)
  where
    go : (b : Bool) → first_no qs < k → cond b (first_no qs) q.number < k
    go true i = i
    go false i = h.0

-- two decimal digits hold a number below 100
pub draw_number_small : (side level : ℕ) (table : List ℤ) (size : ℕ) → draw_refusal side level table size < 100
draw_number_small side level table size =
    first_below 100 (drawing_questions side level table size) (lit< tt) (lit< tt, (lit< tt, (lit< tt, (lit< tt, (lit< tt, tt)))))

pub build_number_small : (side : ℕ) (points : List ℤ) (counts : List ℕ) (table : List ℤ) → build_refusal side points counts table < 100
build_number_small side points counts table =
    first_below 100 (building_questions side points counts table) (lit< tt) (lit< tt, (lit< tt, (lit< tt, (lit< tt, (lit< tt, (lit< tt, tt))))))

-- ---- greys that are not refused
pub record Drawn (side level : ℕ) (table : List ℤ) : Type 0 where
  pub level_le : level ≤ greatest_depth
  pub across-le : 2 ^ level ≤ 64
  pub places : picture_size level ≡ 4 ^ level
  pub has-root : 0 < length table
  pub greys_length : length (greys_drawn side level table) ≡ 4 ^ level
  pub rows : 2 ^ level * 2 ^ level ≡ length (greys_drawn side level table)

pub drawn : (side level : ℕ) (table : List ℤ) → draw_number side level table ≡ 0 → Drawn side level table
drawn side level table e =
    let d = drawable-picture side level table (picture_size level) e in
    let size = zeros-length (picture_size level) in
    let done : draw_refusal side level table (length (zeros (picture_size level))) ≡ 0 = ap (draw_refusal side level table) size ∙ e in
    let g : length (greys_drawn side level table) ≡ 4 ^ level =
    ap length (greys_drawn_lem side level table (zeros (picture_size level)) done) ∙ picture-length dimensions (grey_of side) (stored dimensions table) level in
    record {
      level_le = d.drawable.shallow;
      across-le = pow_mono d.drawable.shallow;
      places = d.exact;
      has-root = omega (arith, d.drawable.long, one-le-pow level 4 (omega arith));
      greys_length = g;
      rows = level_square level ∙ sym g;
    }

-- ---- building
pub table_length_lem : (side : ℕ) (points : List ℤ) (counts : List ℕ) (table : List ℤ) → length (build_table side points counts table) ≡ length table
table_length_lem side points counts table = go (build_refusal side points counts table) refl
  where
    go : (number : ℕ) → build_refusal side points counts table ≡ number → length (build_table side points counts table) ≡ length table
    go zero e =
        let yes2 = ((building_refusals side points counts table).accepted.0 e).1.0 in
        built_length side points counts table e ∙ sym ((question2_means side table).0 yes2)
    go (suc n) e = ap length (refused_table side points counts table (omega arith))

pub built_table_length : (f : Frame) (table : List ℤ) → length (built_table f table) ≡ length (used_table f table)
built_table_length f table = table_length_lem f.side f.points f.counts (used_table f table)

-- ---- the answer: its first bytes are the text
pub answer-holds : (t : List ℕ) {r : Answer} → r ≡ answer_of t → r.len ≤ length r.bytes
answer-holds t e = over-room t (zeros answer_length) (ap (λ r. r.len) e) (ap (λ r. r.bytes) e)

pub answer_printed : (t : List ℕ) {r : Answer} → r ≡ answer_of t → take r.len r.bytes ≡ t
answer_printed t e = over-front t (zeros answer_length) (ap (λ r. r.len) e) (ap (λ r. r.bytes) e)
