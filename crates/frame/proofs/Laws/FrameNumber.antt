-- The questions that a frame can fail: those that the program's own arrays and the frame's own lines decide are answered yes.
--
-- Main results
--   blank, blank-length                a table of zeros
--   build_number_is                    building's refusal
--   draw_number_is                     and that of the greys, where building is done
--   outline_number                     so that of a frame
--   outline_output, outline_table_lem  what is printed of it, and what the table holds afterwards
--   level_refusal_is                   the refusal of a level that the tile does not have
use Rattle.std.specs.Prelude.{◌≡◌, Bool, true, false, cond, ◌||◌, List, [], ◌∷◌, ◌++◌, leb, ltb, ℤ, pos, length, get_or, drop, replicate}
use Rattle.std.proofs.Math.Path.{refl, ap}
use Rattle.std.proofs.Common.{sym, ◌∙◌, ap₂, true≢false, le_trans, arith, lit<, pow_mono, take-append-drop, length-take-le, le-leb, le-ltb, ltb-false}
use Prim.Native.Nat.{ℕ, zero, suc, ◌*◌, ◌^◌, ◌<◌, ◌≤◌}
use Rattle.std.proofs.Math.Nat.{one-le-pow, two-pow-succ}
use Rattle.std.proofs.Math.Decide.{dec_le}
use Rattle.std.proofs.lemmas.List.{length-replicate}
use Rattle.integers.specs.Units.{greatest_side, greatest_depth}
use Rattle.integers.specs.ListSum.{All}
use Rattle.accuracy.specs.Outline.{edge_count}
use Rattle.tile.specs.Questions.{Question, Yes, depth_of, first_no, question1, question2, question3, question4, question5, question6, question7}
use Rattle.tile.specs.Outcomes.{if_done, edges_of, draw_refusal}
use Rattle.tile.proofs.Theorems.Refusals.{building_refusals, drawing_refusals, refused_table, question2_means, question3_means, question7_means}
use Rattle.tile.proofs.Theorems.DrawnFigures.{greys_drawn_lem}
use Rattle.tile.proofs.Theorems.Theorem.{faithful}
use Rattle.tile.proofs.Laws.Sides.{side_le, side_depth, side_power}
use Rattle.tile.proofs.Laws.IfDone.{if_done_lem, if_refused}
use Rattle.tile.proofs.Laws.BuiltTable.{built_is, table_length_lem}
use Rattle.frame_text.specs.Over.{over}
use Rattle.frame_text.specs.Frames.{Frame}
use Rattle.frame_text.specs.OutputLines.{refusal_text, summary_text, rows_text}
use Rattle.frame.specs.Output.{zeros, table_length, frame_table, drawn_text}
use Rattle.frame.specs.Inner.{picture_size, draw_number, picture_text, table_text, used_entries, used_table, build_number, built_table, edges_built, outline_text, outline_refusal, frame_output, frame_table_after, is_deeper, level_refusal}
use Rattle.frame.proofs.Laws.Output.{used_entries-le, zeros-length}

-- a table of zeros
abbrev pub blank : List ℤ
blank = replicate table_length (pos 0)

pub blank-length : length blank ≡ table_length
blank-length = length-replicate table_length (pos 0)

-- ---- a question that is answered yes, whenever one before it is
skip : (q r : Question) (qs : List Question) → (Yes q → Yes r) → first_no (q ∷ r ∷ qs) ≡ first_no (q ∷ qs)
skip q r qs h = go q.answer refl
  where
    go : (b : Bool) → q.answer ≡ b → cond b (first_no (r ∷ qs)) q.number ≡ cond b (first_no qs) q.number
    go true e = ap (λ x. cond x (first_no qs) r.number) (h e)
    go false e = refl

-- a question more at the end
then_number : (qs : List Question) (r : Question) → All (λ q. 0 < q.number) qs → first_no (qs ++ (r ∷ [])) ≡ if_done (first_no qs) (first_no (r ∷ [])) (first_no qs)
then_number [] r h = refl
then_number (q ∷ qs) r h = go q.answer (then_number qs r h.1)
  where
    nonzero : q.number ≡ 0 → ⊥
    nonzero z = omega (arith, h.0)

    go : (b : Bool) → first_no (qs ++ (r ∷ [])) ≡ if_done (first_no qs) (first_no (r ∷ [])) (first_no qs)
        → cond b (first_no (qs ++ (r ∷ []))) q.number ≡ if_done (cond b (first_no qs) q.number) (first_no (r ∷ [])) (cond b (first_no qs) q.number)
    go true e = e
    go false e = sym (if_refused (first_no (r ∷ [])) q.number nonzero)

abbrev pub build_questions : Frame → List Question
build_questions f = question1 f.side ∷ question4 f.counts ∷ question5 f.counts ∷ question6 f.side f.points ∷ []

-- ---- a level that has more cells across than the side has pixels is not one of the tile's, and any other is
module _ (side level : ℕ) (y : Yes (question1 side)) where
  either : (a b : Bool) → (a || b) ≡ false → (a ≡ false) × (b ≡ false)
  either true b e = absurd (true≢false e)
  either false b e = (refl, e)

  level_yes : is_deeper side level ≡ false → (question7 side level).answer ≡ true
  level_yes d =
      let e = either (ltb greatest_depth level) (ltb side (2 ^ level)) d in
      let h = ltb-false side (2 ^ level) e.1 in
      (question7_means side level).1 (elim (dec_le level (depth_of side)) [
        | yes k ↦ k
        | no k ↦
            (let i : suc (depth_of side) ≤ level = omega arith in
            absurd (omega (arith, pow_mono i, two-pow-succ (depth_of side), one-le-pow (depth_of side) 2 (omega arith), side_power side y)))
      ])

  level_no : is_deeper side level ≡ true → (question7 side level).answer ≡ false
  level_no d = go (question7 side level).answer refl
    where
      go : (b : Bool) → (question7 side level).answer ≡ b → b ≡ false
      go false e = refl
      go true e =
          let k = (question7_means side level).0 e in
          let shallow : leb greatest_depth greatest_depth ≡ true = refl in
          let no1 : ltb greatest_depth level ≡ false = le-ltb greatest_depth level (le_trans k (side_depth side y)) in
          let no2 : ltb side (2 ^ level) ≡ false = le-ltb side (2 ^ level) (omega (arith, pow_mono k, side_power side y)) in
          absurd (true≢false (sym d ∙ ap₂ ◌||◌ no1 no2))

module _ (f : Frame) (w : length f.points ≡ 2 * edge_count f.counts) (table : List ℤ) (h : length table ≡ table_length) where
  used_is : Yes (question1 f.side) → used_entries f.side ≡ f.side * f.side
  used_is y = ap (λ b. cond b (f.side * f.side) 0) (le-leb f.side greatest_side (side_le f.side y))

  used_length : Yes (question1 f.side) → length (used_table f table) ≡ f.side * f.side
  used_length y = length-take-le (used_entries f.side) table (omega (arith, used_entries-le f.side)) ∙ used_is y

  pub build_number_is : build_number f table ≡ first_no (build_questions f)
  build_number_is =
      let q1 = question1 f.side in
      let q2 = question2 f.side (used_table f table) in
      let q3 = question3 f.points f.counts in
      let q4 = question4 f.counts in
      let q5 = question5 f.counts in
      let q6 = question6 f.side f.points in
      skip q1 q2 (q4 ∷ q5 ∷ q3 ∷ q6 ∷ []) (λ y. (question2_means f.side (used_table f table)).1 (used_length y))
      ∙ ap (λ n. cond q1.answer (cond q4.answer n 4) 1) (skip q5 q3 (q6 ∷ []) (λ y. (question3_means f.points f.counts).1 w))

  -- where building is done
  module _ (done : build_number f table ≡ 0) where
    abbrev built : List ℤ
    built = frame_table f

    is_side : Yes (question1 f.side)
    is_side = ((building_refusals f.side f.points f.counts (used_table f table)).accepted.0 done).0

    pub built_table_lem : built_table f table ≡ built
    built_table_lem = built_is f.side f.points f.counts (used_table f table) done

    pub edges_built_lem : edges_built f table ≡ edge_count f.counts
    edges_built_lem = if_done_lem (edge_count f.counts) 0 done

    pub draw_number_is : draw_number f.side f.level built ≡ first_no (question7 f.side f.level ∷ [])
    draw_number_is = go (question7 f.side f.level).answer refl
      where
        go : (b : Bool) → (question7 f.side f.level).answer ≡ b → draw_number f.side f.level built ≡ cond b 0 7
        go true e =
            let shallow = (question7_means f.side f.level).0 e in
            let places : picture_size f.level ≡ 4 ^ f.level =
            ap (λ b. cond b (4 ^ f.level) 0) (le-leb f.level greatest_depth (le_trans shallow (side_depth f.side is_side))) in
            ap (draw_refusal f.side f.level built) places
            ∙ sym (ap (λ l. draw_refusal f.side f.level l (4 ^ f.level)) built_table_lem)
            ∙ ((faithful f.side f.points f.counts (used_table f table)).drawn done f.level shallow).not_refused
        go false e =
            let yes2 = (question2_means f.side built).1 (table_length_lem f.side (edges_of f.points f.counts) is_side) in
            (drawing_refusals f.side f.level built (picture_size f.level)).refused7.1 (is_side, (yes2, e))

  -- all questions of a frame
  pub outline_number : outline_refusal f ≡ if_done (build_number f table) (first_no (question7 f.side f.level ∷ [])) (build_number f table)
  outline_number =
      then_number (build_questions f) (question7 f.side f.level) (lit< tt, (lit< tt, (lit< tt, (lit< tt, tt))))
      ∙ ap (λ n. if_done n (first_no (question7 f.side f.level ∷ [])) n) (sym build_number_is)

  -- what is printed, by the calls and by the questions
  text : ℕ → List ℕ
  text n = if_done n (drawn_text f) (refusal_text n)

  pub outline_output : outline_text f table ≡ frame_output f
  unfolding text
  outline_output = go (build_number f table) refl
    where
      drawn_text_lem : (n : ℕ) → draw_number f.side f.level (frame_table f) ≡ n
          → if_done n (picture_text f.side f.level (edge_count f.counts) (frame_table f)) (refusal_text n) ≡ text n
      drawn_text_lem zero d =
          ap (λ g. summary_text (edge_count f.counts) (get_or (frame_table f) 0 (pos 0)) ++ rows_text (2 ^ f.level) (2 ^ f.level) g)
          (greys_drawn_lem f.side f.level (frame_table f) (zeros (picture_size f.level))
          (ap (draw_refusal f.side f.level (frame_table f)) (zeros-length (picture_size f.level)) ∙ d))
      drawn_text_lem (suc n) d = refl

      go : (n : ℕ) → build_number f table ≡ n
          → if_done n (table_text f.side f.level (edges_built f table) (built_table f table)) (refusal_text n) ≡ text (outline_refusal f)
      go zero z =
          ap₂ (table_text f.side f.level) (edges_built_lem z) (built_table_lem z)
          ∙ drawn_text_lem (draw_number f.side f.level (frame_table f)) refl
          ∙ ap text (draw_number_is z)
          ∙ sym (ap text (outline_number ∙ ap (λ n. if_done n (first_no (question7 f.side f.level ∷ [])) n) z))
      go (suc k) z = sym (ap text (outline_number ∙ ap (λ n. if_done n (first_no (question7 f.side f.level ∷ [])) n) z))

  -- and the table, where the level is one of the tile's
  pub outline_table_lem : is_deeper f.side f.level ≡ false → built_table f table ++ drop (used_entries f.side) table ≡ frame_table_after f table
  outline_table_lem d = go (build_number f table) refl
    where
      nonzero : {m k : ℕ} → m ≡ suc k → m ≡ 0 → ⊥
      nonzero e z = omega arith

      go : (n : ℕ) → build_number f table ≡ n → built_table f table ++ drop (used_entries f.side) table ≡ frame_table_after f table
      go zero z =
          let y = is_side z in
          let none : outline_refusal f ≡ 0 =
          outline_number ∙ ap (λ n. if_done n (first_no (question7 f.side f.level ∷ [])) n) z ∙ ap (λ b. cond b 0 7) (level_yes f.side f.level y d) in
          let n : used_entries f.side ≡ length (frame_table f) = used_is y ∙ sym (table_length_lem f.side (edges_of f.points f.counts) y) in
          ap₂ (λ l k. l ++ drop k table) (built_table_lem z) n ∙ sym (if_done_lem (over (frame_table f) table) table none)
      go (suc k) z =
          let some : outline_refusal f ≡ suc k = outline_number ∙ ap (λ n. if_done n (first_no (question7 f.side f.level ∷ [])) n) z in
          ap (λ l. l ++ drop (used_entries f.side) table) (refused_table f.side f.points f.counts (used_table f table) (omega arith))
          ∙ take-append-drop (used_entries f.side) table
          ∙ sym (if_refused (over (frame_table f) table) table (nonzero some))

-- ---- a level that the tile does not have
module _ (f : Frame) (w : length f.points ≡ 2 * edge_count f.counts) (d : is_deeper f.side f.level ≡ true) where
  pub level_refusal_is : level_refusal f.side f.points f.counts ≡ outline_refusal f
  level_refusal_is = go (build_number f blank) refl ∙ sym (outline_number f w blank blank-length)
    where
      go : (n : ℕ) → build_number f blank ≡ n → if_done n 7 n ≡ if_done n (first_no (question7 f.side f.level ∷ [])) n
      go zero z = sym (ap (λ b. cond b 0 7) (level_no f.side f.level (is_side f w blank blank-length z) d))
      go (suc k) z = refl

  pub level_refused : outline_refusal f ≡ 0 → ⊥
  level_refused e = go (build_number f blank) (level_refusal_is ∙ e)
    where
      go : (n : ℕ) → if_done n 7 n ≡ 0 → ⊥
      go zero z = omega arith
      go (suc k) z = omega arith
