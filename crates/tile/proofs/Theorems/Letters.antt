-- Laws of what specs/Letters.antt defines. The head of that file lists the main results.
use Rattle.std.specs.Prelude.{◌≡◌, refl, List, ℕ, ◌*◌, ◌^◌, length, ℤ}
use Rattle.std.proofs.Common.{◌∙◌, ap}
use Rattle.integers.specs.ListSum.{All, tally}
use Rattle.edge.proofs.Laws.Letters.{f, f-steps, f_h, f-details, g, g-steps, g_h, g-details}
use Rattle.haar.specs.Greys.{grey_of}
use Rattle.haar.specs.Plane.{picture_in}
use Rattle.tile.specs.Outcomes.{if_done, table_of, build_refusal, build_table, draw_refusal}
use Rattle.tile.proofs.Theorems.Refusals.{building_refusals, question2_means}
use Rattle.tile.proofs.Laws.IfDone.{if_done_lem}
use Rattle.tile.proofs.Laws.Computed.{computed_table, table_of_computed, computed_picture}
use Rattle.tile.specs.Letters.{FiguresAre, GreysAre, Holds, Letter, SlantIs, counts, letter_a, letter_b, letter_c, letter_d, letter_e, letter_f, letter_g, letter_h, letters}

-- ---- the table by its closed form, and all else by computing it
-- Of what the table was before, building asks only its length, which is that of the letter's table; of a picture, drawing asks only its length.
build_letter : (l : Letter) → build_refusal l.side l.points (counts l) l.table ≡ 0 → computed_table l.side l.points (counts l) ≡ l.table
    → (before : List ℤ) → length before ≡ l.side * l.side
    → (build_refusal l.side l.points (counts l) before ≡ 0) × (build_table l.side l.points (counts l) before ≡ l.table)
build_letter l accepted table before e =
    let y = (building_refusals l.side l.points (counts l) l.table).accepted.0 accepted in
    let done = (building_refusals l.side l.points (counts l) before).accepted.1 (y.0, ((question2_means l.side before).1 e, y.1.1)) in
    (done, if_done_lem (table_of l.side l.points (counts l)) before done ∙ table_of_computed l.side l.points (counts l) ∙ table)

module _ (l : Letter) (level : ℕ) (accepted : draw_refusal l.side level l.table (4 ^ level) ≡ 0) where
  draw_letter : {A : Type 0} {drawing : List A} (g : ℤ → A) → picture_in g l.table level ≡ drawing → (picture : List A) → length picture ≡ 4 ^ level
      → (draw_refusal l.side level l.table (length picture) ≡ 0)
      × (if_done (draw_refusal l.side level l.table (length picture)) (picture_in g l.table level) picture ≡ drawing)
  draw_letter g p picture e =
      let done = ap (draw_refusal l.side level l.table) e ∙ accepted in
      (done, if_done_lem (picture_in g l.table level) picture done ∙ p)

holds : (l : Letter) → build_refusal l.side l.points (counts l) l.table ≡ 0 → computed_table l.side l.points (counts l) ≡ l.table
    → All (FiguresAre l) l.figures → All (GreysAre l) l.greys → All (SlantIs l) l.slants → Holds l
holds l accepted table figures greys slants =
    record { built = build_letter l accepted table; figures_drawn = figures; greys_drawn_lem = greys; slanted = slants }

pub letters_hold : All Holds letters
unfolding tally computed_table computed_picture
letters_hold =
    let a = holds letter_a refl refl tt (draw_letter letter_a 0 refl (grey_of 1) refl, tt) tt in
    let b = holds letter_b refl refl tt (draw_letter letter_b 0 refl (grey_of 1) refl, tt) tt in
    let c = holds letter_c refl refl tt (draw_letter letter_c 0 refl (grey_of 1) refl, tt) tt in
    let d = holds letter_d refl refl (draw_letter letter_d 1 refl (λ f. f) refl, tt) (draw_letter letter_d 0 refl (grey_of 2) refl, tt) tt in
    let e = holds letter_e refl refl tt (draw_letter letter_e 1 refl (grey_of 2) refl, tt) tt in
    let f' = holds letter_f refl refl (draw_letter letter_f 1 refl (λ f. f) refl, tt) tt (record { edge = f; is_edge = refl; exact = f_h; over = f-steps; rounds = ap (λ w. w.h) f-details }, tt) in
    let g' = holds letter_g refl refl (draw_letter letter_g 1 refl (λ f. f) refl, tt) tt (record { edge = g; is_edge = refl; exact = g_h; over = g-steps; rounds = ap (λ w. w.h) g-details }, tt) in
    let h = holds letter_h refl refl tt tt tt in
    (a, (b, (c, (d, (e, (f', (g', (h, tt))))))))
