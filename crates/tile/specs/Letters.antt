-- 01's letters to try: "Those with a letter form a single table, proved by one theorem on the definitions".
--
-- Definitions
--   View                           a picture of a level
--   Slant                          an edge's exact h, and what it is rounded to
--   Letter                         an outline of one contour, and what the papers give of it: its table, some pictures of figures and of greys, a slanted edge's h
--   counts l                       its one count: a contour through all of its points
--   FiguresAre, GreysAre           what is drawn of the letter's table at a level is this picture
--   SlantIs                        the edge's h in the tile is this
--   Holds l                        building and drawing it gives what the papers give
--   letter_a .. letter_h, letters  the eight of them
--
-- Main results (the laws among them are in proofs/Theorems/Letters.antt)
--   letters_hold                   for each of the eight
use Rattle.std.specs.Prelude.{◌≡◌, List, [], ◌∷◌, ℕ, suc, ◌*◌, ◌/◌, ◌^◌, length, drop, ℤ, pos, neg_ℤ}
use Rattle.integers.specs.ListSum.{All}
use Rattle.edge.specs.declared.Edge.{Edge}
use Rattle.edge.specs.Walk.{steps}
use Rattle.edge.specs.Integrals.{h_num}
use Rattle.edge.specs.Rounded.{details}
use Rattle.accuracy.specs.Tile.{tile}
use Rattle.tile.specs.Questions.{depth_of}
use Rattle.tile.specs.Outcomes.{edges_of, build_refusal, build_table, draw_refusal, figures_picture, greys_picture}

pub record View (A : Type 0) : Type 0 where
  pub level : ℕ
  pub picture : List A

-- the exact h that edge `number` of a letter, from 0 on, has in the whole tile, as a fraction, and what it is rounded to
pub record Slant : Type 0 where
  pub number : ℕ
  pub numerator : ℤ
  pub denominator : ℕ
  pub rounded : ℤ

pub record Letter : Type 0 where
  pub side : ℕ
  -- x and y in turn
  pub points : List ℤ
  pub table : List ℤ
  pub figures : List (View ℤ)
  pub greys : List (View ℕ)
  pub slants : List Slant

abbrev pub counts : Letter → List ℕ
counts l = length l.points / 2 ∷ []

-- whatever the picture held before, the call is not refused, and leaves this picture
abbrev pub FiguresAre : Letter → View ℤ → Type 0
FiguresAre l v = (picture : List ℤ) → length picture ≡ 4 ^ v.level
    → (draw_refusal l.side v.level l.table (length picture) ≡ 0) × (figures_picture l.side v.level l.table picture ≡ v.picture)

abbrev pub GreysAre : Letter → View ℕ → Type 0
GreysAre l v = (picture : List ℕ) → length picture ≡ 4 ^ v.level
    → (draw_refusal l.side v.level l.table (length picture) ≡ 0) × (greys_picture l.side v.level l.table picture ≡ v.picture)

-- of one of its edges
pub record SlantIs (l : Letter) (s : Slant) : Type 0 where
  pub edge : Edge
  pub is_edge : drop s.number (edges_of l.points (counts l)) ≡ edge ∷ drop (suc s.number) (edges_of l.points (counts l))
  pub exact : h_num edge (tile (depth_of l.side)) ≡ s.numerator
  pub over : steps edge ≡ s.denominator
  pub rounds : (details edge (tile (depth_of l.side))).h ≡ s.rounded

pub record Holds (l : Letter) : Type 0 where
  -- whatever the table held before
  pub built : (before : List ℤ) → length before ≡ l.side * l.side
      → (build_refusal l.side l.points (counts l) before ≡ 0) × (build_table l.side l.points (counts l) before ≡ l.table)
  pub figures_drawn : All (FiguresAre l) l.figures
  pub greys_drawn_lem : All (GreysAre l) l.greys
  pub slanted : All (SlantIs l) l.slants

-- "A. Side 1, (0,0) (256,0) (256,256) (0,256): table 131072, grey 255."
abbrev pub letter_a : Letter
letter_a = record {
  side = 1;
  points = pos 0 ∷ pos 0 ∷ pos 256 ∷ pos 0 ∷ pos 256 ∷ pos 256 ∷ pos 0 ∷ pos 256 ∷ [];
  table = pos 131072 ∷ [];
  figures = [];
  greys = record { level = 0; picture = 255 ∷ [] } ∷ [];
  slants = [];
}

-- "B. A reversed: −131072"; 02, P4: "Case B's grey becomes 255."
abbrev pub letter_b : Letter
letter_b = record {
  side = 1;
  points = pos 0 ∷ pos 256 ∷ pos 256 ∷ pos 256 ∷ pos 256 ∷ pos 0 ∷ pos 0 ∷ pos 0 ∷ [];
  table = neg_ℤ (pos 131072) ∷ [];
  figures = [];
  greys = record { level = 0; picture = 255 ∷ [] } ∷ [];
  slants = [];
}

-- "C. Side 1, (0,0) (256,0) (0,256): 65536, grey 128."
abbrev pub letter_c : Letter
letter_c = record {
  side = 1;
  points = pos 0 ∷ pos 0 ∷ pos 256 ∷ pos 0 ∷ pos 0 ∷ pos 256 ∷ [];
  table = pos 65536 ∷ [];
  figures = [];
  greys = record { level = 0; picture = 128 ∷ [] } ∷ [];
  slants = [];
}

-- "D. Side 2, A's points: table 131072 four times; level 1 figures 524288, 0, 0, 0; level 0 grey 64."
abbrev pub letter_d : Letter
letter_d = record {
  side = 2;
  points = letter_a.points;
  table = pos 131072 ∷ pos 131072 ∷ pos 131072 ∷ pos 131072 ∷ [];
  figures = record { level = 1; picture = pos 524288 ∷ pos 0 ∷ pos 0 ∷ pos 0 ∷ [] } ∷ [];
  greys = record { level = 0; picture = 64 ∷ [] } ∷ [];
  slants = [];
}

-- "E. Side 2, (0,0) (512,0) (0,512): 262144, 131072, 131072, 0; greys 255, 128, 128, 0."
abbrev pub letter_e : Letter
letter_e = record {
  side = 2;
  points = pos 0 ∷ pos 0 ∷ pos 512 ∷ pos 0 ∷ pos 0 ∷ pos 512 ∷ [];
  table = pos 262144 ∷ pos 131072 ∷ pos 131072 ∷ pos 0 ∷ [];
  figures = [];
  greys = record { level = 1; picture = 255 ∷ 128 ∷ 128 ∷ 0 ∷ [] } ∷ [];
  slants = [];
}

-- "F. Side 2, (0,0) (384,1) (0,1): 384, 299, 384, 299; figures 1366, 170, 0, 0. Exact h is 298 2/3."
abbrev pub letter_f : Letter
letter_f = record {
  side = 2;
  points = pos 0 ∷ pos 0 ∷ pos 384 ∷ pos 1 ∷ pos 0 ∷ pos 1 ∷ [];
  table = pos 384 ∷ pos 299 ∷ pos 384 ∷ pos 299 ∷ [];
  figures = record { level = 1; picture = pos 1366 ∷ pos 170 ∷ pos 0 ∷ pos 0 ∷ [] } ∷ [];
  greys = [];
  -- 298 2/3 is 114688 / 384
  slants = record {
    number = 0;
    numerator = pos 114688;
    denominator = 384;
    rounded = pos 299;
  } ∷ [];
}

-- "G. Side 2, (255,0) (259,1) (255,1): 4, 0, 4, 0; figures 8, 8, 0, 0. The slanted edge's h is 509 1/2, rounded to 510."
abbrev pub letter_g : Letter
letter_g = record {
  side = 2;
  points = pos 255 ∷ pos 0 ∷ pos 259 ∷ pos 1 ∷ pos 255 ∷ pos 1 ∷ [];
  table = pos 4 ∷ pos 0 ∷ pos 4 ∷ pos 0 ∷ [];
  figures = record { level = 1; picture = pos 8 ∷ pos 8 ∷ pos 0 ∷ pos 0 ∷ [] } ∷ [];
  greys = [];
  -- 509 1/2 is 2038 / 4
  slants = record {
    number = 0;
    numerator = pos 2038;
    denominator = 4;
    rounded = pos 510;
  } ∷ [];
}

-- "H. G reversed: −4, 0, −4, 0."
abbrev pub letter_h : Letter
letter_h = record {
  side = 2;
  points = pos 255 ∷ pos 1 ∷ pos 259 ∷ pos 1 ∷ pos 255 ∷ pos 0 ∷ [];
  table = neg_ℤ (pos 4) ∷ pos 0 ∷ neg_ℤ (pos 4) ∷ pos 0 ∷ [];
  figures = [];
  greys = [];
  slants = [];
}

abbrev pub letters : List Letter
letters = letter_a ∷ letter_b ∷ letter_c ∷ letter_d ∷ letter_e ∷ letter_f ∷ letter_g ∷ letter_h ∷ []
