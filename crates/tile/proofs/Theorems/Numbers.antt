-- The numbers of refusals.
--
-- Main results
--   never_done                   no refusal's number is 0,
--   done_exactly                 so an answer's number is 0 exactly where the work is done
--   one_number_each              no two refusals have the same number
--   number_le                    none is above 16, so that each is written in two digits
--   numbered                     the sixteen are numbered from 1 on, each by its question
use Rattle.std.specs.Prelude.{◌≡◌, ◌≢◌, ◌↔◌, ◌≤◌, List, [], ◌∷◌, get_or, Result, Ok, Err, IsOk}
use Rattle.std.proofs.Common.{refl, sym, ◌∙◌, ap, lit≤}
use Rattle.tile.specs.declared.refusal.Refusal.{Refusal}
use Rattle.tile.specs.declared.refusal.Refusal.TheVariants.{Side, Table, Points, Count, Sum, Coordinate, Level, Picture, Range, Cell, Frame, Placement, Record, Sheet, Place, Marks}
use Rattle.tile.specs.Answers.{number_of, answer_number}

-- each at its number; question 1 is the first
abbrev pub numbered : List Refusal
numbered = Side ∷ Side ∷ Table ∷ Points ∷ Count ∷ Sum ∷ Coordinate ∷ Level ∷ Picture ∷ Range ∷ Cell ∷ Frame ∷ Placement ∷ Record ∷ Sheet ∷ Place ∷ Marks ∷ []

at_number : (r : Refusal) → get_or numbered (number_of r) Side ≡ r
at_number Side = refl
at_number Table = refl
at_number Points = refl
at_number Count = refl
at_number Sum = refl
at_number Coordinate = refl
at_number Level = refl
at_number Picture = refl
at_number Range = refl
at_number Cell = refl
at_number Frame = refl
at_number Placement = refl
at_number Record = refl
at_number Sheet = refl
at_number Place = refl
at_number Marks = refl

pub one_number_each : (q r : Refusal) → number_of q ≡ number_of r → q ≡ r
one_number_each q r e = sym (at_number q) ∙ ap (λ n. get_or numbered n Side) e ∙ at_number r

pub never_done : (r : Refusal) → number_of r ≢ 0
never_done Side = λ e. cc
never_done Table = λ e. cc
never_done Points = λ e. cc
never_done Count = λ e. cc
never_done Sum = λ e. cc
never_done Coordinate = λ e. cc
never_done Level = λ e. cc
never_done Picture = λ e. cc
never_done Range = λ e. cc
never_done Cell = λ e. cc
never_done Frame = λ e. cc
never_done Placement = λ e. cc
never_done Record = λ e. cc
never_done Sheet = λ e. cc
never_done Place = λ e. cc
never_done Marks = λ e. cc

pub done_exactly : {A : Type 0} (a : Result A Refusal) → (answer_number a ≡ 0) ↔ IsOk a
done_exactly (Ok x) = (λ _. refl, λ _. refl)
done_exactly (Err r) = (λ z. absurd (never_done r z), λ e. cc)

pub number_le : (r : Refusal) → number_of r ≤ 16
number_le Side = lit≤ tt
number_le Table = lit≤ tt
number_le Points = lit≤ tt
number_le Count = lit≤ tt
number_le Sum = lit≤ tt
number_le Coordinate = lit≤ tt
number_le Level = lit≤ tt
number_le Picture = lit≤ tt
number_le Range = lit≤ tt
number_le Cell = lit≤ tt
number_le Frame = lit≤ tt
number_le Placement = lit≤ tt
number_le Record = lit≤ tt
number_le Sheet = lit≤ tt
number_le Place = lit≤ tt
number_le Marks = lit≤ tt
