-- A direction moves where its sign is not 0.
use Rattle.std.proofs.Common.{◌≡◌, sym, ◌∙◌, ap, true, true≢false, not, nat_eq, pos, w64, of_z}
use Rattle.edge.specs.declared.Axis.{Axis}
use Rattle.slanted.specs.Pieces.{Moving, onward, back}
use Rattle.edge.proofs.Laws.WalkKnown.{is_walk}
use Rattle.slanted.proofs.Laws.Walks.{moving-walk}
use Rattle.slanted.proofs.is_slanted.Goals as goal

moves : {a : Axis} → Moving a → not (nat_eq (of_z w64 a.sign) 0) ≡ true
moves (onward e) = ap (λ z. not (nat_eq (of_z w64 z) 0)) e
moves (back e) = ap (λ z. not (nat_eq (of_z w64 z) 0)) e

stands : (a : Axis) → not (nat_eq (of_z w64 a.sign) 0) ≡ true → a.sign ≡ pos 0 → ⊥
stands a t e = true≢false (sym t ∙ ap (λ z. not (nat_eq (of_z w64 z) 0)) e)

pub returns-then-w-ne0 : goal.returns-then-w-ne0
returns-then-w-ne0 c =
    record { yes = λ t. moving-walk (is_walk c.args.w) (λ e. c.if-w-ne0.true (ap (of_z w64) e)) (stands c.args.w.y t); no = λ t m. true≢false (sym (moves m.1) ∙ t) }
