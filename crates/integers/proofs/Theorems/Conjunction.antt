-- `a && b`, as the code tests it: b is looked at only where a holds.
--
-- Main results
--   second_decides             where the first test holds the second is the answer
--   first_decides              where it fails, it is the answer itself
use Rattle.std.specs.Prelude.{◌≡◌, Bool, true, false, ◌&&◌}
use Rattle.std.proofs.Common.{sym, ap, ◌∙◌}

pub second_decides : (a b : Bool) → a ≡ true → b ≡ (a && b)
second_decides a b e = sym (ap (λ x. x && b) e)

pub first_decides : (a b : Bool) → a ≡ false → a ≡ (a && b)
first_decides a b e = e ∙ sym (ap (λ x. x && b) e)
