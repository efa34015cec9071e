-- What a function leaves that writes over the start of a list.
--
-- Definitions
--   over new old              the old list with the new one over its start, and the rest as it was
use Rattle.std.specs.Prelude.{List, ◌++◌, length, drop}

abbrev pub over : {A : Type 0} → List A → List A → List A
over new old = new ++ drop (length new) old
