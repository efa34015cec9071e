-- The table of a list of edges depends only on the edges and not on their order.
--
-- Main results
--   table_by_perm                 the edges in another order have the same table, the root being a sum over them of whatever each has
--   outline_table_perm            so it is with the signed area
use Rattle.std.specs.Prelude.{◌≡◌, ℕ, ℤ}
use Rattle.std.proofs.Common.{sym, ap₂}
use Rattle.std.proofs.Math.Path.{fun_ext}
use mathlib.Core.List.{List, Perm}
use Rattle.integers.specs.ListSum.{total}
use Rattle.integers.proofs.Theorems.ListSum.{total_perm}
use Rattle.edge.specs.declared.Edge.{Edge}
use Rattle.edge.specs.Rounded.{root_term}
use Rattle.accuracy.specs.OutlineTable.{edge_table, outline_table, table_from}

pub table_by_perm : (depth : ℕ) (part : Edge → ℤ) {es fs : List Edge} → Perm es fs → table_from (total part fs) depth fs ≡ table_from (total part es) depth es
table_by_perm depth part p =
    ap₂ (λ r d. record { root = r; detail = d }) (sym (total_perm part p))
    (fun_ext λ j. fun_ext λ cell. fun_ext λ k. sym (total_perm (λ e. (edge_table depth e).detail j cell k) p))

pub outline_table_perm : (depth : ℕ) {es fs : List Edge} → Perm es fs → outline_table depth fs ≡ outline_table depth es
outline_table_perm depth p = table_by_perm depth root_term p
