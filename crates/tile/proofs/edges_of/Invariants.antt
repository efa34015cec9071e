-- So far as the sum goes, it is at most the most edges, and what is left makes up the counts' sum.
use Rattle.std.proofs.Common.{◌≡◌, ◌+◌, ◌≤◌, drop}
use Rattle.integers.specs.Units.{most_edges}
use Rattle.accuracy.specs.Outline.{edge_count}
use Rattle.tile.proofs.edges_of.Given as goal

abbrev pub invariant-loop-n : goal.invariant-loop-n
invariant-loop-n l = (l.sum ≤ most_edges) × (edge_count l.counts ≡ l.sum + edge_count (drop l.n-index l.counts))
