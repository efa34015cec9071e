-- The root is the figure of level 0.
use Rattle.std.proofs.Common.{◌∙◌, ap, ◌^◌, set}
use Rattle.haar.specs.Greys.{grey_of}
use Rattle.haar.proofs.Above.{root_is}
use Rattle.haar.proofs.grey_root.Goals as goal

pub returns : goal.returns
returns c = ap (set c.args.picture.now 0) (c.grey_of.ensures ∙ ap (grey_of (2 ^ c.args.depth)) (root_is c.requires.0 0 0))
