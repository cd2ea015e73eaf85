use Rattle.std.proofs.Common.{◌≡◌, ◌++◌, take}
use Rattle.lists.specs.Held.{held}
use Rattle.lists.proofs.BoundedVec.extend.Given as goal

abbrev pub invariant-loop-x : goal.invariant-loop-x
invariant-loop-x g l = held l.self ≡ take g.row.N (held l.initial.self ++ take l.x-index l.more)
