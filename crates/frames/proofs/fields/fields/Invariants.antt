use Rattle.std.proofs.Common.{◌≡◌, ◌++◌, map, take, drop}
use Rattle.lists.specs.Held.{held}
use Rattle.frames.proofs.fields.fields.Given as goal

abbrev pub invariant-loop-b : goal.invariant-loop-b
invariant-loop-b g l = take 4 (held l.out ++ map g.F.Field.of (drop l.b-index l.bytes)) ≡ take 4 (map g.F.Field.of l.bytes)
