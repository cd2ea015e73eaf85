use Rattle.std.proofs.Common.{◌≡◌, ◌++◌, map, take, drop}
use Rattle.lists.specs.Held.{held}
use Rattle.frames.proofs.fields.put_fields.Given as goal

abbrev pub invariant-loop-f : goal.invariant-loop-f
invariant-loop-f g l = take 16 (held l.bytes ++ map g.F.Field.byte (drop l.f-index l.fields)) ≡ take 16 (held l.initial.bytes ++ map g.F.Field.byte l.fields)
