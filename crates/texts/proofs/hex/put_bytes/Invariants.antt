use Rattle.std.proofs.Common.{◌≡◌, ◌++◌, take}
use Rattle.lists.specs.Held.{held}
use Rattle.texts.specs.Digits.{hexes}
use Rattle.texts.proofs.hex.put_bytes.Given as goal

abbrev pub invariant-loop-b : goal.invariant-loop-b
invariant-loop-b g l = held l.text ≡ take g.row.N (held l.initial.text ++ hexes (take l.b-index l.bytes))
