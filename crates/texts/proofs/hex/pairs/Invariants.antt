use Rattle.std.proofs.Common.{◌≡◌, map, take}
use Rattle.lists.specs.Held.{held}
use Rattle.texts.proofs.Pairs.{pair_byte}
use Rattle.texts.proofs.hex.pairs.Given as goal

abbrev pub invariant-loop-high : goal.invariant-loop-high
invariant-loop-high l = held l.bytes ≡ map pair_byte (take l.high-index l.pairs)
