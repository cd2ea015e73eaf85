use Rattle.std.proofs.Common.{◌≡◌, map, take}
use Rattle.lists.specs.Held.{held}
use Rattle.pairs.proofs.coding.used.Given as goal

abbrev pub invariant-loop-d : goal.invariant-loop-d
invariant-loop-d l = held l.out ≡ take 4 (map (λ d. d.now) l.yielded)
