use Rattle.std.proofs.Common.{◌++◌, map, take}
use Rattle.lists.specs.Held.{held}
use Rattle.naming.specs.Names.{number}
use Rattle.naming.proofs.FirstNames.{Named}
use Rattle.naming.proofs.Given.add_all.Given as goal

abbrev pub invariant-loop-i : goal.invariant-loop-i
invariant-loop-i g l =
    Named g.K.Kind.same (l.before ++ take l.i l.values) (map number (held l.self.names)) l.self.next
