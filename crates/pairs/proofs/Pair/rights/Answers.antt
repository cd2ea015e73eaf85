use Rattle.std.proofs.Common.{ap, length, arith}
use Rattle.lists.proofs.Extends.{held_few}
use Rattle.pairs.proofs.Pair.rights.Goals as goal

pub returns-clause-few : goal.returns-clause-few
returns-clause-few c = omega (arith, held_few c.args.self.now.rights, ap length c.as_slice.ensures)
