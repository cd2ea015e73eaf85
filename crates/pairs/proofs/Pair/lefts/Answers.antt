use Rattle.std.proofs.Common.{ap, length, arith}
use Rattle.lists.proofs.Extends.{held_few}
use Rattle.pairs.proofs.Pair.lefts.Goals as goal

pub returns-clause-few : goal.returns-clause-few
returns-clause-few c = omega (arith, held_few c.args.self.now.lefts, ap length c.as_slice.ensures)
