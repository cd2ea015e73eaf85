use Rattle.std.proofs.Common.{ap, ◌∙◌, arith}
use Rattle.twins.specs.Codes.{four}
use Rattle.twins.proofs.Codes.{four_small}
use Rattle.pairs.proofs.Standing.{pair_small, decoded_again}
use Rattle.pairs.proofs.Pair.code.Goals as goal

pub returns-clause-below : goal.returns-clause-below
returns-clause-below c =
    let small = pair_small c.args.self.now in
    omega (arith, c.four.ensures.is ∙ ap four c.lefts.ensures.is, c.four-2.ensures.is ∙ ap four c.rights.ensures.is, four_small _ small.lefts, four_small _ small.rights)

pub returns-clause-back : goal.returns-clause-back
returns-clause-back c = cc (decoded_again c.args.self.now)
