use Rattle.std.proofs.Common.{arith, rules}
use borrow.Author.Tests.{tests}
use Rattle.std.proofs.lemmas.Iterator.{YieldsList-from_slice}
use Rattle.std.proofs.lemmas.Iterator.Consumers.{count_from_yields_List, YieldsList-from_filter, YieldsList-at}
use Rattle.lists.proofs.predicate.count.Goals as goal

pub returns-clause-is : goal.returns-clause-is
returns-clause-is g c =
    let counted =
    count_from_yields_List c.filter.result _ c.count.ensures.ran
    (YieldsList-from_filter _ (g.P.Predicate.passes c.args.predicate.now) (YieldsList-at c.filter.ensures.source (YieldsList-from_slice c.args.items.now cc)) c.filter.ensures.closure (λ x r q k. search (rules, tests)))
    in
    omega (arith, counted)
