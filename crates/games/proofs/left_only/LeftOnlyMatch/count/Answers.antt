use Rattle.std.proofs.Common.{◌∙◌, length, arith, rules}
use borrow.Author.Tests.{tests}
use Rattle.std.proofs.lemmas.Iterator.{YieldsList-from_range}
use Rattle.std.proofs.lemmas.Iterator.Consumers.{count_from_yields_List, YieldsList-from_filter, YieldsList-at}
use Rattle.games.proofs.Sided.{left_at, lefts_number}
use Rattle.games.proofs.left_only.LeftOnlyMatch.count.Goals as goal

pub returns : goal.returns
returns g c =
    let cs = (g.M.Match.meaning c.args.self.now.game).at c.args.code in
    count_from_yields_List c.filter.result c.count-2.result c.count-2.ensures.ran
    (YieldsList-from_filter _ (left_at cs) (YieldsList-at c.filter.ensures.source (YieldsList-from_range 0 c.count.result (length cs) (cc) (omega (arith, c.count.ensures)))) c.filter.ensures.closure (λ x r q k. search (rules, tests)))
    ∙ lefts_number cs
