use Rattle.std.proofs.Common.{sym, ap, ◌∙◌, arith, rules}
use borrow.Author.Tests.{tests}
use Rattle.std.proofs.lemmas.Iterator.{YieldsList-from_range}
use Rattle.std.proofs.lemmas.Iterator.Adapters.{option_map_id}
use Rattle.std.proofs.lemmas.Iterator.Consumers.{nth_from_yields_List, YieldsList-from_filter, YieldsList-at}
use Rattle.games.proofs.Sided.{left_at, nth_left}
use Rattle.games.specs.Ways.{chosen}
use Rattle.games.proofs.left_only.LeftOnly.place.Goals as goal

pub returns : goal.returns
returns g c =
    let cs = (g.M.Match.meaning c.args.self.now.game).at c.args.code in
    ap (chosen cs) (sym (option_map_id c.nth.result) ∙ nth_from_yields_List c.nth.result _ c.args.n c.nth.ensures.ran
    (YieldsList-from_filter _ (left_at cs) (YieldsList-at c.filter.ensures.source (YieldsList-from_range 0 c.count.result _ (cc) (omega (arith, c.count.ensures)))) c.filter.ensures.closure (λ x r q k. search (rules, tests))))
    ∙ nth_left cs c.args.n
