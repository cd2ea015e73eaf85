use Rattle.std.proofs.Common.{filter, ap, ◌∙◌, arith, rules}
use borrow.Author.Tests.{tests}
use Rattle.std.proofs.lemmas.Iterator.{YieldsList-from_slice}
use Rattle.std.proofs.lemmas.Iterator.Consumers.{nth_from_yields_List, YieldsList-from_filter, YieldsList-at}
use Rattle.std.specs.List.{slice_get}
use Rattle.lists.proofs.predicate.nth.Goals as goal

pub returns : goal.returns
returns g c =
    c.copied.ensures
    ∙ nth_from_yields_List c.nth.result _ _ c.nth.ensures.ran
    (YieldsList-from_filter _ (g.P.Predicate.passes c.args.predicate.now) (YieldsList-at c.filter.ensures.source (YieldsList-from_slice c.args.items.now cc)) c.filter.ensures.closure (λ x r q k. search (rules, tests)))
    ∙ ap (slice_get (filter (g.P.Predicate.passes c.args.predicate.now) c.args.items.now)) (omega arith)
