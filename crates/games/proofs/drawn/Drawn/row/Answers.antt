use Rattle.std.proofs.Common.{ap, ◌∙◌, arith, rules}
use borrow.Author.Tests.{tests}
use Rattle.std.proofs.lemmas.Iterator.{YieldsList-from_slice}
use Rattle.std.proofs.lemmas.Iterator.Consumers.{nth_from_yields_List, YieldsList-from_filter, YieldsList-at}
use Rattle.std.specs.List.{slice_get}
use Rattle.games.specs.Drawn.{of_code, rows_at}
use Rattle.games.proofs.drawn.Drawn.row.Goals as goal

pub returns : goal.returns
returns c =
    c.copied.ensures
    ∙ nth_from_yields_List c.nth.result _ _ c.nth.ensures.ran
    (YieldsList-from_filter _ (of_code c.args.code) (YieldsList-at c.filter.ensures.source (YieldsList-from_slice c.args.self.now.rows.now cc)) c.filter.ensures.closure (λ x r q k. search (rules, tests)))
    ∙ ap (slice_get (rows_at c.args.self.now.rows.now c.args.code)) (omega arith)
