use Rattle.std.proofs.Common.{◌^◌, cond, sym, ◌∙◌, arith, rules}
use borrow.Author.Tests.{tests}
use lib.ListN.{length-map}
use Rattle.std.proofs.lemmas.List.Sums.{length-filter, count_by-le-length}
use Rattle.std.proofs.lemmas.Iterator.{YieldsList-from_slice, YieldsList-from_map}
use Rattle.std.proofs.lemmas.Iterator.Consumers.{sum_by_from_yields_List, fits_by_from_yields_list, YieldsList-at}
use Rattle.games.specs.Drawn.{of_code, rows_at, row_challenge}
use Rattle.games.proofs.drawn.DrawnMatch.count.Goals as goal

pub returns : goal.returns
returns c =
    let counted =
    sum_by_from_yields_List (λ r. cond (of_code c.args.code r) 1 0) c.args.self.now.rows.now c.map.result c.sum.result c.sum.ensures.ran
    (YieldsList-from_map _ (λ r. cond (of_code c.args.code r) 1 0) (YieldsList-at c.map.ensures.source (YieldsList-from_slice c.args.self.now.rows.now cc)) c.map.ensures.closure (λ x r q k. search (rules, tests)))
    ∙ sym (length-map (rows_at c.args.self.now.rows.now c.args.code) (row_challenge c.args.self.now.replies.now) ∙ length-filter (of_code c.args.code) c.args.self.now.rows.now)
    in
    omega (arith, counted)

pub sum-requires-clause-fits : goal.sum-requires-clause-fits
sum-requires-clause-fits c =
    fits_by_from_yields_list (λ r. cond (of_code c.args.code r) 1 0) c.args.self.now.rows.now c.map.result (2 ^ 64)
    (YieldsList-from_map _ (λ r. cond (of_code c.args.code r) 1 0) (YieldsList-at c.map.ensures.source (YieldsList-from_slice c.args.self.now.rows.now cc)) c.map.ensures.closure (λ x r q k. search (rules, tests)))
    (omega (arith, count_by-le-length (of_code c.args.code) c.args.self.now.rows.now))
