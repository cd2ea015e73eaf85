use Rattle.std.proofs.Common.{length, ◌∙◌, rules}
use borrow.Author.Tests.{tests}
use native.Mathlib.Nat.{sub-zero}
use Rattle.std.proofs.lemmas.Iterator.{YieldsList-from_range}
use Rattle.std.proofs.lemmas.Iterator.Search.{any_from_yields_List}
use Rattle.std.specs.List.{slice_get}
use Rattle.games.proofs.Asked.{any_asked}
use Rattle.games.specs.Meaning.{replies_of}
use Rattle.lists.specs.Every.{every}
use Rattle.settle.specs.Rounds.{marked}
use Rattle.settle.proofs.rounds.Board.forced.Goals as goal

pub returns : goal.returns
returns g c =
    let cs = (g.M.Match.meaning c.args.self.now.game.now).at c.args.code in
    let p = marked c.args.self.now.codes.now c.args.self.now.counts.now c.args.self.now.n in
    any_from_yields_List (λ k. every p (replies_of (slice_get cs k))) _ _ c.any.result c.any.ensures.ran
    (YieldsList-from_range 0 c.count.result (length cs) (cc) (sub-zero c.count.result ∙ c.count.ensures)) (λ x b q k. search (rules, tests))
    ∙ any_asked cs (λ o. every p (replies_of o))
