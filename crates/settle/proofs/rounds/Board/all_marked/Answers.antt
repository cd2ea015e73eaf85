use Rattle.std.proofs.Common.{length, unwrap_or, ◌∙◌, rules}
use borrow.Author.Tests.{tests}
use native.Mathlib.Nat.{sub-zero}
use Rattle.std.proofs.lemmas.Iterator.{YieldsList-from_range}
use Rattle.std.proofs.lemmas.Iterator.Search.{all_from_yields_List}
use Rattle.std.specs.List.{slice_get}
use Rattle.games.specs.Meaning.{next_of, replies_of}
use Rattle.settle.proofs.Replies.{every_reply}
use Rattle.settle.specs.Rounds.{marked}
use Rattle.settle.proofs.rounds.Board.all_marked.Goals as goal

pub returns : goal.returns
returns g c =
    let o = slice_get ((g.M.Match.meaning c.args.self.now.game.now).at c.args.code) c.args.at in
    let p = marked c.args.self.now.codes.now c.args.self.now.counts.now c.args.self.now.n in
    all_from_yields_List (λ k. p (unwrap_or (next_of o k) 0)) _ _ c.all.result c.all.ensures.ran
    (YieldsList-from_range 0 c.replies_or-replies.result (length (replies_of o)) (cc) (sub-zero c.replies_or-replies.result ∙ c.replies_or-replies.ensures)) (λ x b q k. search (rules, tests))
    ∙ every_reply p o
