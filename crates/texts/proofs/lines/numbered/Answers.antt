use Rattle.std.proofs.Common.{refl, ◌∙◌, arith}
use Rattle.std.proofs.lemmas.Iterator.Consumers.{nth_from_yields_List, YieldsList-from_first}
use Rattle.texts.specs.Lines.{lines_of, pieces}
use Rattle.texts.proofs.Ends.{line_from_one}
use Rattle.texts.proofs.lines.numbered.Goals as goal

pub returns : goal.returns
returns c =
    let ls = lines_of c.args.text.now in
    nth_from_yields_List c.nth.result c.nth.new.self _ c.nth.ensures.ran (YieldsList-from_first (λ l. l.now) (λ s. pieces (lines_of s.0.now)) (pieces ls) refl)
    ∙ line_from_one ls c.args.number _ (omega arith, omega arith)
