use Rattle.std.proofs.Common.{sym, ap, ◌∙◌, arith, rules}
use Rattle.std.proofs.lemmas.Grind.{common_steps}
use Rattle.pages.specs.Model.{line_model}
use Rattle.pages.specs.Formed.{line_stands}
use Rattle.dump.proofs.reader.Reader.take.Goals as goal

pub returns-then-not-stands : goal.returns-then-not-stands
returns-then-not-stands c =
    let falls = ap (λ l. line_stands l (line_model c.in-Lines-Line.line)) (sym c.as_slice.ensures) ∙ sym c.if-not-stands.ensures in
    search rules

pub returns-else-not-stands : goal.returns-else-not-stands
returns-else-not-stands c =
    let stands = ap (λ l. line_stands l (line_model c.in-Lines-Line.line)) (sym c.as_slice.ensures) ∙ sym c.if-not-stands.ensures in
    grind (arith, common_steps)
