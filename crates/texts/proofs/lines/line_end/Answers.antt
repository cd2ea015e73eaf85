use Rattle.texts.proofs.Ends.{end_within}
use Rattle.texts.proofs.lines.line_end.Goals as goal

pub returns-clause-within : goal.returns-clause-within
returns-clause-within c = end_within c.args.text.now _ c.position.ensures
