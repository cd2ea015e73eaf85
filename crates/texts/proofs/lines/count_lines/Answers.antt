use Rattle.std.proofs.Common.{arith, inl}
use Rattle.texts.proofs.Ends.{pieces_few}
use Rattle.texts.proofs.lines.count_lines.Goals as goal

pub count-requires-clause-fits : goal.count-requires-clause-fits
count-requires-clause-fits c = inl (omega (arith, pieces_few c.args.text.now))
