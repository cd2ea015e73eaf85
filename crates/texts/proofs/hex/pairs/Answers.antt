use Rattle.std.proofs.Common.{arith}
use Rattle.std.proofs.lemmas.Grind.{common_steps}
use Rattle.texts.proofs.Pairs.{bytes_of_pairs}
use Rattle.texts.proofs.hex.pairs.Goals as goal

pub returns : goal.returns
returns c = let whole = bytes_of_pairs c.args.line.now in grind (arith, common_steps)
