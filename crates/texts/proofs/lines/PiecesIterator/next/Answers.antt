use Rattle.std.proofs.Common.{rules}
use Rattle.texts.proofs.Ends.{pieces_cut, pieces_last}
use Rattle.texts.proofs.lines.PiecesIterator.next.Goals as goal

pub returns-in_default-clause-steps : goal.returns-in_default-clause-steps
returns-in_default-clause-steps c = pieces_last c.args.self.now.0.now c.in_default.ensures.is (search rules)

pub returns-in_default-clause-goes : goal.returns-in_default-clause-goes
returns-in_default-clause-goes c = let steps = returns-in_default-clause-steps c in search rules

pub returns-clause-steps : goal.returns-clause-steps
returns-clause-steps c = pieces_cut c.args.self.now.0.now c.in-Some.n c.in-Some.ensures.is

pub returns-clause-goes : goal.returns-clause-goes
returns-clause-goes c = let steps = returns-clause-steps c in search rules
