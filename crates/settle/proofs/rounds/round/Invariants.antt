use Rattle.settle.proofs.Turns.{UnderWay}
use Rattle.settle.proofs.rounds.round.Given as goal

abbrev pub invariant-loop-i : goal.invariant-loop-i
invariant-loop-i g l = UnderWay (g.M.Match.meaning l.game) l.codes l.counts l.n l.i l.given
