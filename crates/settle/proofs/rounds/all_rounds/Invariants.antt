use Rattle.std.proofs.Common.{◌+◌, ◌-◌, ◌≤◌, length}
use Rattle.settle.specs.Rounds.{RoundReady}
use Rattle.settle.proofs.rounds.all_rounds.Given as goal

abbrev pub invariant-loop-n : goal.invariant-loop-n
invariant-loop-n g l = RoundReady (g.M.Match.meaning l.game) l.codes l.counts l.n × (l.n ≤ length l.codes + 1)

abbrev pub decreases-loop-n : goal.decreases-loop-n
decreases-loop-n g l = length l.codes + 2 - l.n
