use Rattle.std.proofs.Common.{subst}
use Rattle.settle.proofs.Turns.{next_round, last_round}
use Rattle.settle.specs.Rounds.{RoundDone}
use Rattle.settle.proofs.rounds.all_rounds.Goals as goal

pub loop-n-preserved : goal.loop-n-preserved
loop-n-preserved g c =
    let m = g.M.Match.meaning c.args.game.now in
    next_round m c.args.codes.now c.round.new.counts c.loop-n.n c.loop-n.invariant.0.closed
    (subst (RoundDone m c.args.codes.now c.round.new.counts c.loop-n.n) c.loop-n-test.true c.round.ensures)

pub returns : goal.returns
returns g c =
    let m = g.M.Match.meaning c.args.game.now in
    last_round m c.args.codes.now c.round.new.counts c.loop-n.n c.loop-n.invariant.0.some c.loop-n.invariant.0.closed
    (subst (RoundDone m c.args.codes.now c.round.new.counts c.loop-n.n) c.loop-n-test.false c.round.ensures)
