use Rattle.settle.proofs.Answered.{refutes}
use Rattle.settle.proofs.settle_against.Goals as goal

pub returns-clause-refutes : goal.returns-clause-refutes
returns-clause-refutes g c =
    refutes (g.M.Match.meaning c.args.game.now) g.S.CodeSet.has c.args.codes.now c.args.counts.now c.settle.new.codes c.settle.new.counts c.settle.result c.settle.ensures
