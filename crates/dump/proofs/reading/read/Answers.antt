use Rattle.dump.proofs.Laws.{exact, one_dump}
use Rattle.dump.proofs.reading.read.Goals as goal

pub returns-clause-exact : goal.returns-clause-exact
returns-clause-exact c = exact c.args.text.now _ c.read_page.ensures

pub returns-clause-one : goal.returns-clause-one
returns-clause-one c = one_dump
