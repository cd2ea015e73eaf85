use Rattle.pages.specs.Stored.{page_model}
use Rattle.dump.proofs.Laws.{read_written}
use Rattle.dump.proofs.writing.write.Goals as goal

pub returns-clause-reads_back : goal.returns-clause-reads_back
returns-clause-reads_back c = read_written (page_model c.args.page.now) c.args.page.now.formed
