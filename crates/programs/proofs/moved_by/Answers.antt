use Rattle.pages.specs.Stored.{page_model}
use Rattle.programs.proofs.Tabled.{moves_exactly}
use Rattle.programs.proofs.moved_by.Goals as goal

pub returns-clause-exactly : goal.returns-clause-exactly
returns-clause-exactly g c = moves_exactly _ (page_model c.args.page.now) c.args.page.now.formed
