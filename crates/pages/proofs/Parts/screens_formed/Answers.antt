use Rattle.std.proofs.Common.{rules}
use Rattle.std.proofs.lemmas.Iterator.{YieldsList-from_slice}
use Rattle.std.proofs.lemmas.Iterator.Search.{all_from_yields_List}
use Rattle.lists.specs.Held.{held}
use Rattle.pages.specs.Formed.{few_slots}
use Rattle.pages.proofs.Parts.screens_formed.Goals as goal

pub returns-then-contains : goal.returns-then-contains
returns-then-contains c =
    let few = all_from_yields_List few_slots _ _ c.all.result c.all.ensures.ran (YieldsList-from_slice (held c.args.self.now.screens) cc) (λ x b q k. search rules) in
    search rules
