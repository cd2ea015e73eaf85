use Rattle.std.proofs.Common.{rules}
use Rattle.std.proofs.lemmas.Iterator.{YieldsList-from_slice}
use Rattle.std.proofs.lemmas.Iterator.Search.{all_from_yields_List}
use Rattle.lists.specs.Held.{held}
use Rattle.pages.specs.Formed.{small_number}
use Rattle.pages.proofs.Parts.start_formed.Goals as goal

pub returns-then-numbers-from : goal.returns-then-numbers-from
returns-then-numbers-from c =
    let small = all_from_yields_List small_number _ _ c.all.result c.all.ensures.ran (YieldsList-from_slice (held c.args.self.now.numbers) cc) (λ x b q k. search rules) in
    search rules
