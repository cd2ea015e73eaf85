use Rattle.std.proofs.Common.{rules}
use lib.ListN.{length-map}
use Rattle.std.proofs.lemmas.Iterator.{YieldsList-from_slice}
use Rattle.std.proofs.lemmas.Iterator.Search.{all_from_yields_List}
use Rattle.std.proofs.lemmas.List.Folds.{list_all-map}
use Rattle.pages.specs.Model.{line_model}
use Rattle.lists.specs.Held.{held}
use Rattle.pages.specs.Formed.{line_formed}
use Rattle.pages.proofs.Parts.lines_formed.Goals as goal

pub returns-then-lines-le128 : goal.returns-then-lines-le128
returns-then-lines-le128 c =
    let all = all_from_yields_List (λ l. line_formed (held c.args.self.now.screens) (line_model l)) _ _ c.all.result c.all.ensures.ran (YieldsList-from_slice (held c.args.self.now.lines) cc) (λ x b q k. search rules) in
    search (rules, list_all-map, length-map)
