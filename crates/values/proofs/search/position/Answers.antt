use Rattle.std.proofs.Common.{rules, ◌∙◌}
use Rattle.std.proofs.lemmas.Iterator.{YieldsList-from_slice}
use Rattle.std.proofs.lemmas.Iterator.Search.{position_from_yields_List}
use Rattle.values.proofs.Searched.{first_position}
use Rattle.values.proofs.search.position.Goals as goal

pub returns : goal.returns
returns g c =
    position_from_yields_List (g.K.Kind.same c.args.wanted.now) _ _ _ c.position.ensures.ran (YieldsList-from_slice c.args.items.now cc) (λ x b q k. search rules)
    ∙ first_position (g.K.Kind.same c.args.wanted.now) c.args.items.now
