use Rattle.std.proofs.Common.{rules, ◌∙◌}
use Rattle.std.proofs.lemmas.Iterator.{YieldsList-from_slice}
use Rattle.std.proofs.lemmas.Iterator.Adapters.{YieldsList-from_skip}
use Rattle.std.proofs.lemmas.Iterator.Consumers.{YieldsList-from_enumerate}
use Rattle.std.proofs.lemmas.Iterator.Search.{all_from_yields_List}
use Rattle.frames.specs.Ranges.{field_ok}
use Rattle.frames.proofs.Ranged.{in_range_by}
use Rattle.frames.proofs.ranges.fields_in_range.Goals as goal

pub returns : goal.returns
returns c =
    all_from_yields_List (λ p. field_ok c.byte_at-frame.result c.byte_at-kind.result p.0 p.1) _ _ c.all.result c.all.ensures.ran
    (YieldsList-from_skip 1 (YieldsList-from_enumerate (YieldsList-from_slice c.args.bytes.now cc) cc) cc) (λ x b q k. search rules)
    ∙ in_range_by _ _ _ c.byte_at-frame.ensures c.byte_at-kind.ensures
