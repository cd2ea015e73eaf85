use Rattle.std.proofs.Common.{take, ap, ◌∙◌, rules}
use Rattle.std.proofs.lemmas.Iterator.{YieldsList-from_slice}
use Rattle.std.proofs.lemmas.Iterator.Consumers.{YieldsList-at, YieldsList-from_filter, YieldsList-end}
use Rattle.pairs.specs.Decoding.{used_digit}
use Rattle.pairs.proofs.coding.used.Goals as goal

pub returns : goal.returns
returns c =
    c.loop-d.invariant ∙ ap (take 4) (YieldsList-end
    (YieldsList-at c.into_iter-d-iterator.ensures.into_iter_gives (YieldsList-from_filter _ used_digit (YieldsList-from_slice c.args.digits.now (cc)) c.filter-d-items.ensures.closure (λ x b q k. search rules)))
    c.loop-d.yielded _ c.loop-d.yielded_by _ _ c.in-None.is c.next.ensures.steps).0
