use Rattle.std.proofs.Common.{◌≡◌, ◌++◌, map-id, length, take, sym, ap, ◌∙◌, rules}
use Rattle.std.proofs.lemmas.List.{take_all}
use Rattle.std.proofs.lemmas.Iterator.{YieldsList-from_slice, YieldsList-from_map}
use Rattle.std.proofs.lemmas.Iterator.Adapters.{YieldsList-from_once}
use Rattle.std.proofs.lemmas.Iterator.Consumers.{YieldsList-at, YieldsList-from_chain, YieldsList-end}
use Rattle.frames.specs.declared.Frame.TheVariants.{Screen as OfScreen, Line as OfLine}
use lib.ListN.{length-map}
use Rattle.lists.specs.Held.{held}
use Rattle.lists.proofs.Extends.{held_few}
use Rattle.pages.specs.Model.{line_model}
use Rattle.pages.specs.Stored.{page_model}
use Rattle.dump.proofs.Sounds.{written_short}
use Rattle.dump.proofs.Texts.{one_more, page_text}
use Rattle.dump.proofs.writing.page_text.Goals as goal

pub loop-frame-preserved : goal.loop-frame-preserved
loop-frame-preserved c = one_more c.loop-frame.yielded c.in-Some.frame _ _ c.loop-frame.invariant c.put_frame.ensures

pub returns : goal.returns
returns c =
    let p = c.args.page.now in
    let given =
    YieldsList-end
    (YieldsList-at c.into_iter-frame-iterator.ensures.into_iter_gives (YieldsList-from_chain
    (YieldsList-at c.chain-frame-items.ensures.first (YieldsList-from_chain
    (YieldsList-at c.chain.ensures.first (YieldsList-from_once _ c.once.ensures.item))
    (YieldsList-at c.chain.ensures.second (YieldsList-from_map _ (λ s. OfScreen s) (YieldsList-at c.map-screens.ensures.source (YieldsList-from_slice c.screens-2.result.now c.iter.ensures.rest)) c.map-screens.ensures.closure (λ x r q k. search rules)))
    c.chain.ensures.first_done c.chain.ensures.second_done))
    (YieldsList-at c.chain-frame-items.ensures.second (YieldsList-from_map _ (λ l. OfLine l) (YieldsList-at c.map-lines.ensures.source (YieldsList-from_slice c.lines-2.result.now c.iter-2.ensures.rest)) c.map-lines.ensures.closure (λ x r q k. search rules)))
    c.chain-frame-items.ensures.first_done c.chain-frame-items.ensures.second_done))
    c.loop-frame.yielded _ c.loop-frame.yielded_by _ _ c.in-None.is c.next.ensures.steps in
    let numbers : held c.extend.new.self ≡ held p.parts.numbers =
    c.extend.ensures ∙ (λ i. take 4 (c.new-numbers.ensures i ++ c.numbers.ensures i)) ∙ take_all 4 (held p.parts.numbers) (held_few p.parts.numbers) in
    let lines = sym (length-map c.lines.result.now line_model) ∙ ap length c.lines.ensures in
    page_text (page_model p) c.loop-frame.yielded _ c.screens-2.result.now c.lines-2.result.now (held c.loop-frame.text) c.loop-frame.invariant (sym (map-id c.loop-frame.yielded) ∙ given.0)
    (λ i. record { screens = ap length c.screens.ensures i; lines = lines i; start = c.start.ensures i; numbers = numbers i }) c.screens-2.ensures c.lines-2.ensures (written_short (page_model p) p.formed)
