use Rattle.std.proofs.Common.{[], ◌∷◌, ◌++◌, map, take, sym, ap, ◌∙◌, subst, append_assoc, arith, length-append, length-take-le}
use Rattle.std.proofs.lemmas.List.{take_more}
use Rattle.lists.specs.Held.{held}
use Rattle.twins.proofs.Equivalences.{equivalence}
use Rattle.naming.specs.Names.{number}
use Rattle.naming.proofs.FirstNames.{Named, named_more, ready}
use Rattle.naming.proofs.Given.add_all.Goals as goal

pub add-requires : goal.add-requires
add-requires g c =
    let xs = c.args.before.now in
    let ys = c.args.values.now in
    let i = c.loop-i.i in
    ready g.K.Kind.same number (held c.loop-i.self.names) (xs ++ take i ys) c.index-values-i.result c.loop-i.self.next c.met.result c.loop-i.invariant
    (omega (arith, length-append xs (take i ys), length-take-le i ys (omega arith))) c.met.ensures

pub loop-i-preserved : goal.loop-i-preserved
loop-i-preserved g c =
    let same = g.K.Kind.same in
    let xs = c.args.before.now in
    let ys = c.args.values.now in
    let i = c.loop-i.i in
    let y = c.index-values-i.result in
    subst (λ l. Named same l (map number (held c.add.new.self.names)) c.add.new.self.next)
    (append_assoc xs (take i ys) (y ∷ []) ∙ ap (λ l. xs ++ l) (ap (λ z. take i ys ++ (z ∷ [])) c.index-values-i.is ∙ sym (take_more ys i y c.loop-i-test.true)))
    (named_more same (equivalence g.K.Kind.means same g.met.K.Kind.exact) (xs ++ take i ys) _ _ _ _ y _ c.loop-i.invariant c.met.ensures c.add.ensures.named c.add.ensures.next)
