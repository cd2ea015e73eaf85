use Rattle.std.proofs.Common.{eqb, take, sym, ap, ◌∙◌, arith}
use Rattle.std.specs.Option.{is_some}
use Rattle.settle.proofs.Growth.{found, add_listed, add_fresh, add_no_room}
use Rattle.settle.proofs.listing.add.Goals as goal

pub returns-then-is_some : goal.returns-then-is_some
returns-then-is_some c =
    let xs = c.args.codes.now in
    let n = c.args.len in
    add_listed xs n c.args.y c.requires (sym (found (eqb c.args.y) (take n xs)) ∙ ap is_some (sym c.position.ensures) ∙ sym c.is_some.ensures ∙ c.if-is_some.true)

pub returns-then-len-codes : goal.returns-then-len-codes
returns-then-len-codes c =
    let xs = c.args.codes.now in
    let n = c.args.len in
    add_no_room xs n c.args.y c.if-len-codes.true (sym (found (eqb c.args.y) (take n xs)) ∙ ap is_some (sym c.position.ensures) ∙ sym c.is_some.ensures ∙ c.if-is_some.false)

pub returns : goal.returns
returns c =
    let xs = c.args.codes.now in
    let n = c.args.len in
    add_fresh xs n c.args.y (omega (arith, c.requires)) (sym (found (eqb c.args.y) (take n xs)) ∙ ap is_some (sym c.position.ensures) ∙ sym c.is_some.ensures ∙ c.if-is_some.false)
