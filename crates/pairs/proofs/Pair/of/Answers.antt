use Rattle.std.proofs.Common.{◌≡◌, ◌++◌, length, arith}
use Rattle.lists.specs.Held.{held}
use Rattle.twins.proofs.Equivalences.{equivalence}
use Rattle.pairs.proofs.Formed.{formed, ordered}
use Rattle.pairs.proofs.Pair.of.Goals as goal

pub returns : goal.returns
returns g c =
    let whole : held c.side.result ++ held c.side-2.result ≡ held c.in_ok-names.names = cc in
    let front : length (held c.side.result) ≡ length c.args.lefts.now = cc in
    formed g.K.Kind.same c.args.lefts.now c.args.rights.now _ _ _ whole c.in_ok-names.ensures front c.args.left c.args.right (omega arith) (omega arith)

pub invariant_of-result : goal.invariant_of-result
invariant_of-result g c =
    let same = g.K.Kind.same in
    let whole : held c.side.result ++ held c.side-2.result ≡ held c.in_ok-names.names = cc in
    record {
      left_small = omega arith;
      right_small = omega arith;
      in_order = ordered same c.args.lefts.now c.args.rights.now _ _ _ whole c.in_ok-names.ensures (equivalence g.K.Kind.means same g.met.K.Kind.exact);
    }
