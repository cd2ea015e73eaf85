use Rattle.std.proofs.Common.{map, refl}
use Rattle.lists.specs.Held.{held}
use Rattle.lists.proofs.Extends.{emit_end, held_few}
use Rattle.frames.proofs.fields.fields.Goals as goal

pub returns : goal.returns
returns g c =
    emit_end 4 (map g.F.Field.of) c.args.bytes.now c.loop-b.b-index (held c.loop-b.out) _ c.loop-b-test.false refl (held_few c.loop-b.out) c.loop-b.invariant
