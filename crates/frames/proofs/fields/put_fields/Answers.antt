use Rattle.std.proofs.Common.{map, refl}
use Rattle.lists.specs.Held.{held}
use Rattle.lists.proofs.Extends.{emit_end, held_few}
use Rattle.frames.proofs.fields.put_fields.Goals as goal

pub returns : goal.returns
returns g c =
    emit_end 16 (map g.F.Field.byte) c.args.fields.now c.loop-f.f-index (held c.loop-f.bytes) _ c.loop-f-test.false refl (held_few c.loop-f.bytes) c.loop-f.invariant
