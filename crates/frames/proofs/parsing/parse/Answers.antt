use Rattle.std.proofs.Common.{◌≡◌, rules, refl, ap, ◌∙◌}
use Rattle.texts.specs.Answers.{mapped, lifted}
use Rattle.frames.specs.Model.{frame_model}
use Rattle.frames.specs.Parsing.{frame_fault, frame_answer, ranged}
use Rattle.frames.proofs.Shapes.{by_kind, header_shape, line_shape, range_asked}
use Rattle.frames.proofs.parsing.parse.Goals.{in-2, in-3, else-bytes-lt3+else-bytes-lt4+in-1}
use Rattle.frames.proofs.parsing.parse.Goals as goal

pub returns : goal.returns
returns c = λ at.
    let bs = c.args.bytes.now in
    let f = c.if-bytes-lt3.frame in
    let said : ranged at bs (frame_model f) ≡ frame_answer at bs =
    elim c.if-bytes-lt3.branch [
      | in-2 w ↦ by_kind at bs 2 (frame_model f) (search rules) refl (search rules) (ap frame_model w.frame-is)
      | in-3 w ↦ line_shape at bs (frame_model f) _ _ (search rules) (search rules) w.if-sources-le4.true (ap frame_model w.frame-is) w.line_kind.ensures w.fields.ensures
      | else-bytes-lt3+else-bytes-lt4+in-1 w ↦ header_shape at bs (frame_model f) _ (search rules) (search rules) w.if-numbers-le4.true (ap frame_model w.frame-is) w.fields-in-1.ensures
    ] in
    ap (λ r. mapped frame_model (lifted (λ q. frame_fault q at) r)) (search rules) ∙ range_asked at bs f _ c.fields_in_range.ensures ∙ said
