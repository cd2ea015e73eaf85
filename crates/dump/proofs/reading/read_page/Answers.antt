use Rattle.std.proofs.Common.{◌+◌, length, drop, Ok, sym, ap, ◌∙◌, arith, length-drop, rules}
use Rattle.std.proofs.lemmas.List.{take_rest}
use Rattle.texts.specs.Lines.{lines_of}
use Rattle.frames.specs.Model.{frame_model}
use Rattle.dump.specs.Steps.{reader_model}
use Rattle.dump.specs.Reading.{run}
use Rattle.dump.proofs.Runs.{frame_refused, step_run, run_end}
use Rattle.dump.proofs.Laws.{run_answer, run_dump}
use Rattle.dump.proofs.reading.read_page.Goals as goal

pub returns-in_err-frame : goal.returns-in_err-frame
returns-in_err-frame c =
    let rest = c.loop-rest.rest.now in
    let refused = frame_refused rest c.loop-rest.at (reader_model c.loop-rest.reader) c.loop-rest-test.ensures _ c.in_err-frame.ensures.is in
    let answer = run_answer c.args.text.now _ c.in_ok-check_text.ensures in
    search rules

pub returns-in_err-take : goal.returns-in_err-take
returns-in_err-take c =
    let rest = c.loop-rest.rest.now in
    let refused =
    step_run rest c.loop-rest.at (reader_model c.loop-rest.reader) c.loop-rest-test.ensures (frame_model c.in_ok-frame.frame) (lines_of (drop c.in_ok-frame.taken rest)) _
    c.in_ok-frame.ensures.is c.in_err-take.ensures in
    let answer = run_answer c.args.text.now _ c.in_ok-check_text.ensures in
    search rules

pub loop-rest-preserved : goal.loop-rest-preserved
loop-rest-preserved c =
    let rest = c.loop-rest.rest.now in
    let n = c.in_ok-frame.taken in
    let told = c.in_ok-frame.ensures in
    let next = reader_model c.take.new.self in (
      ap (λ l. run (c.loop-rest.at + 1) next (lines_of l)) (take_rest rest n)
          ∙ step_run rest c.loop-rest.at (reader_model c.loop-rest.reader) c.loop-rest-test.ensures (frame_model c.in_ok-frame.frame) (lines_of (drop n rest)) (Ok next)
          told.is c.in_ok-take.ensures
          ∙ c.loop-rest.invariant.0,
      omega (arith, ap length (take_rest rest n), length-drop n rest, told.within.0, told.within.1, c.loop-rest.invariant.1),
    )

pub finish-requires : goal.finish-requires
finish-requires c e =
    (run_dump c.args.text.now _ (sym c.loop-rest.invariant.0 ∙ sym (run_end c.loop-rest.rest.now c.loop-rest.at (reader_model c.loop-rest.reader) c.loop-rest-test.ensures) ∙ e)).formed
