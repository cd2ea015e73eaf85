-- What a text says: the page whose dump it is, or the first question that gets a no.
use Rattle.std.specs.Prelude.{ℕ, ◌+◌, List, [], ◌∷◌, Err, Result}
use Rattle.texts.specs.Answers.{after, lifted}
use Rattle.texts.specs.Lines.{Lines, last, ended, lines_of}
use Rattle.texts.specs.Reading.{text_fault, short_enough}
use Rattle.texts.specs.declared.faults.TextQuestion.TheVariants.{Ended}
use Rattle.frames.specs.declared.faults.FrameFault.TheVariants.{Text}
use Rattle.frames.specs.Parsing.{line_frame}
use Rattle.pages.specs.Model.{PageModel}
use Rattle.dump.specs.declared.faults.PageFault.{PageFault}
use Rattle.dump.specs.declared.faults.PageFault.TheVariants.{Frame}
use Rattle.dump.specs.Steps.{ReaderModel, first_reader, step, finish}

-- the lines from number at on: each line through all layers before the next
abbrev pub run : ℕ → ReaderModel → Lines → Result PageModel PageFault
run at r (last []) = finish at r
run at r (last (b ∷ l)) = Err (Frame (Text (text_fault Ended at)))
run at r (ended l ls) = after (lifted Frame (line_frame at l)) (λ f. after (step at r f) (λ s. run (at + 1) s ls))

abbrev pub read_answer : List ℕ → Result PageModel PageFault
read_answer text = after (lifted Frame (lifted Text (short_enough text))) (λ _. run 1 first_reader (lines_of text))
