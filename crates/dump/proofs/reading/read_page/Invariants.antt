use Rattle.std.proofs.Common.{◌≡◌, ◌+◌, ◌≤◌, length}
use Rattle.texts.specs.Lines.{lines_of}
use Rattle.dump.specs.Steps.{reader_model, first_reader}
use Rattle.dump.specs.Reading.{run}
use Rattle.dump.proofs.reading.read_page.Given as goal

-- what is left gives the answer that the whole text gives
abbrev pub invariant-loop-rest : goal.invariant-loop-rest
invariant-loop-rest l = (run l.at (reader_model l.reader) (lines_of l.rest) ≡ run 1 first_reader (lines_of l.text)) × (l.at + length l.rest ≤ 4097)

abbrev pub decreases-loop-rest : goal.decreases-loop-rest
decreases-loop-rest l = length l.rest
