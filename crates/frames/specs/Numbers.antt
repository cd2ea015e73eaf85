-- The numbers of the frame layer's refusals, and the line of each.
use Rattle.std.specs.Prelude.{ℕ}
use Rattle.texts.specs.Numbers.{text_number}
use Rattle.frames.specs.declared.faults.FrameQuestion.{FrameQuestion}
use Rattle.frames.specs.declared.faults.FrameQuestion.TheVariants.{Kind, Size, Range}
use Rattle.frames.specs.declared.faults.FrameFault.{FrameFault}
use Rattle.frames.specs.declared.faults.FrameFault.TheVariants.{Text, Frame}

-- is the first byte 01, 02 or 03; has the frame as many bytes as its kind has; is each field in range
abbrev pub frame_number : FrameQuestion → ℕ
frame_number Kind = 21
frame_number Size = 22
frame_number Range = 23

abbrev pub fault_number : FrameFault → ℕ
fault_number (Text t) = text_number t.question
fault_number (Frame q at) = frame_number q

abbrev pub fault_line : FrameFault → ℕ
fault_line (Text t) = t.line
fault_line (Frame q at) = at
