-- What the bytes of a line say as a frame.
use Rattle.std.specs.Prelude.{ℕ, Bool, cond, List, map, length, drop, Ok, Result, ◌==◌, slice_index}
use Rattle.lists.specs.Between.{between}
use Rattle.texts.specs.Answers.{asked, after, lifted}
use Rattle.texts.specs.Lines.{Lines}
use Rattle.texts.specs.Reading.{line_bytes, first_bytes}
use Rattle.frames.specs.declared.faults.FrameQuestion.{FrameQuestion}
use Rattle.frames.specs.declared.faults.FrameQuestion.TheVariants.{Kind, Size, Range}
use Rattle.frames.specs.declared.faults.FrameFault.{FrameFault}
use Rattle.frames.specs.declared.faults.FrameFault.TheVariants.{Text, Frame}
use Rattle.frames.specs.Model.{FrameModel, header, screen, line}
use Rattle.frames.specs.Fields.{source_of, name_of, kind_of}
use Rattle.frames.specs.Ranges.{in_range}

abbrev pub frame_fault : FrameQuestion → ℕ → FrameFault
frame_fault q at = Frame q at

-- a header has 4 to 8 bytes, a screen 2, a line 6 to 10
abbrev pub sized : ℕ → ℕ → Bool
sized kind n = cond (kind == 1) (between 4 8 n) (cond (kind == 2) (n == 2) (between 6 10 n))

abbrev pub header_of : ℕ → ℕ → ℕ → List ℕ → FrameModel
header_of screens lines start numbers = header (record { screens = screens; lines = lines; start = start; numbers = map name_of numbers })

abbrev pub line_of : ℕ → ℕ → ℕ → ℕ → ℕ → List ℕ → FrameModel
line_of from kind port third next sources =
    line (record { from = from; kind = kind_of kind third; port = record { 0 = port }; next = next; sources = map source_of sources })

-- 01, screens, lines, start screen, start numbers; 02, slots; 03, screen left, kind, port, third, next screen, sources
abbrev pub frame_of : List ℕ → FrameModel
frame_of bs =
    cond (slice_index bs 0 == 1) (header_of (slice_index bs 1) (slice_index bs 2) (slice_index bs 3) (drop 4 bs))
    (cond (slice_index bs 0 == 2) (screen (record { slots = slice_index bs 1 }))
    (line_of (slice_index bs 1) (slice_index bs 2) (slice_index bs 3) (slice_index bs 4) (slice_index bs 5) (drop 6 bs)))

abbrev pub ranged : ℕ → List ℕ → FrameModel → Result FrameModel FrameFault
ranged at bs f = asked (in_range bs) (frame_fault Range at) (Ok f)

-- the frame, or the first question that gets a no
abbrev pub frame_answer : ℕ → List ℕ → Result FrameModel FrameFault
frame_answer at bs =
    asked (between 1 3 (slice_index bs 0)) (frame_fault Kind at)
    (asked (sized (slice_index bs 0) (length bs)) (frame_fault Size at)
    (ranged at bs (frame_of bs)))

-- the frame of a text line without its 0A
abbrev pub line_frame : ℕ → List ℕ → Result FrameModel FrameFault
line_frame at l = after (lifted Text (line_bytes at l)) (frame_answer at)

-- the frame of the first line, and the lines after it
abbrev pub first_frame : ℕ → Lines → Result (FrameModel × Lines) FrameFault
first_frame at ls = after (lifted Text (first_bytes at ls)) (λ p. after (frame_answer at p.0) (λ f. Ok (f, p.1)))
