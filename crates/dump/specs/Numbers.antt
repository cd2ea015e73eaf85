-- The numbers of all faults of a dump, with the line and the layer of each.
use Rattle.std.specs.Prelude.{ℕ}
use Rattle.frames.specs.Numbers as frames
use Rattle.frames.specs.declared.faults.FrameFault.TheVariants.{Text as OfText, Frame as OfFrame}
use Rattle.dump.specs.declared.faults.PageQuestion.{PageQuestion}
use Rattle.dump.specs.declared.faults.PageQuestion.TheVariants.{Awaited, Start, Line, Complete, Numbers}
use Rattle.dump.specs.declared.faults.PageFault.{PageFault}
use Rattle.dump.specs.declared.faults.PageFault.TheVariants.{Frame, Page}
use Rattle.dump.specs.declared.faults.Layer as layers
use Rattle.dump.specs.declared.faults.Layer.{Layer}

-- is the frame of the kind that is awaited; does the start screen exist; do a line's screens, slots and sources;
-- have all awaited frames come; has the start one number for each slot of its screen
abbrev pub page_number : PageQuestion → ℕ
page_number Awaited = 31
page_number Start = 32
page_number Line = 33
page_number Complete = 34
page_number Numbers = 35

abbrev pub fault_number : PageFault → ℕ
fault_number (Frame f) = frames.fault_number f
fault_number (Page q at) = page_number q

abbrev pub fault_line : PageFault → ℕ
fault_line (Frame f) = frames.fault_line f
fault_line (Page q at) = at

-- 10 to 14 are the text layer's, 21 to 23 the frame layer's, 31 to 35 the page layer's
abbrev pub fault_layer : PageFault → Layer
fault_layer (Frame (OfText t)) = layers.TheVariants.Text
fault_layer (Frame (OfFrame q at)) = layers.TheVariants.Frame
fault_layer (Page q at) = layers.TheVariants.Page
