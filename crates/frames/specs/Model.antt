-- Frames as plain lists and numbers.
use Rattle.std.specs.Prelude.{ℕ, List}
use Rattle.lists.specs.Held.{held}
use Rattle.pages.specs.declared.Name.{Name}
use Rattle.pages.specs.declared.Screen.{Screen}
use Rattle.pages.specs.Model.{LineModel, line_model}
use Rattle.frames.specs.declared.Header.{Header}
use Rattle.frames.specs.declared.Frame.{Frame}
use Rattle.frames.specs.declared.Frame.TheVariants.{Header as OfHeader, Screen as OfScreen, Line as OfLine}

-- how many screens and lines follow, the start screen, its start numbers
pub record HeaderModel : Type 0 where
  pub screens : ℕ
  pub lines : ℕ
  pub start : ℕ
  pub numbers : List Name

pub data FrameModel : Type 0 where
  header : HeaderModel → FrameModel
  screen : Screen → FrameModel
  line : LineModel → FrameModel

abbrev pub header_model : Header → HeaderModel
header_model h = record { screens = h.screens; lines = h.lines; start = h.start; numbers = held h.numbers }

abbrev pub frame_model : Frame → FrameModel
frame_model (OfHeader h) = header (header_model h)
frame_model (OfScreen s) = screen s
frame_model (OfLine l) = line (line_model l)
