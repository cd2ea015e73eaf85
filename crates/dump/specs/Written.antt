-- The dump of a page: its frames, one a line.
use Rattle.std.specs.Prelude.{ℕ, List, ◌∷◌, ◌++◌, map, length}
use Rattle.std.specs.List.{flat_map}
use Rattle.texts.specs.Digits.{line_text}
use Rattle.pages.specs.Model.{PageModel}
use Rattle.frames.specs.Model.{HeaderModel, FrameModel, header, screen, line}
use Rattle.frames.specs.Bytes.{frame_bytes}

abbrev pub header_of : PageModel → HeaderModel
header_of p = record { screens = length p.screens; lines = length p.lines; start = p.start; numbers = p.numbers }

-- the header, the screens, the lines
abbrev pub frames_of : PageModel → List FrameModel
frames_of p = header (header_of p) ∷ (map screen p.screens ++ map line p.lines)

-- a frame as a line of the dump
abbrev pub frame_text : FrameModel → List ℕ
frame_text f = line_text (frame_bytes f)

abbrev pub written : PageModel → List ℕ
written p = flat_map frame_text (frames_of p)
