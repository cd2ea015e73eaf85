-- The bytes of a frame, and which frames bytes can say.
use Rattle.std.specs.Prelude.{ℕ, Bool, true, ◌&&◌, List, [], ◌∷◌, map, length, nat_le}
use Rattle.lists.specs.Between.{between}
use Rattle.lists.specs.Every.{every}
use Rattle.pages.specs.declared.Name.{Name}
use Rattle.pages.specs.declared.Source.{Source}
use Rattle.pages.specs.declared.Source.TheVariants.{Kept, Taken}
use Rattle.pages.specs.declared.LineKind.{LineKind}
use Rattle.pages.specs.declared.LineKind.TheVariants.{Take, Show}
use Rattle.pages.specs.Model.{LineModel}
use Rattle.frames.specs.Model.{HeaderModel, FrameModel, header, screen, line}
use Rattle.frames.specs.Fields.{source_byte, name_byte, kind_byte, third_byte}

abbrev pub header_bytes : HeaderModel → List ℕ
header_bytes h = 1 ∷ h.screens ∷ h.lines ∷ h.start ∷ map name_byte h.numbers

abbrev pub line_bytes : LineModel → List ℕ
line_bytes l = 3 ∷ l.from ∷ kind_byte l.kind ∷ l.port.0 ∷ third_byte l.kind ∷ l.next ∷ map source_byte l.sources

abbrev pub frame_bytes : FrameModel → List ℕ
frame_bytes (header h) = header_bytes h
frame_bytes (screen s) = 2 ∷ s.slots ∷ []
frame_bytes (line l) = line_bytes l

abbrev pub source_sound : Source → Bool
source_sound (Kept s) = nat_le s.0 3
source_sound Taken = true

abbrev pub kind_sound : LineKind → Bool
kind_sound Take = true
kind_sound (Show s) = nat_le s.0 3

abbrev pub name_sound : Name → Bool
name_sound n = nat_le n.0 7

-- every field is in range, so that bytes can say the frame
abbrev pub sound : FrameModel → Bool
sound (header h) = between 1 32 h.screens && (nat_le h.lines 128 && (every name_sound h.numbers && nat_le (length h.numbers) 4))
sound (screen s) = nat_le s.slots 4
sound (line l) = kind_sound l.kind && (nat_le l.port.0 31 && (every source_sound l.sources && nat_le (length l.sources) 4))
