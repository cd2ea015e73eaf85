-- The page layer: how a frame is taken, and what is asked after the last.
use Rattle.std.specs.Prelude.{ℕ, ◌-◌, Bool, true, false, [], ◌∷◌, ◌++◌, length, Ok, Err, Result, ◌==◌, nat_lt}
use Rattle.texts.specs.Answers.{asked}
use Rattle.pages.specs.declared.Screen.{Screen}
use Rattle.pages.specs.Model.{LineModel, PageModel, parts_model}
use Rattle.pages.specs.Formed.{slots_at, line_stands}
use Rattle.frames.specs.Model.{HeaderModel, FrameModel, header, screen, line}
use Rattle.dump.specs.declared.faults.PageQuestion.{PageQuestion}
use Rattle.dump.specs.declared.faults.PageQuestion.TheVariants.{Awaited, Start, Line, Complete, Numbers}
use Rattle.dump.specs.declared.faults.PageFault.{PageFault}
use Rattle.dump.specs.declared.faults.PageFault.TheVariants.{Page}
use Rattle.dump.specs.declared.reader.Due.{Due}
use Rattle.dump.specs.declared.reader.Due.TheVariants.{Header, Screens, Lines, Nothing}
use Rattle.dump.specs.declared.reader.Reader.{Reader}
use Rattle.dump.specs.Due.{after_screens, after_lines}

-- what is awaited, and the page as far as it has come
pub record ReaderModel : Type 0 where
  pub due : Due
  pub page : PageModel

abbrev pub reader_model : Reader → ReaderModel
reader_model r = record { due = r.due; page = parts_model r.parts }

abbrev pub first_reader : ReaderModel
first_reader = record { due = Header; page = record { screens = []; lines = []; start = 0; numbers = [] } }

abbrev pub page_fault : PageQuestion → ℕ → PageFault
page_fault q at = Page q at

abbrev pub take_header : ℕ → Due → PageModel → HeaderModel → Result ReaderModel PageFault
take_header at Header p h =
    asked (nat_lt h.start h.screens) (page_fault Start at)
    (Ok (record { due = Screens h.screens h.lines; page = record { screens = p.screens; lines = p.lines; start = h.start; numbers = h.numbers } }))
take_header at (Screens more lines) p h = Err (page_fault Awaited at)
take_header at (Lines more) p h = Err (page_fault Awaited at)
take_header at Nothing p h = Err (page_fault Awaited at)

abbrev pub take_screen : ℕ → Due → PageModel → Screen → Result ReaderModel PageFault
take_screen at Header p s = Err (page_fault Awaited at)
take_screen at (Screens more lines) p s =
    Ok (record { due = after_screens (more - 1) lines; page = record { screens = p.screens ++ s ∷ []; lines = p.lines; start = p.start; numbers = p.numbers } })
take_screen at (Lines more) p s = Err (page_fault Awaited at)
take_screen at Nothing p s = Err (page_fault Awaited at)

abbrev pub take_line : ℕ → Due → PageModel → LineModel → Result ReaderModel PageFault
take_line at Header p l = Err (page_fault Awaited at)
take_line at (Screens more lines) p l = Err (page_fault Awaited at)
take_line at (Lines more) p l =
    asked (line_stands p.screens l) (page_fault Line at)
    (Ok (record { due = after_lines (more - 1); page = record { screens = p.screens; lines = p.lines ++ l ∷ []; start = p.start; numbers = p.numbers } }))
take_line at Nothing p l = Err (page_fault Awaited at)

abbrev pub step : ℕ → ReaderModel → FrameModel → Result ReaderModel PageFault
step at r (header h) = take_header at r.due r.page h
step at r (screen s) = take_screen at r.due r.page s
step at r (line l) = take_line at r.due r.page l

abbrev pub complete : Due → Bool
complete Header = false
complete (Screens more lines) = false
complete (Lines more) = false
complete Nothing = true

-- after the text: at is one more than the number of text lines
abbrev pub finish : ℕ → ReaderModel → Result PageModel PageFault
finish at r =
    asked (complete r.due) (page_fault Complete at)
    (asked (length r.page.numbers == slots_at r.page.screens r.page.start) (page_fault Numbers 1)
    (Ok r.page))
