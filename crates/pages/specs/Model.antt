-- Pages and their lines as plain lists and numbers.
use Rattle.std.specs.Prelude.{ℕ, List, map}
use Rattle.lists.specs.Held.{held}
use Rattle.pages.specs.declared.Port.{Port}
use Rattle.pages.specs.declared.Name.{Name}
use Rattle.pages.specs.declared.Screen.{Screen}
use Rattle.pages.specs.declared.Source.{Source}
use Rattle.pages.specs.declared.LineKind.{LineKind}
use Rattle.pages.specs.declared.Line.{Line}
use Rattle.pages.specs.declared.Parts.{Parts}

-- a line leaves the screen from by a port, leads to the screen next, and has a source for each slot of it
pub record LineModel : Type 0 where
  pub from : ℕ
  pub kind : LineKind
  pub port : Port
  pub next : ℕ
  pub sources : List Source

-- screens and lines are numbered from 0 by their places; start is a screen, with a number for each of its slots
pub record PageModel : Type 0 where
  pub screens : List Screen
  pub lines : List LineModel
  pub start : ℕ
  pub numbers : List Name

-- a stored line
abbrev pub line_model : Line → LineModel
line_model l = record { from = l.from; kind = l.kind; port = l.port; next = l.next; sources = held l.sources }

-- stored parts, well formed or not
abbrev pub parts_model : Parts → PageModel
parts_model p = record { screens = held p.screens; lines = map line_model (held p.lines); start = p.start; numbers = held p.numbers }
