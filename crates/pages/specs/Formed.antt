-- Which pages are well formed.
use Rattle.std.specs.Prelude.{ℕ, Bool, true, false, cond, ◌&&◌, List, length, Some, None, Option, ◌==◌, nat_le, nat_lt, slice_index_or}
use Rattle.lists.specs.Every.{every}
use Rattle.pages.specs.declared.Name.{Name}
use Rattle.pages.specs.declared.Screen.{Screen}
use Rattle.pages.specs.declared.Source.{Source}
use Rattle.pages.specs.declared.Source.TheVariants.{Kept, Taken}
use Rattle.pages.specs.declared.LineKind.{LineKind}
use Rattle.pages.specs.declared.LineKind.TheVariants.{Take, Show}
use Rattle.pages.specs.Model.{LineModel, PageModel}

-- how many slots a screen has, 0 for one that does not exist
abbrev pub slots_at : List Screen → ℕ → ℕ
slots_at screens s = (slice_index_or screens s (record { slots = 0 })).slots

-- a source of a line out of a screen with n slots exists; the taken value is one in a TAKE only
abbrev pub source_stands : LineKind → ℕ → Source → Bool
source_stands kind n (Kept s) = nat_lt s.0 n
source_stands Take n Taken = true
source_stands (Show s) n Taken = false

-- the slot that a SHOW shows exists
abbrev pub shown_stands : LineKind → ℕ → Bool
shown_stands Take n = true
shown_stands (Show s) n = nat_lt s.0 n

-- both screens exist, and so do the shown slot and every source; the next screen has a source for each slot
abbrev pub line_stands : List Screen → LineModel → Bool
line_stands screens l =
    (nat_lt l.from (length screens) && nat_lt l.next (length screens))
    && (shown_stands l.kind (slots_at screens l.from)
    && (every (source_stands l.kind (slots_at screens l.from)) l.sources
    && length l.sources == slots_at screens l.next))

abbrev pub line_formed : List Screen → LineModel → Bool
line_formed screens l = nat_le l.port.0 31 && line_stands screens l

abbrev pub few_slots : Screen → Bool
few_slots s = nat_le s.slots 4

abbrev pub small_number : Name → Bool
small_number n = nat_le n.0 7

-- 1 to 32 screens of 0 to 4 slots
abbrev pub screens_formed : List Screen → Bool
screens_formed screens = nat_le 1 (length screens) && (nat_le (length screens) 32 && every few_slots screens)

-- 0 to 128 lines, on ports 0 to 31
abbrev pub lines_formed : List Screen → List LineModel → Bool
lines_formed screens lines = nat_le (length lines) 128 && every (line_formed screens) lines

-- the start screen exists and has a start number, 0 to 7, for each slot
abbrev pub start_formed : List Screen → ℕ → List Name → Bool
start_formed screens start numbers =
    nat_lt start (length screens) && (length numbers == slots_at screens start && every small_number numbers)

abbrev pub well_formed : PageModel → Bool
well_formed p =
    screens_formed p.screens
    && (lines_formed p.screens p.lines
    && start_formed p.screens p.start p.numbers)

-- the page, if it is well formed
abbrev pub formed_page : PageModel → Option PageModel
formed_page p = cond (well_formed p) (Some p) None
