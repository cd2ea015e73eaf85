-- What the reader awaits: first the header, then the screens, then the lines.
use Rattle.std.specs.Prelude.{ℕ, Bool, true, cond, ◌==◌, nat_lt}
use Rattle.dump.specs.declared.reader.Due.{Due}
use Rattle.dump.specs.declared.reader.Due.TheVariants.{Header, Screens, Lines, Nothing}

-- how many screens may still come, and how many lines
abbrev pub screens_due : Due → ℕ
screens_due Header = 32
screens_due (Screens more lines) = more
screens_due (Lines more) = 0
screens_due Nothing = 0

abbrev pub lines_due : Due → ℕ
lines_due Header = 128
lines_due (Screens more lines) = lines
lines_due (Lines more) = more
lines_due Nothing = 0

-- screens or lines are awaited only while there are more to come
abbrev pub some_due : Due → Bool
some_due Header = true
some_due (Screens more lines) = nat_lt 0 more
some_due (Lines more) = nat_lt 0 more
some_due Nothing = true

abbrev pub after_lines : ℕ → Due
after_lines more = cond (more == 0) Nothing (Lines more)

abbrev pub after_screens : ℕ → ℕ → Due
after_screens more lines = cond (more == 0) (after_lines lines) (Screens more lines)
