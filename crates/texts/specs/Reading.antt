-- What the text layer asks, and what it answers.
use Rattle.std.specs.Prelude.{ℕ, ◌%◌, Bool, cond, ◌&&◌, List, length, Ok, Err, Result, ◌==◌, nat_le}
use Rattle.std.specs.Option.{ok_or}
use Rattle.lists.specs.Between.{between}
use Rattle.lists.specs.Every.{every}
use Rattle.texts.specs.declared.faults.TextQuestion.{TextQuestion}
use Rattle.texts.specs.declared.faults.TextQuestion.TheVariants.{Side, Length, Ended, Digits, Count}
use Rattle.texts.specs.declared.faults.TextFault.{TextFault}
use Rattle.texts.specs.declared.faults.LineFault.{LineFault}
use Rattle.texts.specs.declared.faults.LineFault.TheVariants.{Text, Missing}
use Rattle.texts.specs.Answers.{asked, after, lifted}
use Rattle.texts.specs.Lines.{Lines, last, ended, lines_of, line_at}
use Rattle.texts.specs.Digits.{is_digit, bytes_of}

abbrev pub text_fault : TextQuestion → ℕ → TextFault
text_fault q at = record { question = q; line = at }

-- at most 4,096 bytes
abbrev pub short_enough : List ℕ → Result (Unit {0}) TextFault
short_enough text = asked (nat_le (length text) 4096) (text_fault Length 0) (Ok tt)

-- 2 to 32 digits, an even number
abbrev pub well_counted : List ℕ → Bool
well_counted l = between 2 32 (length l) && length l % 2 == 0

-- the bytes that a line without its 0A says
abbrev pub line_bytes : ℕ → List ℕ → Result (List ℕ) TextFault
line_bytes at l =
    asked (every is_digit l) (text_fault Digits at)
    (asked (well_counted l) (text_fault Count at)
    (Ok (bytes_of l)))

-- the bytes that the first line says, and the lines after it
abbrev pub first_bytes : ℕ → Lines → Result (List ℕ × Lines) TextFault
first_bytes at (last l) = Err (text_fault Ended at)
first_bytes at (ended l ls) = after (line_bytes at l) (λ bs. Ok (bs, ls))

-- side 0 is left, 1 is right
abbrev pub by_side : List ℕ → List ℕ → ℕ → Result (List ℕ) TextFault
by_side left right side = cond (side == 0) (Ok left) (cond (side == 1) (Ok right) (Err (text_fault Side 0)))

-- LINE: a numbered line of the text on a side
abbrev pub line_answer : List ℕ → List ℕ → ℕ → ℕ → Result (List ℕ) LineFault
line_answer left right side number = after (lifted Text (by_side left right side)) (λ t. ok_or (line_at (lines_of t) number) Missing)
