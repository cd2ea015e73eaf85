-- The numbers of the text layer's refusals.
use Rattle.std.specs.Prelude.{ℕ}
use Rattle.texts.specs.declared.faults.TextQuestion.{TextQuestion}
use Rattle.texts.specs.declared.faults.TextQuestion.TheVariants.{Side, Length, Ended, Digits, Count}
use Rattle.texts.specs.declared.faults.LineFault.{LineFault}
use Rattle.texts.specs.declared.faults.LineFault.TheVariants.{Text, Missing}
use Rattle.texts.specs.declared.output.OutputFault.{OutputFault}
use Rattle.texts.specs.declared.output.OutputFault.TheVariants.{TooShort}

-- is the side 0 or 1; has the text at most 4,096 bytes; is the line ended by 0A; is every byte before that a digit;
-- are there 2 to 32 digits, an even number
abbrev pub text_number : TextQuestion → ℕ
text_number Side = 10
text_number Length = 11
text_number Ended = 12
text_number Digits = 13
text_number Count = 14

-- a line is asked for by a side and a number: the side's fault, or no such line
abbrev pub line_number : LineFault → ℕ
line_number (Text t) = text_number t.question
line_number Missing = 74

-- the output has no room for the text
abbrev pub output_number : OutputFault → ℕ
output_number TooShort = 71
