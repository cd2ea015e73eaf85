-- A text at the front of an output.
use Rattle.std.specs.Prelude.{ℕ, cond, List, ◌++◌, length, drop, Ok, Err, Result, nat_le}
use Rattle.texts.specs.declared.output.OutputFault.{OutputFault}
use Rattle.texts.specs.declared.output.OutputFault.TheVariants.{TooShort}

-- the length of a text of n bytes, where an output of m has room for it
abbrev pub fitted : ℕ → ℕ → Result ℕ OutputFault
fitted n m = cond (nat_le n m) (Ok n) (Err TooShort)

-- the text, then the output's own bytes; where the text does not fit, all as it was
abbrev pub laid : List ℕ → List ℕ → List ℕ
laid t out = cond (nat_le (length t) (length out)) (t ++ drop (length t) out) out
