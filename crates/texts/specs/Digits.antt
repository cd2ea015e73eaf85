-- Bytes as pairs of hexadecimal digits, and back.
use Rattle.std.specs.Prelude.{ℕ, ◌+◌, ◌-◌, ◌*◌, ◌/◌, ◌%◌, Bool, cond, List, [], ◌∷◌, ◌++◌, is_some, Some, None, Option, nat_lt}
use Rattle.std.specs.List.{flat_map}
use Rattle.std.specs.Option.{unwrap_or}
use Rattle.lists.specs.Between.{between}

-- 0 to 9 are the bytes 48 to 57, A to F the bytes 65 to 70
abbrev pub digit : ℕ → Option ℕ
digit b = cond (between 48 57 b) (Some (b - 48)) (cond (between 65 70 b) (Some (b - 65 + 10)) None)

abbrev pub is_digit : ℕ → Bool
is_digit b = is_some (digit b)

abbrev pub value : ℕ → ℕ
value b = unwrap_or (digit b) 0

-- two digits a byte, the higher first
abbrev pub bytes_of : List ℕ → List ℕ
bytes_of [] = []
bytes_of (a ∷ []) = []
bytes_of (a ∷ b ∷ bs) = (16 * value a + value b) ∷ bytes_of bs

-- the digit of a value below 16
abbrev pub char : ℕ → ℕ
char v = cond (nat_lt v 10) (48 + v) (55 + v)

abbrev pub hex : ℕ → List ℕ
hex b = char (b / 16) ∷ char (b % 16) ∷ []

abbrev pub hexes : List ℕ → List ℕ
hexes bs = flat_map hex bs

-- bytes as a line of a text
abbrev pub line_text : List ℕ → List ℕ
line_text bs = hexes bs ++ 10 ∷ []
