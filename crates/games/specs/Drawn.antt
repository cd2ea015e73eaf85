-- Drawn matches: rows in order, each with a code, a side and a part of a list of replies.
use Rattle.std.specs.Prelude.{ℕ, zero, suc, ◌%◌, ◌^◌, Bool, List, map, take, drop, filter, ◌==◌}
use Rattle.games.specs.Meaning.{Meaning, Challenge}
use Rattle.games.specs.declared.Side.{Side}
use Rattle.games.specs.declared.Side.TheVariants.{Left, Right}
use Rattle.games.specs.declared.drawn.Row.{Row}

-- 0 is left, any other byte right
abbrev pub side_of : ℕ → Side
side_of zero = Left
side_of (suc n) = Right

-- a code of a drawn match has 32 bits: the remainder is the code itself
abbrev pub code32 : ℕ → ℕ
code32 y = y % 2 ^ 32

-- that many codes of the list from the first position on, cut at its end
abbrev pub row_replies : List ℕ → Row → List ℕ
row_replies replies r = take r.number (drop r.first replies)

abbrev pub row_challenge : List ℕ → Row → Challenge ℕ
row_challenge replies r = record { side = side_of r.side; replies = map code32 (row_replies replies r) }

abbrev pub of_code : ℕ → Row → Bool
of_code x r = code32 r.code == x

-- the rows of a code, in order
abbrev pub rows_at : List Row → ℕ → List Row
rows_at rows x = filter (of_code x) rows

abbrev pub drawn : ℕ → List Row → List ℕ → Meaning
drawn start rows replies = record { start = code32 start; top = 2 ^ 32; at = λ x. map (row_challenge replies) (rows_at rows x) }
