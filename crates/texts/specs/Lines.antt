-- The lines of a text.
use Rattle.std.specs.Prelude.{ℕ, zero, suc, cond, List, [], ◌∷◌, None, Option, ◌==◌, nat_eq}
use Rattle.std.specs.List.{slice_get}
use Rattle.values.specs.Places.{first_place}

-- each line that 0A ends, then what follows the last 0A
pub data Lines : Type 0 where
  last : List ℕ → Lines
  ended : List ℕ → Lines → Lines

-- with a byte more at the front of the first line
abbrev pub longer : ℕ → Lines → Lines
longer b (last l) = last (b ∷ l)
longer b (ended l ls) = ended (b ∷ l) ls

abbrev pub lines_of : List ℕ → Lines
lines_of [] = last []
lines_of (b ∷ bs) = cond (10 == b) (ended [] (lines_of bs)) (longer b (lines_of bs))

-- the lines without their 0A; a last piece of one byte or more is a line too
abbrev pub pieces : Lines → List (List ℕ)
pieces (last []) = []
pieces (last (b ∷ l)) = (b ∷ l) ∷ []
pieces (ended l ls) = l ∷ pieces ls

-- the line with this number; lines count from 1
abbrev pub line_at : Lines → ℕ → Option (List ℕ)
line_at ls zero = None
line_at ls (suc n) = slice_get (pieces ls) n

-- where the first 0A stands
abbrev pub ended_at : List ℕ → Option ℕ
ended_at t = first_place (nat_eq 10) t
