-- Names in order of first occurrence, and the pair of two screens whose slots hold values.
use Rattle.std.specs.Prelude.{◌≡◌, ℕ, Bool, cond, ◌&&◌, List, length, Some, None, Option, nat_eq, nat_lt}
use Rattle.naming.specs.Names.{names}
use Rattle.twins.specs.Pairs.{Pair, normal}

-- the names of the names are these names
abbrev pub InOrder : List ℕ → Type 0
InOrder ns = names nat_eq ns ≡ ns

-- screens are numbered from 0 to 31, and have at most four slots
abbrev pub pair_fits : ℕ → ℕ → ℕ → ℕ → Bool
pair_fits i j m n = nat_lt i 32 && (nat_lt j 32 && (nat_lt m 5 && nat_lt n 5))

abbrev pub pair_of_values : {A : Type 0} → (A → A → Bool) → ℕ → ℕ → List A → List A → Option Pair
pair_of_values same i j xs ys = cond (pair_fits i j (length xs) (length ys)) (Some (normal same i j xs ys)) None
