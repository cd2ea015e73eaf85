use Rattle.std.proofs.Common.{◌≡◌, ℕ, ◌<◌, Bool, List, [], ◌∷◌, length, Some, sym, arith, rules}
use Rattle.values.specs.Places.{first_place}
use Rattle.values.proofs.Searched.{place_good}
use Rattle.naming.proofs.Joined.{joined}
use Rattle.naming.proofs.met.Goals as goal

within : {A : Type 0} (p : A → Bool) (xs : List A) (j : ℕ) → first_place p xs ≡ Some j → j < length xs
within p [] j e = cc
within p (x ∷ xs) j e = (place_good p (x ∷ xs) j x (sym e)).0

pub or_else-requires : goal.or_else-requires
or_else-requires g c = λ n κs w r. grind (arith, within)

pub returns : goal.returns
returns g c = search (rules, joined)
