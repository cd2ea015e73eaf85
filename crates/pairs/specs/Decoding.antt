-- Which numbers are the codes of pairs.
use Rattle.std.specs.Prelude.{ℕ, Bool, cond, not, ◌&&◌, ◌++◌, Some, None, Option, ◌==◌, nat_eq, nat_lt}
use Rattle.naming.specs.Names.{names}
use Rattle.twins.specs.Pairs.{Pair}
use Rattle.twins.specs.Codes.{code, pair_of, same_list}

-- digit 15 stands at an unused slot
abbrev pub used_digit : ℕ → Bool
used_digit d = not (d == 15)

abbrev pub in_order : Pair → Bool
in_order p = same_list (names nat_eq (p.lefts ++ p.rights)) (p.lefts ++ p.rights)

-- the number is the code of a pair with names in order
abbrev pub stands : ℕ → Bool
stands c = nat_lt (pair_of c).left 32 && (code (pair_of c) == c && in_order (pair_of c))

abbrev pub decoded : ℕ → Option Pair
decoded c = cond (stands c) (Some (pair_of c)) None
