-- The names of the values of two sides.
use Rattle.std.specs.Prelude.{ℕ, suc, Bool, cond, ◌||◌, List, ◌++◌, map, length, Some, None, Option, nat_lt, slice_index}
use Rattle.pages.specs.declared.Name.{Name}
use Rattle.twins.specs.Naming.{name}

abbrev pub number : Name → ℕ
number n = n.0

-- a name for each value
abbrev pub names : {A : Type 0} → (A → A → Bool) → List A → List ℕ
names same xs = map (name same xs) xs

-- at most four values a side are named, the left ones first
abbrev pub named : {A : Type 0} → (A → A → Bool) → List A → List A → Option (List ℕ)
named same xs ys = cond (nat_lt 4 (length xs) || nat_lt 4 (length ys)) None (Some (names same (xs ++ ys)))

-- the name of one value more, by the place where it was met
abbrev pub next_name : List ℕ → ℕ → Option ℕ → ℕ
next_name ns next None = next
next_name ns next (Some j) = slice_index ns j

abbrev pub next_after : ℕ → Option ℕ → ℕ
next_after next None = suc next
next_after next (Some j) = next
