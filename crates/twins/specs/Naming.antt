-- Normal naming: names are given in order, and each value not met before gets the next number, from 0.
use Rattle.std.specs.Prelude.{ℕ, suc, Bool, cond, not, List, [], ◌∷◌, filter}

-- the elements not met before, in order
abbrev pub firsts : {A : Type 0} → (A → A → Bool) → List A → List A
firsts eq [] = []
firsts eq (x ∷ xs) = x ∷ filter (λ y. not (eq x y)) (firsts eq xs)

-- the place of the first element that equals x
abbrev pub index : {A : Type 0} → (A → A → Bool) → A → List A → ℕ
index eq x [] = 0
index eq x (y ∷ ys) = cond (eq x y) 0 (suc (index eq x ys))

-- the name of x among the values xs: each value not met before gets the next number
abbrev pub name : {A : Type 0} → (A → A → Bool) → List A → A → ℕ
name eq xs x = index eq x (firsts eq xs)
