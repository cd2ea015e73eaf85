-- The laws of normal naming.
use Rattle.std.specs.Prelude.{◌≡◌, ℕ, ◌<◌, Bool, List, map, length, nat_eq}
use Rattle.programs.specs.Places.{In}
use Rattle.twins.specs.Naming.{name}
use Rattle.twins.specs.Pairs.{normal}
use Rattle.twins.specs.Twins.{Equivalence}

-- equal patterns of values have equal names
abbrev pub PatternNames : Type 1
PatternNames =
    (A B : Type 0) (ea : A → A → Bool) (eb : B → B → Bool) (zs : List (A × B)) →
    ((y z : A × B) → In y zs → In z zs → ea y.0 z.0 ≡ eb y.1 z.1) →
    (z : A × B) → In z zs → name ea (map (λ y. y.0) zs) z.0 ≡ name eb (map (λ y. y.1) zs) z.1

-- naming the names of a pair gives that pair
abbrev pub NormalAgain : Type 1
NormalAgain =
    (A : Type 0) (same : A → A → Bool) → Equivalence same → (i j : ℕ) (xs ys : List A) →
    normal nat_eq i j (normal same i j xs ys).lefts (normal same i j xs ys).rights ≡ normal same i j xs ys

-- names are below the number of slots
abbrev pub NamesSmall : Type 0
NamesSmall = (xs : List ℕ) (x : ℕ) → In x xs → name nat_eq xs x < length xs
