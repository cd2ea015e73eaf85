-- Held sets of codes.
use Rattle.std.specs.Prelude.{◌≡◌, ℕ, Bool, true, Some}
use Rattle.std.specs.List.{slice_get}
use Rattle.lists.specs.Every.{every, any}
use Rattle.games.specs.Meaning.{Meaning, Challenge}

-- each challenge at x has a reply in the set
abbrev pub answers : Meaning → (ℕ → Bool) → ℕ → Bool
answers m s x = every (λ c. any s c.replies) (m.at x)

-- a set of codes is held when each challenge at each of its codes has a reply in the set
abbrev pub Held : Meaning → (ℕ → Bool) → Type 0
Held m s = (x : ℕ) → s x ≡ true → answers m s x ≡ true

-- some held set contains START
abbrev pub Holds : Meaning → Type 0
Holds m = (s : ℕ → Bool) × Held m s × (s m.start ≡ true)

-- a set of any sort: each challenge at each of its codes has a reply in the set
abbrev pub HeldBy : Meaning → (ℕ → Type 0) → Type 0
HeldBy m S = (x : ℕ) → S x → (i : ℕ) (c : Challenge ℕ) → slice_get (m.at x) i ≡ Some c → (k : ℕ) × (y : ℕ) × (slice_get c.replies k ≡ Some y) × S y
