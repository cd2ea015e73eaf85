-- Counts: how many challenges the challenger needs, from any position of a game of challenges.
use Rattle.std.specs.Prelude.{◌≡◌, ℕ, zero, suc, Bool, true, false, not, ◌&&◌, ◌||◌}
use Rattle.lists.specs.Every.{every, any}
use Rattle.games.specs.Meaning.{Meaning, Challenges}

-- some challenge at x has only replies with the property
abbrev pub forces : {X : Type 0} → Challenges X → (X → Bool) → X → Bool
forces at p x = any (λ c. every p c.replies) (at x)

-- x has a count from 1 to n
abbrev pub within : {X : Type 0} → Challenges X → ℕ → X → Bool
within at zero x = false
within at (suc n) x = within at n x || forces at (within at n) x

-- x has the count n: none from 1 to n - 1, but some challenge has only replies with counts from 1 to n - 1
-- (at n = 1: some challenge has no reply)
abbrev pub has_count : {X : Type 0} → Challenges X → ℕ → X → Bool
has_count at zero x = false
has_count at (suc n) x = not (within at n x) && forces at (within at n) x

-- r is the count of the code x, or 0 where x has none
abbrev pub CountIs : Meaning → ℕ → ℕ → Type 0
CountIs m x zero = (n : ℕ) → has_count m.at n x ≡ false
CountIs m x (suc r) = has_count m.at (suc r) x ≡ true
