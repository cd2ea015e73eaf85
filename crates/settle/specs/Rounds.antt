-- Settling round by round: round n gives its count to exactly the listed codes of count n.
use Rattle.std.specs.Prelude.{◌≡◌, ℕ, zero, suc, ◌-◌, ◌<◌, ◌≤◌, Bool, cond, ◌&&◌, List, length, Some, None, Option, ◌==◌, nat_eq, nat_lt, slice_index}
use Rattle.lists.specs.Every.{any}
use Rattle.values.specs.Places.{first_place}
use Rattle.games.specs.Meaning.{Meaning}
use Rattle.games.specs.Counts.{forces, has_count, CountIs}
use Rattle.games.specs.Listing.{Closed}

-- the count beside the first place of y, 0 where y has none
abbrev pub looked_up : List ℕ → Option ℕ → ℕ
looked_up rs None = 0
looked_up rs (Some i) = slice_index rs i

abbrev pub count_beside : List ℕ → List ℕ → ℕ → ℕ
count_beside xs rs y = looked_up rs (first_place (nat_eq y) xs)

-- y has a count from 1 to n - 1 written beside it
abbrev pub marked : List ℕ → List ℕ → ℕ → ℕ → Bool
marked xs rs n y = nat_lt 0 (count_beside xs rs y) && nat_lt (count_beside xs rs y) n

-- the count of x among 1 to n, 0 where it has none there
abbrev pub tally : Meaning → ℕ → ℕ → ℕ
tally m zero x = 0
tally m (suc n) x = cond (has_count m.at (suc n) x) (suc n) (tally m n x)

-- the i-th code has no count, and some challenge has only replies with counts below n
abbrev pub due : Meaning → List ℕ → List ℕ → ℕ → ℕ → Bool
due m xs rs n i = slice_index rs i == 0 && forces m.at (marked xs rs n) (slice_index xs i)

-- before round n: the list of codes is closed, and the counts below n stand beside them
pub record RoundReady (m : Meaning) (xs rs : List ℕ) (n : ℕ) : Type 0 where
  pub closed : Closed m xs
  pub same : length xs ≡ length rs
  pub some : 0 < n
  pub before : (k : ℕ) → k < length xs → slice_index rs k ≡ tally m (n - 1) (slice_index xs k)

-- after round n: the counts up to n, and whether a code has the count n
pub record RoundDone (m : Meaning) (xs rs : List ℕ) (n : ℕ) (given : Bool) : Type 0 where
  pub same : length xs ≡ length rs
  pub after : (k : ℕ) → k < length xs → slice_index rs k ≡ tally m n (slice_index xs k)
  pub given_is : given ≡ any (has_count m.at n) xs

-- each code beside its count, 0 for none
abbrev pub CountsAre : Meaning → List ℕ → List ℕ → Type 0
CountsAre m xs rs = (k : ℕ) → k < length xs → CountIs m (slice_index xs k) (slice_index rs k)

-- before the first round
pub record AllClear (m : Meaning) (xs rs : List ℕ) : Type 0 where
  pub closed : Closed m xs
  pub same : length xs ≡ length rs
  pub few : length xs ≤ 1024
  pub clear : (k : ℕ) → k < length xs → slice_index rs k ≡ 0
