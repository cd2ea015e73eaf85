-- The codes that a match leads to, and the order in which they are listed.
use Rattle.std.specs.Prelude.{◌≡◌, ℕ, zero, suc, ◌<◌, Bool, true, cond, not, ◌&&◌, List, [], ◌∷◌, ◌++◌, length, Some, None, Option, nat_eq}
use Rattle.std.specs.List.{slice_get}
use Rattle.lists.specs.Every.{every, any}
use Rattle.games.specs.Meaning.{Meaning, replies_at}

-- y stands in the list
abbrev pub listed : ℕ → List ℕ → Bool
listed y xs = any (nat_eq y) xs

-- START is reached, and so is each reply at a code that is reached
pub data Reached (m : Meaning) : ℕ → Type 0 where
  at_start : Reached m m.start
  at_reply : (x y : ℕ) → Reached m x → listed y (replies_at (m.at x)) ≡ true → Reached m y

abbrev pub distinct : List ℕ → Bool
distinct [] = true
distinct (x ∷ xs) = not (listed x xs) && distinct xs

-- more than n codes are reached
abbrev pub MoreThan : Meaning → ℕ → Type 0
MoreThan m n = (xs : List ℕ) × (distinct xs ≡ true) × ((x : ℕ) → listed x xs ≡ true → Reached m x) × (n < length xs)

-- each code that is not listed yet goes to the end
abbrev pub with_new : List ℕ → List ℕ → List ℕ
with_new seen [] = seen
with_new seen (y ∷ ys) = with_new (cond (listed y seen) seen (seen ++ (y ∷ []))) ys

abbrev pub expanded : Meaning → List ℕ → Option ℕ → List ℕ
expanded m seen None = seen
expanded m seen (Some x) = with_new seen (replies_at (m.at x))

-- START, then for each of the first k listed codes, by challenge and reply, every code not yet listed
abbrev pub listing : Meaning → ℕ → List ℕ
listing m zero = m.start ∷ []
listing m (suc k) = expanded m (listing m k) (slice_get (listing m k) k)

-- each reply at a code of the list is in the list
abbrev pub Closed : Meaning → List ℕ → Type 0
Closed m xs = (x : ℕ) → listed x xs ≡ true → every (λ y. listed y xs) (replies_at (m.at x)) ≡ true
