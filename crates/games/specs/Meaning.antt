-- What a match means: for each code a list of challenges, each with a side and its replies, which are codes.
use Rattle.std.specs.Prelude.{◌≡◌, ℕ, ◌^◌, ◌<◌, ◌≤◌, true, List, [], ◌∷◌, ◌++◌, length, Some, None, Option, nat_lt}
use Rattle.std.specs.List.{slice_get}
use Rattle.std.specs.Option.{option_map}
use Rattle.lists.specs.Every.{every}
use Rattle.games.specs.declared.Side.{Side}

-- a challenge is made by a side; each reply leads to a position: in a match, a code
pub record Challenge (X : Type 0) : Type 0 where
  pub side : Side
  pub replies : List X

-- the challenges at each position
abbrev pub Challenges : Type 0 → Type 0
Challenges X = X → List (Challenge X)

-- START, TOP, and the challenges at each code
pub record Meaning : Type 0 where
  pub start : ℕ
  pub top : ℕ
  pub at : Challenges ℕ

-- all replies of challenges, in order
abbrev pub replies_at : {X : Type 0} → List (Challenge X) → List X
replies_at [] = []
replies_at (c ∷ cs) = c.replies ++ replies_at cs

abbrev pub replies_of : {X : Type 0} → Option (Challenge X) → List X
replies_of None = []
replies_of (Some c) = c.replies

-- SIDE, REPLIES and NEXT: none exactly for a position beyond a list
abbrev pub side_at : Meaning → ℕ → ℕ → Option Side
side_at m x n = option_map (λ c. c.side) (slice_get (m.at x) n)

abbrev pub replies_to : Meaning → ℕ → ℕ → Option ℕ
replies_to m x n = option_map (λ c. length c.replies) (slice_get (m.at x) n)

abbrev pub next_of : {X : Type 0} → Option (Challenge X) → ℕ → Option X
next_of None k = None
next_of (Some c) k = slice_get c.replies k

abbrev pub next_at : Meaning → ℕ → ℕ → ℕ → Option ℕ
next_at m x n k = next_of (slice_get (m.at x) n) k

-- every code that the match leads to is below its top, and a code that it does not use has no challenges
pub record Below (m : Meaning) : Type 0 where
  pub start_below : m.start < m.top
  pub top_small : m.top ≤ 2 ^ 62
  pub next_below : (x : ℕ) → every (λ y. nat_lt y m.top) (replies_at (m.at x)) ≡ true
  pub unused : (x : ℕ) → m.top ≤ x → m.at x ≡ []
