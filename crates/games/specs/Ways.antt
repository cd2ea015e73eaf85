-- Ways of challenging.
use Rattle.std.specs.Prelude.{◌≡◌, ℕ, zero, suc, ◌<◌, Bool, true, false, List, [], ◌∷◌, Some, None, Option}
use Rattle.std.specs.List.{slice_get}
use Rattle.lists.specs.Every.{every}
use Rattle.games.specs.Meaning.{Meaning, Challenge}

-- a way of challenging: by the replies so far, newest first, the number of a challenge, or it stops
abbrev pub Way : Type 0
Way = List ℕ → Option ℕ

abbrev pub chosen : List (Challenge ℕ) → Option ℕ → Option (Challenge ℕ)
chosen cs None = None
chosen cs (Some i) = slice_get cs i

-- all replies of the chosen challenge go on to a win
abbrev pub each_reply : (ℕ → Bool) → Option (Challenge ℕ) → Bool
each_reply p None = false
each_reply p (Some c) = every p c.replies

-- whatever the replies, one of the first n challenges has no reply
abbrev pub sure : Meaning → Way → ℕ → ℕ → List ℕ → Bool
sure m w zero x past = false
sure m w (suc n) x past = each_reply (λ y. sure m w n y (y ∷ past)) (chosen (m.at x) (w past))

abbrev pub SureWithin : Meaning → ℕ → Type 0
SureWithin m n = (w : Way) × (sure m w n m.start [] ≡ true)

-- the challenger needs r challenges
abbrev pub Fails : Meaning → ℕ → Type 0
Fails m r = SureWithin m r × ((n : ℕ) → n < r → SureWithin m n → ⊥)
