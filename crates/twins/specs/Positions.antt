-- The game of two pages at pairs, by lists of challenges.
use Rattle.std.specs.Prelude.{ℕ, ◌<◌, T, List, [], ◌++◌, map}
use Rattle.pages.specs.Model.{PageModel}
use Rattle.programs.specs.Places.{In}
use Rattle.games.specs.declared.Side.TheVariants.{Left, Right}
use Rattle.games.specs.Meaning.{Challenge, Challenges}
use Rattle.games.specs.Counts.{has_count}
use Rattle.games.specs.LeftOnly.{lefts}
use Rattle.twins.specs.Games.{Game, Strategy, SureBy}
use Rattle.twins.specs.Pairs.{Pair, Rule, both, left_only, lines_of, replies}

-- a game by its lists of challenges
abbrev pub game_of : {X : Type 0} → Challenges X → Game X
game_of {X} M = record { Challenge = λ x. (c : Challenge X) × In c (M x); Reply = λ x c y. In y c.0.replies }

-- the left page's lines out of its screen, then the right's, by number
abbrev pub challenges_of : PageModel → PageModel → Challenges Pair
challenges_of g h p =
    map (λ l. record { side = Left; replies = replies g h p Left l }) (lines_of g p.left)
    ++ map (λ l. record { side = Right; replies = replies g h p Right l }) (lines_of h p.right)

abbrev pub meaning : Rule → PageModel → PageModel → Challenges Pair
meaning both g h = challenges_of g h
meaning left_only g h = λ p. lefts (challenges_of g h p)

-- the list has the replies to each challenge at a position of it
abbrev pub ClosedUnder : {X : Type 0} → Challenges X → List X → Type 0
ClosedUnder {X} M L = (x : X) → In x L → (c : Challenge X) → In c (M x) → (y : X) → In y c.replies → In y L

-- Counts are exact: within its count some way of challenging is sure to win, and within less none is.
abbrev pub CountsExact : {X : Type 0} → Challenges X → Type 0
CountsExact {X} M =
    (n : ℕ) (x : X) → T (has_count M n x) →
    ((s : Strategy (game_of M)) × SureBy (game_of M) s n [] x)
    × ((m : ℕ) → m < n → (s : Strategy (game_of M)) → SureBy (game_of M) s m [] x → ⊥)
