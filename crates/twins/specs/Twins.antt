-- The game of two pages at places, with real values, and what it has to do with pairs.
use Rattle.std.specs.Prelude.{◌≡◌, ℕ, Bool, not, ◌&&◌, ◌||◌, T, List, [], ◌∷◌, ◌++◌, map, length, ◌==◌}
use Rattle.std.specs.List.{zip}
use Rattle.lists.specs.Every.{every}
use Rattle.pages.specs.Model.{PageModel}
use Rattle.programs.specs.Places.{In, Place, Act, Moves}
use Rattle.games.specs.declared.Side.{Side}
use Rattle.games.specs.declared.Side.TheVariants.{Left, Right}
use Rattle.twins.specs.Games.{Game}
use Rattle.twins.specs.Fits.{Shaped}
use Rattle.twins.specs.Pairs.{Pair, Rule, asks, side_of}

-- the match at places
pub record Places (V : Type 0) : Type 0 where
  pub lefts : Place V
  pub rights : Place V

abbrev pub place_at : {V : Type 0} → Places V → Side → Place V
place_at w s = side_of w.lefts w.rights s

abbrev pub other : Side → Side
other Left = Right
other Right = Left

abbrev pub PlaceChallenge : {V : Type 0} → Rule → PageModel → PageModel → Places V → Type 0
PlaceChallenge {V} r g h w =
    (s : Side) × T (asks r s) × ((a : Act V) × (q : Place V) × Moves (side_of g h s) (place_at w s) a q)

pub record Alike {V : Type 0} (same : V → V → Bool) (a b : Act V) : Type 0 where
  pub shows : a.shows ≡ b.shows
  pub port : a.port ≡ b.port
  pub value : T (same a.value b.value)

abbrev pub PlaceMatch : {V : Type 0} → (V → V → Bool) → Rule → PageModel → PageModel → Game (Places V)
PlaceMatch {V} same r g h =
    record {
      Challenge = PlaceChallenge r g h;
      Reply = λ w c w'.
          (place_at w' c.0 ≡ c.2.1)
          × ((b : Act V) × Moves (side_of g h (other c.0)) (place_at w (other c.0)) b (place_at w' (other c.0)) × Alike same c.2.0 b);
    }

-- the names of a pair stand for the values of two places: slots with equal names hold values that mean the same
abbrev pub Stands : {V : Type 0} → (V → V → Bool) → List (V × ℕ) → Type 0
Stands {V} same zs = (y z : V × ℕ) → In y zs → In z zs → y.1 ≡ z.1 → T (same y.0 z.0)

-- and values that mean the same have equal names
abbrev pub Apart : {V : Type 0} → (V → V → Bool) → List (V × ℕ) → Type 0
Apart {V} same zs = (y z : V × ℕ) → In y zs → In z zs → T (same y.0 z.0) → y.1 ≡ z.1

pub record Instance {V : Type 0} (Good : List (V × ℕ) → Type 0) (p : Pair) (w : Places V) : Type 0 where
  pub ls : List (V × ℕ)
  pub rs : List (V × ℕ)
  pub left : p.left ≡ w.lefts.screen
  pub right : p.right ≡ w.rights.screen
  pub left_names : p.lefts ≡ map (λ z. z.1) ls
  pub right_names : p.rights ≡ map (λ z. z.1) rs
  pub left_values : w.lefts.slots ≡ map (λ z. z.0) ls
  pub right_values : w.rights.slots ≡ map (λ z. z.0) rs
  pub good : Good (ls ++ rs)

-- what the equality of a kind of values is
pub record Equivalence {V : Type 0} (same : V → V → Bool) : Type 0 where
  pub itself : (v : V) → T (same v v)
  pub back : (v w : V) → T (same v w) → T (same w v)
  pub through : (u v w : V) → T (same u v) → T (same v w) → T (same u w)

-- no two of the values mean the same
abbrev pub Different : {V : Type 0} → (V → V → Bool) → List V → Type 0
Different same [] = Unit {0}
Different {V} same (v ∷ vs) = ((u : V) → In u vs → T (same v u) → ⊥) × Different same vs

-- an instance where different names stand for different values, at places of the pages
pub record Sharp {V : Type 0} (same : V → V → Bool) (g h : PageModel) (p : Pair) (w : Places V) : Type 0 where
  pub names : Instance (Apart same) p w
  pub left : Shaped g w.lefts
  pub right : Shaped h w.rights

-- values beside their names
abbrev pub beside : {V : Type 0} → List V → List ℕ → List (V × ℕ)
beside = zip

-- slots with equal names hold values that mean the same
abbrev pub agree : {V : Type 0} → (V → V → Bool) → List (V × ℕ) → Bool
agree same zs = every (λ y. every (λ z. not (y.1 == z.1) || same y.0 z.0) zs) zs

-- the pair describes the two places
abbrev pub describes : {V : Type 0} → (V → V → Bool) → Pair → Place V → Place V → Bool
describes same p a b =
    (p.left == a.screen) && (p.right == b.screen
    && (length p.lefts == length a.slots && (length p.rights == length b.slots
    && agree same (beside a.slots p.lefts ++ beside b.slots p.rights))))
