-- What a verdict at pairs means at places, for the values of any kind.
use Rattle.std.specs.Prelude.{◌≡◌, ℕ, Bool, T, List, length}
use Rattle.pages.specs.Model.{PageModel}
use Rattle.programs.specs.Places.{In, Place, Act, Moves}
use Rattle.games.specs.declared.Side.TheVariants.{Right}
use Rattle.twins.specs.Games.{Held, Wins, Survives}
use Rattle.twins.specs.Fits.{Fits}
use Rattle.twins.specs.Pairs.{Pair, Rule, asks, Match}
use Rattle.twins.specs.Twins.{Places, Alike, PlaceMatch, Instance, Stands, Sharp, Different}

-- a relation that answers each challenge between the places that it joins
pub record Answers {V : Type 0} (same : V → V → Bool) (r : Rule) (g h : PageModel) (R : Place V → Place V → Type 0) : Type 0 where
  pub lefts : (p q : Place V) → R p q → (a : Act V) (p' : Place V) → Moves g p a p' →
      (b : Act V) × (q' : Place V) × Moves h q b q' × Alike same a b × R p' q'
  pub rights : T (asks r Right) → (p q : Place V) → R p q → (b : Act V) (q' : Place V) → Moves h q b q' →
      (a : Act V) × (p' : Place V) × Moves g p a p' × Alike same b a × R p' q'

-- some relation joins the two places and answers each challenge
abbrev pub Related : {V : Type 0} → (V → V → Bool) → Rule → PageModel → PageModel → Places V → Type 0
Related {V} same r g h w = (R : Place V → Place V → Bool) × T (R w.lefts w.rights) × Answers same r g h (λ a b. T (R a b))

-- Where a pair is in a held set of pairs, two places of its pattern are related: slots with equal names hold values that
-- mean the same, and slots with different names may too.
abbrev pub HeldRelates : {V : Type 0} → (V → V → Bool) → Type 0
HeldRelates {V} same =
    (r : Rule) (g h : PageModel) (p : Pair) (S : List Pair) → Held (Match r g h) (λ q. In q S) → In p S →
    (w : Places V) → Instance (Stands same) p w → Related same r g h w

-- Where n challenges always have replies at a pair, they have at two places of its pattern.
abbrev pub SurvivesEverywhere : {V : Type 0} → (V → V → Bool) → Type 0
SurvivesEverywhere {V} same =
    (r : Rule) (g h : PageModel) (p : Pair) (n : ℕ) → Survives (Match r g h) n p →
    (w : Places V) → Instance (Stands same) p w → Survives (PlaceMatch same r g h) n w

-- Where the challenger can win within n at a pair, it can at two places of exactly its pattern, if nine different values exist.
abbrev pub WinsEverywhere : {V : Type 0} → (V → V → Bool) → Type 0
WinsEverywhere {V} same =
    (r : Rule) (g h : PageModel) → Fits g → Fits h → (p : Pair) (w : Places V) → Sharp same g h p w →
    (purse : List V) → Different same purse → length purse ≡ 9 →
    (n : ℕ) → Wins (Match r g h) n p → Wins (PlaceMatch same r g h) n w

-- ... and then no relation joins them and answers each challenge.
abbrev pub WinsUnrelates : {V : Type 0} → (V → V → Bool) → (Place V → Place V → Type 0) → Type 0
WinsUnrelates {V} same R =
    (r : Rule) (g h : PageModel) → Fits g → Fits h → (p : Pair) (w : Places V) → Sharp same g h p w →
    (purse : List V) → Different same purse → length purse ≡ 9 →
    (n : ℕ) → Wins (Match r g h) n p → R w.lefts w.rights → Answers same r g h R → ⊥
