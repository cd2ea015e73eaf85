-- Pairs as numbers: left screen, right screen, then four digits in base 16 for the names of each side, 15 where a slot is unused.
use Rattle.std.specs.Prelude.{◌≡◌, ℕ, ◌+◌, ◌*◌, ◌/◌, ◌%◌, ◌^◌, ◌<◌, ◌≤◌, Bool, cond, not, ◌&&◌, T, List, [], ◌∷◌, map, length, filter, ◌==◌, nat_eq, nat_lt, slice_index_or}
use Rattle.std.specs.Cmp.Lexicographic.{pointwise}
use Rattle.pages.specs.Model.{PageModel}
use Rattle.programs.specs.Places.{In}
use Rattle.games.specs.Meaning.{Challenge, Challenges}
use Rattle.games.specs.Counts.{within}
use Rattle.twins.specs.Fits.{arity, Fits, Sized}
use Rattle.twins.specs.Pairs.{Pair, Rule, normal}
use Rattle.twins.specs.Positions.{meaning}

abbrev pub four : List ℕ → ℕ
four ns = ((slice_index_or ns 0 15 * 16 + slice_index_or ns 1 15) * 16 + slice_index_or ns 2 15) * 16 + slice_index_or ns 3 15

abbrev pub code : Pair → ℕ
code p = p.left * 2 ^ 37 + p.right * 2 ^ 32 + four p.lefts * 2 ^ 16 + four p.rights

abbrev pub names_of : ℕ → List ℕ
names_of m = filter (λ d. not (d == 15)) (m / 4096 ∷ (m / 256 % 16 ∷ (m / 16 % 16 ∷ (m % 16 ∷ []))))

abbrev pub pair_of : ℕ → Pair
pair_of c =
    record { left = c / 2 ^ 37; right = c / 2 ^ 32 % 32; lefts = names_of (c / 2 ^ 16 % 2 ^ 16); rights = names_of (c % 2 ^ 16) }

-- at most four names, below 15
abbrev pub Few : List ℕ → Type 0
Few ns = (length ns ≤ 4) × ((n : ℕ) → In n ns → n < 15)

pub record Small (p : Pair) : Type 0 where
  pub left : p.left < 32
  pub right : p.right < 32
  pub lefts : Few p.lefts
  pub rights : Few p.rights

abbrev pub Decodes : Type 0
Decodes = (p : Pair) → Small p → pair_of (code p) ≡ p

abbrev pub same_list : List ℕ → List ℕ → Bool
same_list = pointwise nat_eq

-- a pair of screens of the pages, with a name for each slot, in normal naming
abbrev pub usable : PageModel → PageModel → Pair → Bool
usable g h p =
    nat_lt p.left (length g.screens) && (nat_lt p.right (length h.screens)
    && (length p.lefts == arity g p.left && (length p.rights == arity h p.right
    && (same_list (normal nat_eq p.left p.right p.lefts p.rights).lefts p.lefts
    && same_list (normal nat_eq p.left p.right p.lefts p.rights).rights p.rights))))

abbrev pub recoded : {X Y : Type 0} → (X → Y) → Challenge X → Challenge Y
recoded f c = record { side = c.side; replies = map f c.replies }

-- the match of two pages at codes: a code that stands for no pair of them has no challenges
abbrev pub coded : Rule → PageModel → PageModel → Challenges ℕ
coded r g h c =
    cond (code (pair_of c) == c && usable g h (pair_of c)) (map (recoded code) (meaning r g h (pair_of c))) []

-- a pair and its code have the same counts
abbrev pub CodesCount : Type 0
CodesCount =
    (r : Rule) (g h : PageModel) → Fits g → Fits h → Sized g → Sized h → (p : Pair) → T (usable g h p) →
    (n : ℕ) → within (coded r g h) n (code p) ≡ within (meaning r g h) n p
