-- Pairs of screens with names for values, and the game of two pages at pairs.
use Rattle.std.specs.Prelude.{ℕ, suc, max, Bool, true, false, ◌&&◌, T, List, [], ◌∷◌, ◌++◌, map, filter, ◌==◌, nat_eq}
use Rattle.std.specs.Bool.{beq}
use Rattle.pages.specs.Model.{LineModel, PageModel}
use Rattle.programs.specs.Places.{In, carry, moved, shows}
use Rattle.games.specs.declared.Side.{Side}
use Rattle.games.specs.declared.Side.TheVariants.{Left, Right}
use Rattle.twins.specs.Games.{Game}
use Rattle.twins.specs.Naming.{name}

pub record Pair : Type 0 where
  pub left : ℕ
  pub right : ℕ
  pub lefts : List ℕ
  pub rights : List ℕ

-- the pair of two screens whose slots hold xs and ys
abbrev pub normal : {A : Type 0} → (A → A → Bool) → ℕ → ℕ → List A → List A → Pair
normal eq i j xs ys =
    record { left = i; right = j; lefts = map (name eq (xs ++ ys)) xs; rights = map (name eq (xs ++ ys)) ys }

-- above every number of the list: a name that none of them is
abbrev pub above : List ℕ → ℕ
above [] = 0
above (n ∷ ns) = max (suc n) (above ns)

abbrev pub fresh : Pair → ℕ
fresh p = above (p.lefts ++ p.rights)

-- the left line l and the right line m leave the pair by one kind, port and name
abbrev pub meets : Pair → LineModel → LineModel → Bool
meets p l m =
    (l.from == p.left) && (m.from == p.right && (beq (shows l.kind) (shows m.kind) && (l.port.0 == m.port.0
    && moved l p.lefts (fresh p) == moved m p.rights (fresh p))))

abbrev pub after_both : Pair → LineModel → LineModel → Pair
after_both p l m =
    normal nat_eq l.next m.next
    (carry p.lefts (moved l p.lefts (fresh p)) l.sources)
    (carry p.rights (moved m p.rights (fresh p)) m.sources)

pub data Rule : Type 0 where
  both left_only : Rule

abbrev pub asks : Rule → Side → Bool
asks both s = true
asks left_only Left = true
asks left_only Right = false

-- the lines that may challenge at a pair, and the replies to each
abbrev pub lines_of : PageModel → ℕ → List LineModel
lines_of g s = filter (λ l. nat_eq l.from s) g.lines

abbrev pub replies : PageModel → PageModel → Pair → Side → LineModel → List Pair
replies g h p Left l = map (λ m. after_both p l m) (filter (λ m. meets p l m) h.lines)
replies g h p Right m = map (λ l. after_both p l m) (filter (λ l. meets p l m) g.lines)

abbrev pub side_of : {A : Type 0} → A → A → Side → A
side_of x y Left = x
side_of x y Right = y

-- the match at pairs
abbrev pub PairChallenge : Rule → PageModel → PageModel → Pair → Type 0
PairChallenge r g h p =
    (s : Side) × T (asks r s) × ((l : LineModel) × In l (lines_of (side_of g h s) (side_of p.left p.right s)))

abbrev pub Match : Rule → PageModel → PageModel → Game Pair
Match r g h =
    record {
      Challenge = PairChallenge r g h;
      Reply = λ p c q. In q (replies g h p c.0 c.2.0);
    }
