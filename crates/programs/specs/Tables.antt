-- The program that a page tables: an identifier for each screen, with its slots as parameters, defined by the sum of the lines that leave it.
use Rattle.std.specs.Prelude.{◌≡◌, ℕ, zero, suc, List, [], ◌∷◌, map, filter, nat_eq}
use Rattle.pages.specs.declared.Port.{Port}
use Rattle.pages.specs.declared.Source.{Source}
use Rattle.pages.specs.declared.Source.TheVariants.{Kept, Taken}
use Rattle.pages.specs.declared.LineKind.{LineKind}
use Rattle.pages.specs.declared.LineKind.TheVariants.{Take, Show}
use Rattle.pages.specs.Model.{LineModel, PageModel}
use Rattle.pages.specs.Formed.{slots_at}
use Rattle.programs.specs.Places.{Place, Act, Moves, Shaped}
use Rattle.programs.specs.Programs.{Expr, var, val, Behaviour, input, output, sum, call, Summands, none, more, Clause, Step}

-- the lines that leave a screen, in order
abbrev pub lines_of : PageModel → ℕ → List LineModel
lines_of g s = filter (λ l. nat_eq l.from s) g.lines

-- n numbers from k on
abbrev pub numbers : ℕ → ℕ → List ℕ
numbers zero k = []
numbers (suc n) k = k ∷ numbers n (suc k)

-- a slot is a parameter, and the value taken the variable x
abbrev pub source : {V : Type 0} → ℕ → Source → Expr V
source x (Kept s) = var s.0
source x Taken = var x

-- a TAKE inputs into a variable beyond the parameters, a SHOW outputs the parameter of its slot
abbrev pub acting : {V : Type 0} → LineKind → ℕ → Port → Behaviour V → Behaviour V
acting Take n a A = input a n A
acting (Show s) n a A = output a (var s.0) A

-- the summand of a line that leaves a screen of n slots
abbrev pub summand : {V : Type 0} → ℕ → LineModel → Behaviour V
summand n l = acting l.kind n l.port (call l.next (map (source n) l.sources))

abbrev pub summands : {V : Type 0} → ℕ → List LineModel → Summands V
summands n [] = none
summands n (l ∷ ls) = more (summand n l) (summands n ls)

abbrev pub clauses : {V : Type 0} → PageModel → ℕ → Clause V
clauses g s = record { parameters = numbers (slots_at g.screens s) 0; body = sum (summands (slots_at g.screens s) (lines_of g s)) }

-- the program at a place: its screen called with its values
abbrev pub program : {V : Type 0} → Place V → Behaviour V
program p = call p.screen (map val p.slots)

-- The page's moves from a place are exactly the transitions of its program there, by the same act to the same place, both ways
-- round; and the place after has again a value for each slot of its screen.
abbrev pub MovesExactly : Type 0 → PageModel → Type 0
MovesExactly V g =
    (p : Place V) → Shaped g p → (μ : Act V) →
    ((q : Place V) → Moves g p μ q → Step (clauses g) (program p) μ (program q) × Shaped g q)
    × ((B : Behaviour V) → Step (clauses g) (program p) μ B → (q : Place V) × (B ≡ program q) × Moves g p μ q)
