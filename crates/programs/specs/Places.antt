-- Places and moves of a page, over any type of values.
use Rattle.std.specs.Prelude.{◌≡◌, ℕ, Bool, true, false, ◌⊎◌, List, [], ◌∷◌, map, length, slice_index_or}
use Rattle.pages.specs.declared.Port.{Port}
use Rattle.pages.specs.declared.Source.{Source}
use Rattle.pages.specs.declared.Source.TheVariants.{Kept, Taken}
use Rattle.pages.specs.declared.LineKind.{LineKind}
use Rattle.pages.specs.declared.LineKind.TheVariants.{Take, Show}
use Rattle.pages.specs.Model.{LineModel, PageModel}
use Rattle.pages.specs.Formed.{slots_at}

-- x stands in the list
abbrev pub In : {A : Type 0} → A → List A → Type 0
In x [] = ⊥
In x (y ∷ ys) = (x ≡ y) ⊎ In x ys

-- a screen with a value in each slot
pub record Place (V : Type 0) : Type 0 where
  pub screen : ℕ
  pub slots : List V

-- what a source gives, where the line moves with the value v
abbrev pub value_of : {V : Type 0} → List V → V → Source → V
value_of vs v (Kept s) = slice_index_or vs s.0 v
value_of vs v Taken = v

-- the slots of the next screen
abbrev pub carry : {V : Type 0} → List V → V → List Source → List V
carry vs v ss = map (value_of vs v) ss

-- a SHOW moves with the value of the slot shown, a TAKE with any value v
abbrev pub moved_by : {V : Type 0} → LineKind → List V → V → V
moved_by Take vs v = v
moved_by (Show s) vs v = slice_index_or vs s.0 v

abbrev pub moved : {V : Type 0} → LineModel → List V → V → V
moved l vs v = moved_by l.kind vs v

abbrev pub shows : LineKind → Bool
shows Take = false
shows (Show s) = true

-- the place after the line l with the value v
abbrev pub after : {V : Type 0} → LineModel → List V → V → Place V
after l vs v = record { screen = l.next; slots = carry vs v l.sources }

-- what is seen of a move: whether it shows or takes, at which port, which value
pub record Act (V : Type 0) : Type 0 where
  pub shows : Bool
  pub port : Port
  pub value : V

-- some line moves the page from the place p, by the act a, to the place q
abbrev pub Moves : {V : Type 0} → PageModel → Place V → Act V → Place V → Type 0
Moves {V} g p a q =
    (l : LineModel) × In l g.lines × (l.from ≡ p.screen) × (shows l.kind ≡ a.shows) × (l.port ≡ a.port)
    × (moved l p.slots a.value ≡ a.value) × (q ≡ after l p.slots a.value)

-- the place has a value for each slot of its screen
abbrev pub Shaped : {V : Type 0} → PageModel → Place V → Type 0
Shaped g p = length p.slots ≡ slots_at g.screens p.screen
