-- What a well-formed page says of its lines and places.
use Rattle.std.specs.Prelude.{◌≡◌, ℕ, ◌<◌, ◌≤◌, true, length}
use Rattle.lists.specs.Every.{every}
use Rattle.pages.specs.Model.{LineModel, PageModel}
use Rattle.pages.specs.Formed.{slots_at, shown_stands, source_stands}
use Rattle.programs.specs.Places.{In, Place}

abbrev pub arity : PageModel → ℕ → ℕ
arity g s = slots_at g.screens s

pub record LineFits (g : PageModel) (l : LineModel) : Type 0 where
  pub exists : l.next < length g.screens
  pub sources : length l.sources ≡ arity g l.next
  pub few : length l.sources ≤ 4
  pub shown : shown_stands l.kind (arity g l.from) ≡ true
  pub each : every (source_stands l.kind (arity g l.from)) l.sources ≡ true

abbrev pub Fits : PageModel → Type 0
Fits g = (l : LineModel) → In l g.lines → LineFits g l

-- the place has a value for each slot of its screen
abbrev pub Shaped : {V : Type 0} → PageModel → Place V → Type 0
Shaped g p = (length p.slots ≡ arity g p.screen) × (length p.slots ≤ 4)

-- at most 32 screens of at most four slots
abbrev pub Sized : PageModel → Type 0
Sized g = (length g.screens ≤ 32) × ((s : ℕ) → arity g s ≤ 4)
