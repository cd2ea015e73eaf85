-- The layer that keeps only the left's challenges.
use Rattle.std.specs.Prelude.{Bool, true, false, List, Some, None, filter, Option}
use Rattle.games.specs.Meaning.{Meaning, Challenge}
use Rattle.games.specs.declared.Side.{Side}
use Rattle.games.specs.declared.Side.TheVariants.{Left, Right}

abbrev pub is_left : Side → Bool
is_left Left = true
is_left Right = false

abbrev pub some_left : Option Side → Bool
some_left None = false
some_left (Some s) = is_left s

abbrev pub lefts : {X : Type 0} → List (Challenge X) → List (Challenge X)
lefts cs = filter (λ c. is_left c.side) cs

abbrev pub left_only : Meaning → Meaning
left_only m = record { start = m.start; top = m.top; at = λ x. lefts (m.at x) }
