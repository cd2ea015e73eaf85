-- What is settled, by the way that is chosen.
use Rattle.std.specs.Prelude.{◌≡◌, ℕ, ◌%◌}
use Rattle.games.specs.Meaning.{Meaning}
use Rattle.games.specs.LeftOnly.{left_only}
use Rattle.drawn.specs.declared.settling.Way.{Way}
use Rattle.drawn.specs.declared.settling.Way.TheVariants.{Plain, LeftOnly, LeftOnlyTwice, AgainstEvens}

abbrev pub seen_by : Way → Meaning → Meaning
seen_by Plain m = m
seen_by LeftOnly m = left_only m
seen_by LeftOnlyTwice m = left_only (left_only m)
seen_by AgainstEvens m = m

abbrev pub Even : ℕ → Type 0
Even x = x % 2 ≡ 0
