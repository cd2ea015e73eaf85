-- How many challenges force a win.
use Rattle.std.proofs.Common.{ℕ, zero, suc, Bool, false}
use Rattle.games.specs.Meaning.{Challenges}
use Rattle.games.specs.Counts.{forces}

-- the challenger can win within n challenges from x
abbrev pub wins : Challenges ℕ → ℕ → ℕ → Bool
wins at zero x = false
wins at (suc n) x = forces at (wins at n) x
