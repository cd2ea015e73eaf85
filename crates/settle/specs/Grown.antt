-- A list of codes that grows in lent memory.
use Rattle.std.specs.Prelude.{◌≡◌, ℕ, ◌<◌, ◌≤◌, List, length, take, Some, None, Option, slice_index}

-- the first n entries are `seen`, and the others are as before
pub record Grown (before after : List ℕ) (n : ℕ) (seen : List ℕ) : Type 0 where
  pub long : n ≡ length seen
  pub fits : n ≤ length after
  pub front : take n after ≡ seen
  pub rest : (k : ℕ) → n ≤ k → slice_index after k ≡ slice_index before k

-- a list of codes that grew, or that had no room
abbrev pub Grows : List ℕ → List ℕ → List ℕ → Option ℕ → Type 0
Grows before after seen None = length before < length seen
Grows before after seen (Some n) = Grown before after n seen
