-- A number as bytes, the highest first.
use Rattle.std.specs.Prelude.{ℕ, zero, suc, ◌/◌, ◌%◌, cond, List, [], ◌∷◌, ◌++◌, length, drop, nat_le}

-- the w low bytes of n
abbrev pub bytes : ℕ → ℕ → List ℕ
bytes zero n = []
bytes (suc w) n = bytes w (n / 256) ++ (n % 256 ∷ [])

-- out with those bytes in its front; where they do not fit, as it was
abbrev pub told_into : ℕ → ℕ → List ℕ → List ℕ
told_into w n out = cond (nat_le w (length out)) (bytes w n ++ drop w out) out
