-- The loop that reads two digits a byte.
use Rattle.std.proofs.Common.{◌≡◌, ℕ, suc, ◌+◌, ◌*◌, ◌/◌, List, [], ◌∷◌, map, length, get_or, refl, ap, arith}
use Rattle.std.specs.Simd.{first_chunks}
use Rattle.texts.specs.Digits.{value, bytes_of}

-- the byte that a pair of digits says
abbrev pub pair_byte : List ℕ → ℕ
pair_byte p = 16 * value (get_or p 0 0) + value (get_or p 1 0)

pub bytes_of_pairs : (l : List ℕ) → bytes_of l ≡ map pair_byte (first_chunks 2 (length l / 2) l)
bytes_of_pairs [] = refl
bytes_of_pairs (a ∷ []) = refl
bytes_of_pairs (a ∷ b ∷ r) = let half : length (a ∷ b ∷ r) / 2 ≡ suc (length r / 2) = omega arith in rw half (ap (λ ns. pair_byte (a ∷ b ∷ []) ∷ ns) (bytes_of_pairs r))
