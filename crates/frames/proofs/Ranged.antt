-- Whether each field is in range, asked of the bytes with their places.
use Rattle.std.proofs.Common.{◌≡◌, ℕ, ◌+◌, ◌&&◌, List, [], ◌∷◌, get_or, drop, refl, ap, ◌∙◌}
use Rattle.std.specs.List.{list_all, enumerate_from}
use Rattle.frames.specs.Ranges.{field_ok, fields_ok, in_range}

fields_by : (frame kind place : ℕ) (bs : List ℕ) → list_all (λ p. field_ok frame kind p.0 p.1) (enumerate_from place bs) ≡ fields_ok frame kind place bs
fields_by frame kind place [] = refl
fields_by frame kind place (b ∷ bs) = ap (λ t. field_ok frame kind place b && t) (fields_by frame kind (place + 1) bs)

-- the frame's kind and the line's kind as they were read
pub in_range_by : (frame kind : ℕ) (bs : List ℕ) → frame ≡ get_or bs 0 0 → kind ≡ get_or bs 2 0 → list_all (λ p. field_ok frame kind p.0 p.1) (drop 1 (enumerate_from 0 bs)) ≡ in_range bs
in_range_by frame kind [] e f = refl
in_range_by frame kind (b ∷ bs) e f = fields_by frame kind 1 bs ∙ (λ i. fields_ok (e i) (f i) 1 bs)
