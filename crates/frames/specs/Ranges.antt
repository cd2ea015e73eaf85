-- Which bytes may stand at which place of a frame. Places count from 0; place 0 is the kind of frame.
use Rattle.std.specs.Prelude.{ℕ, ◌+◌, Bool, true, cond, ◌&&◌, ◌||◌, List, [], ◌∷◌, drop, ◌==◌, nat_le, slice_index}
use Rattle.lists.specs.Between.{between}

-- screens 01 to 20, lines 00 to 80, any start screen, start numbers to 07
abbrev pub header_ok : ℕ → ℕ → Bool
header_ok place b =
    cond (place == 1) (between 1 32 b)
    (cond (place == 2) (nat_le b 128)
    (cond (place == 3) true
    (between 4 7 place && nat_le b 7)))

-- slots to 04
abbrev pub screen_ok : ℕ → ℕ → Bool
screen_ok place b = place == 1 && nat_le b 4

-- the third byte is 10 in a TAKE and a slot in a SHOW
abbrev pub third_ok : ℕ → ℕ → Bool
third_ok kind b = (kind == 0 && b == 16) || (kind == 1 && nat_le b 3)

-- any screen left, kind to 01, port to 1F, the third byte, any next screen, sources 00 to 03 or 10
abbrev pub line_ok : ℕ → ℕ → ℕ → Bool
line_ok kind place b =
    cond (place == 1 || place == 5) true
    (cond (place == 2) (nat_le b 1)
    (cond (place == 3) (nat_le b 31)
    (cond (place == 4) (third_ok kind b)
    (between 6 9 place && (nat_le b 3 || b == 16)))))

abbrev pub field_ok : ℕ → ℕ → ℕ → ℕ → Bool
field_ok frame kind place b =
    cond (frame == 1) (header_ok place b)
    (cond (frame == 2) (screen_ok place b)
    (frame == 3 && line_ok kind place b))

abbrev pub fields_ok : ℕ → ℕ → ℕ → List ℕ → Bool
fields_ok frame kind place [] = true
fields_ok frame kind place (b ∷ bs) = field_ok frame kind place b && fields_ok frame kind (place + 1) bs

-- each byte after the first; the line kind stands at place 2
abbrev pub in_range : List ℕ → Bool
in_range bs = fields_ok (slice_index bs 0) (slice_index bs 2) 1 (drop 1 bs)
