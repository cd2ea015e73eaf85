-- What is read is written again as it was, and what is written is read again: digits, bytes and lines.
use Rattle.std.proofs.Common.{◌≡◌, ℕ, ◌+◌, ◌*◌, ◌/◌, ◌%◌, ◌<◌, ◌≤◌, Bool, true, false, cond, eqb, leb, List, [], ◌∷◌, ◌++◌, length, Ok, refl, ap, ◌∙◌, arith}
use Rattle.std.proofs.lemmas.Bool.Decides.{nat_tests}
use Rattle.std.proofs.lemmas.Bool.{and_parts, and_from, eqb-true, leb-true}
use Rattle.lists.specs.Every.{every}
use Rattle.texts.specs.declared.faults.TextQuestion.TheVariants.{Digits, Count}
use Rattle.texts.specs.Answers.{asked}
use Rattle.texts.specs.Digits.{is_digit, value, bytes_of, char, hex, hexes, line_text}
use Rattle.texts.specs.Lines.{Lines, last, ended, longer, lines_of}
use Rattle.texts.specs.Reading.{text_fault, well_counted, line_bytes}
use Rattle.texts.proofs.Asked.{asked_ok, asked_yes}

-- digits
digit_back : (b : ℕ) → is_digit b ≡ true → (char (value b) ≡ b) × (value b < 16)
digit_back b e = (grind (arith, nat_tests), grind (arith, nat_tests))

char_back : (v : ℕ) → v < 16 → (is_digit (char v) ≡ true) × (value (char v) ≡ v)
char_back v h = (grind (arith, nat_tests), grind (arith, nat_tests))

hex_is : (a b v w : ℕ) → char v ≡ a → char w ≡ b → v < 16 → w < 16 → hex (16 * v + w) ≡ a ∷ b ∷ []
hex_is a b v w ea eb hv hw =
    let hi : (16 * v + w) / 16 ≡ v = omega arith in
    let lo : (16 * v + w) % 16 ≡ w = omega arith in
    λ i. (ap char hi ∙ ea) i ∷ (ap char lo ∙ eb) i ∷ []

-- lines that are read
hexes_back : (l : List ℕ) → every is_digit l ≡ true → length l % 2 ≡ 0 → hexes (bytes_of l) ≡ l
hexes_back [] d e = refl
hexes_back (a ∷ []) d e = absurd (omega arith)
hexes_back (a ∷ b ∷ r) d e =
    let da = and_parts (is_digit a) (every is_digit (b ∷ r)) d in
    let db = and_parts (is_digit b) (every is_digit r) da.1 in
    let p = digit_back a da.0 in
    let q = digit_back b db.0 in
    let more : length r % 2 ≡ 0 = omega arith in
    ap (λ l. hex (16 * value a + value b) ++ l) (hexes_back r db.1 more) ∙ ap (λ l. l ++ r) (hex_is a b (value a) (value b) p.0 q.0 p.1 q.1)

pub line_bytes_back : (at : ℕ) (l bs : List ℕ) → line_bytes at l ≡ Ok bs → hexes bs ≡ l
line_bytes_back at l bs e =
    let d = asked_ok (every is_digit l) (text_fault Digits at) (asked (well_counted l) (text_fault Count at) (Ok (bytes_of l))) bs e in
    let w = asked_ok (well_counted l) (text_fault Count at) (Ok (bytes_of l)) bs d.1 in
    let same : bs ≡ bytes_of l = cc w.1 in
    ap hexes same ∙ hexes_back l d.0 (grind (arith, nat_tests, w.0))

-- lines that are written
abbrev pub is_byte : ℕ → Bool
is_byte b = leb b 255

byte_read : (b : ℕ) → is_byte b ≡ true → (b / 16 < 16) × (b % 16 < 16)
byte_read b e = (omega (arith, leb-true b 255 e), omega arith)

hexes_digits : (bs : List ℕ) → every is_byte bs ≡ true → every is_digit (hexes bs) ≡ true
hexes_digits [] e = refl
hexes_digits (b ∷ bs) e =
    let p = and_parts (is_byte b) (every is_byte bs) e in
    let r = byte_read b p.0 in
    and_from (is_digit (char (b / 16))) _ (char_back (b / 16) r.0).0 (and_from (is_digit (char (b % 16))) _ (char_back (b % 16) r.1).0 (hexes_digits bs p.1))

pub hexes_length : (bs : List ℕ) → length (hexes bs) ≡ 2 * length bs
hexes_length [] = refl
hexes_length (b ∷ bs) = omega (arith, hexes_length bs)

hexes_bytes : (bs : List ℕ) → every is_byte bs ≡ true → bytes_of (hexes bs) ≡ bs
hexes_bytes [] e = refl
hexes_bytes (b ∷ bs) e =
    let p = and_parts (is_byte b) (every is_byte bs) e in
    let r = byte_read b p.0 in
    let whole : 16 * (b / 16) + b % 16 ≡ b = omega arith in
    (λ i. (16 * (char_back (b / 16) r.0).1 i + (char_back (b % 16) r.1).1 i) ∷ hexes_bytes bs p.1 i)
    ∙ ap (λ n. n ∷ bs) whole

pub line_bytes_of : (at : ℕ) (bs : List ℕ) → every is_byte bs ≡ true → 1 ≤ length bs → length bs ≤ 16 → line_bytes at (hexes bs) ≡ Ok bs
line_bytes_of at bs e low high =
    let counted : well_counted (hexes bs) ≡ true = grind (arith, nat_tests, hexes_length bs) in
    asked_yes (every is_digit (hexes bs)) (text_fault Digits at) _ (hexes_digits bs e)
    ∙ asked_yes (well_counted (hexes bs)) (text_fault Count at) _ counted
    ∙ ap Ok (hexes_bytes bs e)

-- the text of lines
abbrev pub text_of : Lines → List ℕ
text_of (last l) = l
text_of (ended l ls) = l ++ 10 ∷ text_of ls

text_longer : (b : ℕ) (ls : Lines) → text_of (longer b ls) ≡ b ∷ text_of ls
text_longer b (last l) = refl
text_longer b (ended l ls) = refl

line_first : (b : ℕ) (bs : List ℕ) (e : Bool) → eqb 10 b ≡ e → text_of (lines_of bs) ≡ bs → text_of (cond e (ended [] (lines_of bs)) (longer b (lines_of bs))) ≡ b ∷ bs
line_first b bs true e h = λ i. eqb-true 10 b e i ∷ h i
line_first b bs false e h = text_longer b (lines_of bs) ∙ ap (λ l. b ∷ l) h

pub lines_back : (t : List ℕ) → text_of (lines_of t) ≡ t
lines_back [] = refl
lines_back (b ∷ bs) = line_first b bs (eqb 10 b) refl (lines_back bs)

-- a digit does not end a line
char_goes_on : (v : ℕ) → eqb 10 (char v) ≡ false
char_goes_on v = grind (arith, nat_tests)

goes_on : (v : ℕ) (t : List ℕ) → lines_of (char v ∷ t) ≡ longer (char v) (lines_of t)
goes_on v t = ap (λ e. cond e (ended [] (lines_of t)) (longer (char v) (lines_of t))) (char_goes_on v)

pub lines_of_line : (bs t : List ℕ) → lines_of (line_text bs ++ t) ≡ ended (hexes bs) (lines_of t)
lines_of_line [] t = refl
lines_of_line (b ∷ bs) t =
    goes_on (b / 16) (char (b % 16) ∷ (line_text bs ++ t))
    ∙ ap (longer (char (b / 16))) (goes_on (b % 16) (line_text bs ++ t) ∙ ap (longer (char (b % 16))) (lines_of_line bs t))
