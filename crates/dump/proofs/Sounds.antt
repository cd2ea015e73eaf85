-- The frames of a well-formed page are in range, are bytes, and make a short text.
use Rattle.std.proofs.Common.{◌≡◌, ℕ, zero, suc, ◌*◌, ◌≤◌, Bool, true, ◌&&◌, eqb, ltb, leb, List, [], ◌∷◌, map, map-id, length, refl, subst, arith, length-append}
use lib.ListN.{length-map}
use Rattle.std.specs.List.{flat_map}
use Rattle.std.proofs.lemmas.Bool.Decides.{nat_tests}
use Rattle.std.proofs.lemmas.Bool.{and_parts, and_from, leb-true}
use Rattle.lists.specs.Every.{every}
use Rattle.lists.proofs.Tested.{every_append, every_so}
use Rattle.texts.specs.Digits.{hexes}
use Rattle.texts.proofs.Trips.{is_byte, hexes_length}
use Rattle.pages.specs.declared.Name.{Name}
use Rattle.pages.specs.declared.Screen.{Screen}
use Rattle.pages.specs.declared.Source.{Source}
use Rattle.pages.specs.declared.Source.TheVariants.{Kept, Taken}
use Rattle.pages.specs.declared.LineKind.{LineKind}
use Rattle.pages.specs.declared.LineKind.TheVariants.{Take, Show}
use Rattle.pages.specs.Model.{LineModel, PageModel}
use Rattle.pages.specs.Formed.{slots_at, source_stands, shown_stands, line_stands, line_formed, few_slots, small_number, screens_formed, lines_formed, well_formed}
use Rattle.frames.specs.Model.{FrameModel, header, screen, line}
use Rattle.frames.specs.Fields.{name_byte, source_byte, kind_byte, third_byte}
use Rattle.frames.specs.Bytes.{frame_bytes, sound, kind_sound, source_sound}
use Rattle.frames.proofs.Trips.{frame_size}
use Rattle.dump.specs.Written.{header_of, frames_of, frame_text, written}

-- what a well-formed page has
pub record Parts (p : PageModel) : Type 0 where
  pub some : leb 1 (length p.screens) ≡ true
  pub wide : leb (length p.screens) 32 ≡ true
  pub few : every few_slots p.screens ≡ true
  pub long : leb (length p.lines) 128 ≡ true
  pub lines : every (line_formed p.screens) p.lines ≡ true
  pub start : ltb p.start (length p.screens) ≡ true
  pub count : eqb (length p.numbers) (slots_at p.screens p.start) ≡ true
  pub small : every small_number p.numbers ≡ true

pub parts : (p : PageModel) → well_formed p ≡ true → Parts p
parts p e =
    let a = and_parts (screens_formed p.screens) _ e in
    let b = and_parts (leb 1 (length p.screens)) _ a.0 in
    let c = and_parts (leb (length p.screens) 32) _ b.1 in
    let d = and_parts (lines_formed p.screens p.lines) _ a.1 in
    let f = and_parts (leb (length p.lines) 128) _ d.0 in
    let g = and_parts (ltb p.start (length p.screens)) _ d.1 in
    let h = and_parts (eqb (length p.numbers) (slots_at p.screens p.start)) _ g.1 in
    record { some = b.0; wide = c.0; few = c.1; long = f.0; lines = f.1; start = g.0; count = h.0; small = h.1 }

slots_few : (ss : List Screen) (i : ℕ) → every few_slots ss ≡ true → slots_at ss i ≤ 4
slots_few [] i e = omega arith
slots_few (s ∷ ss) zero e = leb-true s.slots 4 (and_parts (few_slots s) (every few_slots ss) e).0
slots_few (s ∷ ss) (suc i) e = slots_few ss i (and_parts (few_slots s) (every few_slots ss) e).1

-- in range, and every byte a byte
abbrev pub Plain : FrameModel → Bool
Plain f = sound f && every is_byte (frame_bytes f)

name_plain : (n : Name) → small_number n ≡ true → is_byte (name_byte n) ≡ true
name_plain n e = grind (arith, nat_tests)

source_plain : (kind : LineKind) (n : ℕ) → n ≤ 4 → (s : Source) → source_stands kind n s ≡ true → (source_sound s ≡ true) × (is_byte (source_byte s) ≡ true)
source_plain kind n h (Kept s) e = (grind (arith, nat_tests), grind (arith, nat_tests))
source_plain Take n h Taken e = (refl, refl)
source_plain (Show x) n h Taken e = (refl, refl)

kind_plain : (kind : LineKind) (n : ℕ) → n ≤ 4 → shown_stands kind n ≡ true → (kind_sound kind ≡ true) × (is_byte (kind_byte kind) ≡ true) × (is_byte (third_byte kind) ≡ true)
kind_plain Take n h e = (refl, refl, refl)
kind_plain (Show s) n h e = (grind (arith, nat_tests), refl, grind (arith, nat_tests))

line_plain : (ss : List Screen) → length ss ≤ 32 → every few_slots ss ≡ true → (l : LineModel) → line_formed ss l ≡ true → Plain (line l) ≡ true
line_plain ss wide few l e =
    let a = and_parts (leb l.port.0 31) (line_stands ss l) e in
    let b = and_parts (ltb l.from (length ss) && ltb l.next (length ss)) _ a.1 in
    let d = and_parts (shown_stands l.kind (slots_at ss l.from)) _ b.1 in
    let f = and_parts (every (source_stands l.kind (slots_at ss l.from)) l.sources) (eqb (length l.sources) (slots_at ss l.next)) d.1 in
    let here = slots_few ss l.from few in
    let there = slots_few ss l.next few in
    let k = kind_plain l.kind (slots_at ss l.from) here d.0 in
    let stands = source_stands l.kind (slots_at ss l.from) in
    let sources = subst (λ xs. every source_sound xs ≡ true) (map-id l.sources)
    (every_so (λ s. s) stands source_sound (λ s t. (source_plain l.kind (slots_at ss l.from) here s t).0) l.sources f.0) in
    let bytes = every_so source_byte stands is_byte (λ s t. (source_plain l.kind (slots_at ss l.from) here s t).1) l.sources f.0 in
    grind (arith, nat_tests)

screen_plain : (s : Screen) → few_slots s ≡ true → Plain (screen s) ≡ true
screen_plain s e = grind (arith, nat_tests)

pub page_plain : (p : PageModel) → well_formed p ≡ true → every Plain (frames_of p) ≡ true
page_plain p e =
    let f = parts p e in
    let few = slots_few p.screens p.start f.few in
    let names = every_so name_byte small_number is_byte name_plain p.numbers f.small in
    let head : Plain (header (header_of p)) ≡ true = grind (arith, nat_tests) in
    and_from (Plain (header (header_of p))) _ head
    (every_append Plain (map screen p.screens) (map line p.lines)
    (every_so screen few_slots Plain screen_plain p.screens f.few)
    (every_so line (line_formed p.screens) Plain (line_plain p.screens (leb-true (length p.screens) 32 f.wide) f.few) p.lines f.lines))

-- how long a text of frames is
pub text_length : (fs : List FrameModel) → every Plain fs ≡ true → length (flat_map frame_text fs) ≤ 21 * length fs
text_length [] e = omega arith
text_length (f ∷ fs) e =
    let p = and_parts (Plain f) (every Plain fs) e in
    let size = frame_size f (and_parts (sound f) _ p.0).0 in
    omega (arith, length-append (frame_text f) (flat_map frame_text fs), length-append (hexes (frame_bytes f)) (10 ∷ []), hexes_length (frame_bytes f), size.1, text_length fs p.1)

pub written_short : (p : PageModel) → well_formed p ≡ true → length (written p) ≤ 4096
written_short p e =
    let f = parts p e in
    omega (arith, leb-true (length p.screens) 32 f.wide, leb-true (length p.lines) 128 f.long, text_length (frames_of p) (page_plain p e), length-append (map screen p.screens) (map line p.lines), length-map p.screens screen, length-map p.lines line)
