-- A frame in range is read again from its bytes, and from its line of text; a line that is read is its frame's.
use Rattle.std.proofs.Common.{◌≡◌, ℕ, ◌+◌, ◌≤◌, true, false, cond, ◌||◌, eqb, leb, List, [], ◌∷◌, map, length, get_or, Ok, refl, ap, ◌∙◌, arith}
use lib.ListN.{length-map}
use Rattle.std.proofs.lemmas.Bool.Decides.{nat_tests}
use Rattle.std.proofs.lemmas.List.{map-id}
use Rattle.std.proofs.lemmas.Simd.{map-map}
use Rattle.std.proofs.lemmas.Bool.{and_parts, and_from, leb-true}
use Rattle.lists.specs.Between.{between}
use Rattle.lists.specs.Every.{every}
use Rattle.texts.specs.Answers.{after, lifted}
use Rattle.texts.specs.Digits.{hexes}
use Rattle.texts.specs.Reading.{line_bytes}
use Rattle.texts.proofs.Asked.{asked_yes, after_ok, lifted_ok}
use Rattle.texts.proofs.Trips.{is_byte, line_bytes_back, line_bytes_of}
use Rattle.pages.specs.declared.Name.{Name}
use Rattle.pages.specs.declared.Source.{Source}
use Rattle.pages.specs.declared.Source.TheVariants.{Kept, Taken}
use Rattle.pages.specs.declared.LineKind.{LineKind}
use Rattle.pages.specs.declared.LineKind.TheVariants.{Take, Show}
use Rattle.pages.specs.Model.{LineModel}
use Rattle.frames.specs.declared.faults.FrameFault.TheVariants.{Text}
use Rattle.frames.specs.declared.faults.FrameQuestion.TheVariants.{Kind, Size, Range}
use Rattle.frames.specs.Model.{HeaderModel, FrameModel, header, screen, line}
use Rattle.frames.specs.Fields.{source_of, source_byte, name_of, name_byte, kind_of, kind_byte, third_byte}
use Rattle.frames.specs.Ranges.{header_ok, third_ok, line_ok, fields_ok, in_range}
use Rattle.frames.specs.Parsing.{frame_fault, frame_of, frame_answer, sized, line_frame}
use Rattle.frames.specs.Bytes.{frame_bytes, sound, source_sound, kind_sound, name_sound}
use Rattle.frames.proofs.Shapes.{within}
use Rattle.frames.proofs.Said.{frame_says}

answered : (at : ℕ) (bs : List ℕ) (f : FrameModel) → between 1 3 (get_or bs 0 0) ≡ true → sized (get_or bs 0 0) (length bs) ≡ true → in_range bs ≡ true → frame_of bs ≡ f → frame_answer at bs ≡ Ok f
answered at bs f k n r e =
    asked_yes (between 1 3 (get_or bs 0 0)) (frame_fault Kind at) _ k
    ∙ asked_yes (sized (get_or bs 0 0) (length bs)) (frame_fault Size at) _ n
    ∙ asked_yes (in_range bs) (frame_fault Range at) _ r
    ∙ ap Ok e

number_at : (place b : ℕ) → 4 ≤ place → place ≤ 7 → leb b 7 ≡ true → header_ok place b ≡ true
number_at place b low high e = grind (arith, nat_tests)

source_at : (kind place b : ℕ) → 6 ≤ place → place ≤ 9 → (leb b 3 || eqb b 16) ≡ true → line_ok kind place b ≡ true
source_at kind place b low high e = grind (arith, nat_tests)

numbers_ok : (k place : ℕ) (ns : List Name) → 4 ≤ place → place + length ns ≤ 8 → every name_sound ns ≡ true → fields_ok 1 k place (map name_byte ns) ≡ true
numbers_ok k place [] low high e = refl
numbers_ok k place (n ∷ ns) low high e =
    let p = and_parts (name_sound n) (every name_sound ns) e in
    and_from (header_ok place n.0) _ (number_at place n.0 low (omega arith) p.0) (numbers_ok k (place + 1) ns (omega arith) (omega arith) p.1)

source_again : (s : Source) → source_sound s ≡ true → (source_of (source_byte s) ≡ s) × ((leb (source_byte s) 3 || eqb (source_byte s) 16) ≡ true)
source_again (Kept s) e =
    let small = leb-true s.0 3 e in
    let other : eqb s.0 16 ≡ false = grind (arith, nat_tests) in
    (ap (λ b. cond b Taken (Kept (record { 0 = s.0 }))) other, grind (arith, nat_tests))
source_again Taken e = (refl, refl)

sources_ok : (k place : ℕ) (ss : List Source) → 6 ≤ place → place + length ss ≤ 10 → every source_sound ss ≡ true → (map source_of (map source_byte ss) ≡ ss) × (fields_ok 3 k place (map source_byte ss) ≡ true)
sources_ok k place [] low high e = (refl, refl)
sources_ok k place (s ∷ ss) low high e =
    let p = and_parts (source_sound s) (every source_sound ss) e in
    let here = source_again s p.0 in
    let more = sources_ok k (place + 1) ss (omega arith) (omega arith) p.1 in
    ((λ i. here.0 i ∷ more.0 i), and_from (line_ok k place (source_byte s)) _ (source_at k place (source_byte s) low (omega arith) here.1) more.1)

kind_again : (k : LineKind) → kind_sound k ≡ true → (kind_of (kind_byte k) (third_byte k) ≡ k) × (leb (kind_byte k) 1 ≡ true) × (third_ok (kind_byte k) (third_byte k) ≡ true)
kind_again Take e = (refl, refl, refl)
kind_again (Show s) e = (refl, refl, e)

header_told : (at : ℕ) (h : HeaderModel) → sound (header h) ≡ true → frame_answer at (frame_bytes (header h)) ≡ Ok (header h)
header_told at h e =
    let bs = frame_bytes (header h) in
    let a = and_parts (between 1 32 h.screens) _ e in
    let b = and_parts (leb h.lines 128) _ a.1 in
    let c = and_parts (every name_sound h.numbers) (leb (length h.numbers) 4) b.1 in
    let few = leb-true (length h.numbers) 4 c.1 in
    let n = length-map h.numbers name_byte in
    answered at bs (header h) refl (within 4 8 (length bs) (omega (arith, n)) (omega (arith, n)))
    (and_from (between 1 32 h.screens) _ a.0 (and_from (leb h.lines 128) _ b.0 (numbers_ok h.lines 4 h.numbers (omega arith) (omega arith) c.0)))
    (ap (λ ns. header (record { screens = h.screens; lines = h.lines; start = h.start; numbers = ns })) (map-map name_of name_byte h.numbers ∙ map-id h.numbers))

line_told : (at : ℕ) (l : LineModel) → sound (line l) ≡ true → frame_answer at (frame_bytes (line l)) ≡ Ok (line l)
line_told at l e =
    let bs = frame_bytes (line l) in
    let a = and_parts (kind_sound l.kind) _ e in
    let b = and_parts (leb l.port.0 31) _ a.1 in
    let c = and_parts (every source_sound l.sources) (leb (length l.sources) 4) b.1 in
    let few = leb-true (length l.sources) 4 c.1 in
    let n = length-map l.sources source_byte in
    let k = kind_again l.kind a.0 in
    let s = sources_ok (kind_byte l.kind) 6 l.sources (omega arith) (omega arith) c.0 in
    answered at bs (line l) refl (within 6 10 (length bs) (omega (arith, n)) (omega (arith, n)))
    (and_from (leb (kind_byte l.kind) 1) _ k.1 (and_from (leb l.port.0 31) _ b.0 (and_from (third_ok (kind_byte l.kind) (third_byte l.kind)) _ k.2 s.1)))
    (λ i. line (record { from = l.from; kind = k.0 i; port = l.port; next = l.next; sources = s.0 i }))

-- a frame's bytes say it
pub frame_told : (at : ℕ) (f : FrameModel) → sound f ≡ true → frame_answer at (frame_bytes f) ≡ Ok f
frame_told at (header h) e = header_told at h e
frame_told at (screen s) e = answered at (frame_bytes (screen s)) (screen s) refl refl (and_from (leb s.slots 4) true e refl) refl
frame_told at (line l) e = line_told at l e

-- a frame has 1 to 10 bytes
pub frame_size : (f : FrameModel) → sound f ≡ true → (1 ≤ length (frame_bytes f)) × (length (frame_bytes f) ≤ 10)
frame_size (header h) e =
    let few = (and_parts (every name_sound h.numbers) (leb (length h.numbers) 4) (and_parts (leb h.lines 128) _ (and_parts (between 1 32 h.screens) _ e).1).1).1 in
    (omega arith, omega (arith, length-map h.numbers name_byte, leb-true (length h.numbers) 4 few))
frame_size (screen s) e = (omega arith, omega arith)
frame_size (line l) e =
    let few = (and_parts (every source_sound l.sources) (leb (length l.sources) 4) (and_parts (leb l.port.0 31) _ (and_parts (kind_sound l.kind) _ e).1).1).1 in
    (omega arith, omega (arith, length-map l.sources source_byte, leb-true (length l.sources) 4 few))

-- a frame's line of text says it
pub line_frame_of : (at : ℕ) (f : FrameModel) → sound f ≡ true → every is_byte (frame_bytes f) ≡ true → line_frame at (hexes (frame_bytes f)) ≡ Ok f
line_frame_of at f e b =
    let n = frame_size f e in
    ap (λ r. after (lifted Text r) (frame_answer at)) (line_bytes_of at (frame_bytes f) b n.0 (omega (arith, n.1)))
    ∙ frame_told at f e

-- a line that says a frame is the frame's line of text
pub line_frame_back : (at : ℕ) (l : List ℕ) (f : FrameModel) → line_frame at l ≡ Ok f → (hexes (frame_bytes f) ≡ l) × (sound f ≡ true)
line_frame_back at l f e =
    let p = after_ok (lifted Text (line_bytes at l)) (frame_answer at) f e in
    let s = frame_says at p.0 f p.2 in
    (ap hexes s.0 ∙ line_bytes_back at l p.0 (lifted_ok Text (line_bytes at l) p.0 p.1), s.1)
