-- A frame that bytes say is in range, and has just those bytes.
use Rattle.std.proofs.Common.{◌≡◌, ℕ, ◌+◌, ◌≤◌, Bool, true, false, cond, ◌||◌, eqb, leb, List, [], ◌∷◌, map, length, get_or, drop, Ok, sym, refl, ap, ◌∙◌, subst, arith, drop-cons}
use lib.ListN.{length-map}
use Rattle.std.proofs.lemmas.Bool.Decides.{nat_tests}
use Rattle.std.proofs.lemmas.List.{drop_all, map-id}
use Rattle.std.proofs.lemmas.Simd.{map-map}
use Rattle.std.proofs.lemmas.Bool.{and_parts, and_from, eqb-true, eqb-false, leb-true, le-leb}
use Rattle.lists.specs.Between.{between}
use Rattle.lists.specs.Every.{every}
use Rattle.texts.proofs.Asked.{asked_ok}
use Rattle.pages.specs.declared.Source.TheVariants.{Kept, Taken}
use Rattle.pages.specs.declared.LineKind.TheVariants.{Take, Show}
use Rattle.frames.specs.Model.{FrameModel, screen}
use Rattle.frames.specs.Fields.{source_of, source_byte, name_of, name_byte, kind_of, kind_byte, third_byte}
use Rattle.frames.specs.Ranges.{header_ok, third_ok, line_ok, fields_ok, in_range}
use Rattle.frames.specs.Parsing.{frame_of, frame_answer, sized, header_of, line_of}
use Rattle.frames.specs.Bytes.{frame_bytes, sound, source_sound, kind_sound, name_sound}

-- the frame has these bytes and is in range
abbrev pub Says : List ℕ → FrameModel → Type 0
Says bs f = (frame_bytes f ≡ bs) × (sound f ≡ true)

-- start numbers stand from place 4 on, sources from place 6 on
number_late : (place b : ℕ) → 4 ≤ place → header_ok place b ≡ true → leb b 7 ≡ true
number_late place b h e = grind (arith, nat_tests)

source_late : (kind place b : ℕ) → 6 ≤ place → line_ok kind place b ≡ true → (leb b 3 || eqb b 16) ≡ true
source_late kind place b h e = grind (arith, nat_tests)

source_in : (b : ℕ) → (leb b 3 || eqb b 16) ≡ true → (source_byte (source_of b) ≡ b) × (source_sound (source_of b) ≡ true)
source_in b e = go (eqb b 16) refl
  where
    go : (q : Bool) → eqb b 16 ≡ q → (source_byte (cond q Taken (Kept (record { 0 = b }))) ≡ b) × (source_sound (cond q Taken (Kept (record { 0 = b }))) ≡ true)
    go true h = (sym (eqb-true b 16 h), refl)
    go false h = (refl, grind (arith, nat_tests))

numbers_in : (k place : ℕ) (bs : List ℕ) → 4 ≤ place → fields_ok 1 k place bs ≡ true → every name_sound (map name_of bs) ≡ true
numbers_in k place [] h e = refl
numbers_in k place (b ∷ bs) h e =
    let p = and_parts (header_ok place b) (fields_ok 1 k (place + 1) bs) e in
    and_from (leb b 7) (every name_sound (map name_of bs)) (number_late place b h p.0) (numbers_in k (place + 1) bs (omega arith) p.1)

sources_in : (k place : ℕ) (bs : List ℕ) → 6 ≤ place → fields_ok 3 k place bs ≡ true → (map source_byte (map source_of bs) ≡ bs) × (every source_sound (map source_of bs) ≡ true)
sources_in k place [] h e = (refl, refl)
sources_in k place (b ∷ bs) h e =
    let p = and_parts (line_ok k place b) (fields_ok 3 k (place + 1) bs) e in
    let here = source_in b (source_late k place b h p.0) in
    let more = sources_in k (place + 1) bs (omega arith) p.1 in
    ((λ i. here.0 i ∷ more.0 i), and_from (source_sound (source_of b)) (every source_sound (map source_of bs)) here.1 more.1)

kind_in : (k t : ℕ) → leb k 1 ≡ true → third_ok k t ≡ true → (kind_byte (kind_of k t) ≡ k) × (third_byte (kind_of k t) ≡ t) × (kind_sound (kind_of k t) ≡ true)
kind_in k t e f = go (eqb k 0) refl
  where
    go : (q : Bool) → eqb k 0 ≡ q →
        (kind_byte (cond q Take (Show (record { 0 = t }))) ≡ k) × (third_byte (cond q Take (Show (record { 0 = t }))) ≡ t) × (kind_sound (cond q Take (Show (record { 0 = t }))) ≡ true)
    go true h = (grind (arith, nat_tests), grind (arith, nat_tests), refl)
    go false h = (grind (arith, nat_tests), refl, grind (arith, nat_tests))

header_says : (s n st : ℕ) (ns : List ℕ) → in_range (1 ∷ s ∷ n ∷ st ∷ ns) ≡ true → length ns ≤ 4 → Says (1 ∷ s ∷ n ∷ st ∷ ns) (header_of s n st ns)
header_says s n st ns e few =
    let a = and_parts (between 1 32 s) _ e in
    let b = and_parts (leb n 128) _ a.1 in
    let c = numbers_in n 4 ns (omega arith) b.1 in (
      ap (λ l. 1 ∷ s ∷ n ∷ st ∷ l) (map-map name_byte name_of ns ∙ map-id ns),
      and_from (between 1 32 s) _ a.0 (and_from (leb n 128) _ b.0 (and_from (every name_sound (map name_of ns)) _ c (le-leb (length (map name_of ns)) 4 (omega (arith, length-map ns name_of))))),
    )

screen_says : (s : ℕ) → in_range (2 ∷ s ∷ []) ≡ true → Says (2 ∷ s ∷ []) (screen (record { slots = s }))
screen_says s e = (refl, (and_parts (leb s 4) true e).0)

line_says : (from kind port third next : ℕ) (ss : List ℕ) → in_range (3 ∷ from ∷ kind ∷ port ∷ third ∷ next ∷ ss) ≡ true → length ss ≤ 4
    → Says (3 ∷ from ∷ kind ∷ port ∷ third ∷ next ∷ ss) (line_of from kind port third next ss)
line_says from kind port third next ss e few =
    let a = and_parts (leb kind 1) _ e in
    let b = and_parts (leb port 31) _ a.1 in
    let c = and_parts (third_ok kind third) _ b.1 in
    let k = kind_in kind third a.0 c.0 in
    let s = sources_in kind 6 ss (omega arith) c.1 in (
      (λ i. 3 ∷ from ∷ k.0 i ∷ port ∷ k.1 i ∷ next ∷ s.0 i),
      and_from (kind_sound (kind_of kind third)) _ k.2 (and_from (leb port 31) _ b.0 (and_from (every source_sound (map source_of ss)) _ s.1 (le-leb (length (map source_of ss)) 4 (omega (arith, length-map ss source_of))))),
    )

-- a list by its first places
two : (k : ℕ) (bs : List ℕ) → get_or bs 0 0 ≡ k → length bs ≡ 2 → k ∷ get_or bs 1 0 ∷ [] ≡ bs
two k bs e h = cc (drop-cons bs 0 0 (omega arith), drop-cons bs 1 0 (omega arith), drop_all 2 bs (omega arith))

four : (k : ℕ) (bs : List ℕ) → get_or bs 0 0 ≡ k → 4 ≤ length bs → k ∷ get_or bs 1 0 ∷ get_or bs 2 0 ∷ get_or bs 3 0 ∷ drop 4 bs ≡ bs
four k bs e h = cc (drop-cons bs 0 0 (omega arith), drop-cons bs 1 0 (omega arith), drop-cons bs 2 0 (omega arith), drop-cons bs 3 0 (omega arith))

six : (k : ℕ) (bs : List ℕ) → get_or bs 0 0 ≡ k → 6 ≤ length bs → k ∷ get_or bs 1 0 ∷ get_or bs 2 0 ∷ get_or bs 3 0 ∷ get_or bs 4 0 ∷ get_or bs 5 0 ∷ drop 6 bs ≡ bs
six k bs e h =
    cc (drop-cons bs 0 0 (omega arith), drop-cons bs 1 0 (omega arith), drop-cons bs 2 0 (omega arith), drop-cons bs 3 0 (omega arith), drop-cons bs 4 0 (omega arith), drop-cons bs 5 0 (omega arith))

-- by the frame's kind, p and q telling whether it is 1 or 2
by_kind : (bs : List ℕ) (p q : Bool) → eqb (get_or bs 0 0) 1 ≡ p → eqb (get_or bs 0 0) 2 ≡ q → between 1 3 (get_or bs 0 0) ≡ true → in_range bs ≡ true
    → cond p (between 4 8 (length bs)) (cond q (eqb (length bs) 2) (between 6 10 (length bs))) ≡ true
    → Says bs (cond p (header_of (get_or bs 1 0) (get_or bs 2 0) (get_or bs 3 0) (drop 4 bs))
    (cond q (screen (record { slots = get_or bs 1 0 })) (line_of (get_or bs 1 0) (get_or bs 2 0) (get_or bs 3 0) (get_or bs 4 0) (get_or bs 5 0) (drop 6 bs))))
by_kind bs true q ep eq k r n =
    let m = and_parts (leb 4 (length bs)) (leb (length bs) 8) n in
    let is = four 1 bs (eqb-true _ 1 ep) (leb-true 4 _ m.0) in
    let few : length (drop 4 bs) ≤ 4 = omega (arith, ap length is, leb-true _ 8 m.1) in
    subst (λ l. Says l (header_of (get_or bs 1 0) (get_or bs 2 0) (get_or bs 3 0) (drop 4 bs))) is
    (header_says (get_or bs 1 0) (get_or bs 2 0) (get_or bs 3 0) (drop 4 bs) (subst (λ l. in_range l ≡ true) (sym is) r) few)
by_kind bs false true ep eq k r n =
    let is = two 2 bs (eqb-true _ 2 eq) (eqb-true _ 2 n) in
    subst (λ l. Says l (screen (record { slots = get_or bs 1 0 }))) is (screen_says (get_or bs 1 0) (subst (λ l. in_range l ≡ true) (sym is) r))
by_kind bs false false ep eq k r n =
    let x = get_or bs 0 0 in
    let m = and_parts (leb 6 (length bs)) (leb (length bs) 10) n in
    let w = and_parts (leb 1 x) (leb x 3) k in
    let three : get_or bs 0 0 ≡ 3 = omega (arith, leb-true 1 x w.0, leb-true x 3 w.1, eqb-false x 1 ep, eqb-false x 2 eq) in
    let is = six 3 bs three (leb-true 6 _ m.0) in
    let few : length (drop 6 bs) ≤ 4 = omega (arith, ap length is, leb-true _ 10 m.1) in
    subst (λ l. Says l (line_of (get_or bs 1 0) (get_or bs 2 0) (get_or bs 3 0) (get_or bs 4 0) (get_or bs 5 0) (drop 6 bs))) is
    (line_says (get_or bs 1 0) (get_or bs 2 0) (get_or bs 3 0) (get_or bs 4 0) (get_or bs 5 0) (drop 6 bs) (subst (λ l. in_range l ≡ true) (sym is) r) few)

pub frame_says : (at : ℕ) (bs : List ℕ) (f : FrameModel) → frame_answer at bs ≡ Ok f → Says bs f
frame_says at bs f e =
    let k = asked_ok (between 1 3 (get_or bs 0 0)) _ _ f e in
    let n = asked_ok (sized (get_or bs 0 0) (length bs)) _ _ f k.1 in
    let r = asked_ok (in_range bs) _ _ f n.1 in
    let same : frame_of bs ≡ f = cc r.1 in
    subst (Says bs) same (by_kind bs (eqb (get_or bs 0 0) 1) (eqb (get_or bs 0 0) 2) refl refl k.0 r.0 n.0)
