-- What the end of a text's first line says of its lines.
use Rattle.std.proofs.Common.{◌≡◌, ℕ, zero, suc, ◌+◌, ◌-◌, ◌<◌, ◌≤◌, Bool, true, false, cond, eqb, List, [], ◌∷◌, length, take, drop, IfSome, Some, None, Option, sym, refl, ap, subst, add-one, arith, ◌∙◌}
use Rattle.std.specs.List.{slice_get}
use Rattle.std.specs.Option.{option_map}
use Rattle.std.proofs.lemmas.List.{take_rest}
use Rattle.texts.specs.Lines.{Lines, last, ended, longer, lines_of, pieces, line_at, ended_at}

-- a text's lines, by where its first line ends
abbrev pub Split : List ℕ → Option ℕ → Type 0
Split t (Some n) = (lines_of t ≡ ended (take n t) (lines_of (drop (suc n) t))) × (n < length t)
Split t None = lines_of t ≡ last t

abbrev Joined : ℕ → List ℕ → Bool → Option ℕ → Type 0
Joined b bs e (Some n) = (cond e (ended [] (lines_of bs)) (longer b (lines_of bs)) ≡ ended (take n (b ∷ bs)) (lines_of (drop (suc n) (b ∷ bs)))) × (n < length (b ∷ bs))
Joined b bs e None = cond e (ended [] (lines_of bs)) (longer b (lines_of bs)) ≡ last (b ∷ bs)

split_more : (b : ℕ) (bs : List ℕ) (e : Bool) (o : Option ℕ) → Split bs o → Joined b bs e (cond e (Some 0) (option_map suc o))
split_more b bs true o h = (refl, omega arith)
split_more b bs false None h = ap (longer b) h
split_more b bs false (Some n) h = (ap (longer b) h.0, omega (arith, h.1))

pub split : (t : List ℕ) → Split t (ended_at t)
split [] = refl
split (b ∷ bs) = split_more b bs (eqb 10 b) (ended_at bs) (split bs)

-- the same, from what the search for the end answered
pub split_at : (t : List ℕ) (n : ℕ) → Some n ≡ ended_at t → lines_of t ≡ ended (take n t) (lines_of (drop (n + 1) t))
split_at t n e = rw add-one (subst (Split t) (sym e) (split t)).0

pub unsplit : (t : List ℕ) → None ≡ ended_at t → lines_of t ≡ last t
unsplit t e = subst (Split t) (sym e) (split t)

-- the end stands within the text
pub end_within : (t : List ℕ) (o : Option ℕ) → o ≡ ended_at t → IfSome o (λ n. n < length t)
end_within t None e = tt
end_within t (Some n) e = (subst (Split t) (sym e) (split t)).1

-- the lines without their 0A, by where the first one ends
pub pieces_cut : (t : List ℕ) (n : ℕ) → Some n ≡ ended_at t → pieces (lines_of t) ≡ take n t ∷ pieces (lines_of (take (length t - (n + 1)) (drop (n + 1) t)))
pieces_cut t n e = ap pieces (split_at t n e) ∙ ap (λ l. take n t ∷ pieces (lines_of l)) (sym (take_rest t (n + 1)))

pub pieces_last : (t : List ℕ) → None ≡ ended_at t → 0 < length t → pieces (lines_of t) ≡ t ∷ []
pieces_last [] e h = absurd (omega arith)
pieces_last (b ∷ t) e h = ap pieces (unsplit (b ∷ t) e)

-- each line takes a byte of the text at least, its 0A counted: an empty line is that byte alone
longer_few : (b : ℕ) (ls : Lines) → length (pieces (longer b ls)) ≤ suc (length (pieces ls))
longer_few b (last []) = omega arith
longer_few b (last (c ∷ l)) = omega arith
longer_few b (ended l ls) = omega arith

few_more : (b : ℕ) (t : List ℕ) (e : Bool) → length (pieces (lines_of t)) ≤ length t → length (pieces (cond e (ended [] (lines_of t)) (longer b (lines_of t)))) ≤ length (b ∷ t)
few_more b t true h = omega (arith, h)
few_more b t false h = omega (arith, h, longer_few b (lines_of t))

pub pieces_few : (t : List ℕ) → length (pieces (lines_of t)) ≤ length t
pieces_few [] = omega arith
pieces_few (b ∷ t) = few_more b t (eqb 10 b) (pieces_few t)

-- numbers of lines count from 1
pub line_from_one : (ls : Lines) (n k : ℕ) → (1 ≤ n) × (k ≡ n - 1) → slice_get (pieces ls) k ≡ line_at ls n
line_from_one ls zero k h = absurd (omega arith)
line_from_one ls (suc n) k h = let same : k ≡ n = omega arith in ap (slice_get (pieces ls)) same
