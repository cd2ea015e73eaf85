-- What counts, held sets and ways of challenging have to do with one another.
use Rattle.std.proofs.Common.{◌≡◌, ℕ, zero, suc, ◌+◌, ◌-◌, ◌<◌, ◌≤◌, Bool, true, false, cond, not, ◌&&◌, ◌⊎◌, List, [], ◌∷◌, length, Some, None, Option, sym, refl, ap, ◌∙◌, subst, ap₂, inl, inr, ⊎_elim, arith}
use mathlib.Core.Bool.{false≢true}
use Rattle.std.specs.List.{slice_get}
use Rattle.std.proofs.lemmas.Bool.{and_parts, and_from, or_cases, or_left, or_right, or_parts, cases_Bool, both_ways, not-true, cases_lt, cases_order, and_cases, cond_both}
use Rattle.games.proofs.Members.{every_listed, every_replies}
use Rattle.games.proofs.Winning.{wins}
use Rattle.games.specs.Counts.{forces, within, has_count, CountIs}
use Rattle.games.specs.Held.{Held, Holds, HeldBy}
use Rattle.games.specs.Listing.{listed, Closed}
use Rattle.games.specs.Meaning.{Meaning, Challenge}
use Rattle.games.specs.Ways.{Way, sure, SureWithin, Fails, each_reply, chosen}
use Rattle.lists.proofs.Tested.{by_true, by_false, same_test, every_mono, any_mono, any_both, number, number_le, number_more, every_not, any_nth, every_nth}
use Rattle.lists.specs.Every.{any, every}

pub forces_mono : (m : Meaning) (p q : ℕ → Bool) (x : ℕ) → ((y : ℕ) → p y ≡ true → q y ≡ true) → forces m.at p x ≡ true → forces m.at q x ≡ true
forces_mono m p q x f h = any_mono (λ c. every p c.replies) (λ c. every q c.replies) (m.at x) (λ c e. every_mono p q c.replies f e) h

pub forces_ext : (m : Meaning) (p q : ℕ → Bool) (x : ℕ) → ((y : ℕ) → p y ≡ q y) → forces m.at p x ≡ forces m.at q x
forces_ext m p q x f = same_test _ _ (forces_mono m p q x (λ y e. sym (f y) ∙ e)) (forces_mono m q p x (λ y e. f y ∙ e))

pub within_more : (m : Meaning) (n x : ℕ) → within m.at n x ≡ true → within m.at (suc n) x ≡ true
within_more m n x h = or_left (within m.at n x) (forces m.at (within m.at n) x) h

-- within n + 1 is: some challenge has only replies within n
pub within_forces : (m : Meaning) (n x : ℕ) → within m.at (suc n) x ≡ true → forces m.at (within m.at n) x ≡ true
within_forces m zero x h = h
within_forces m (suc n) x h =
    ⊎_elim (λ e. forces_mono m (within m.at n) (within m.at (suc n)) x (within_more m n) (within_forces m n x e)) (λ e. e) (or_cases (within m.at (suc n) x) (forces m.at (within m.at (suc n)) x) h)

pub within_wins : (m : Meaning) (n x : ℕ) → within m.at n x ≡ wins m.at n x
within_wins m zero x = refl
within_wins m (suc n) x =
    same_test _ _ (λ h. sym (forces_ext m (within m.at n) (wins m.at n) x (within_wins m n)) ∙ within_forces m n x h)
    (λ h. or_right (within m.at n x) _ (forces_ext m (within m.at n) (wins m.at n) x (within_wins m n) ∙ h))

-- a count from 1 to n
pub count_within : (m : Meaning) (n x : ℕ) → within m.at n x ≡ true → (k : ℕ) × (k ≤ n) × (has_count m.at k x ≡ true)
count_within m zero x h = absurd (false≢true h)
count_within m (suc n) x h =
    ⊎_elim (λ e. let r = count_within m n x e in (r.0, omega arith, r.2))
    (λ e. (suc n, omega arith, and_from (not (within m.at n x)) _ (ap not e) (within_forces m n x h)))
    (cases_Bool (within m.at n x))

pub within_le : (m : Meaning) (k n x : ℕ) → k ≤ n → within m.at k x ≡ true → within m.at n x ≡ true
within_le m k zero x l h = let e : k ≡ 0 = omega arith in subst (λ (i : ℕ). within m.at i x ≡ true) e h
within_le m k (suc n) x l h =
    ⊎_elim (λ e. within_more m n x (within_le m k n x (omega arith) h))
    (λ e. let q : k ≡ suc n = omega arith in subst (λ (i : ℕ). within m.at i x ≡ true) q h) (cases_lt k (suc n))

pub has_within : (m : Meaning) (k n x : ℕ) → k ≤ n → has_count m.at k x ≡ true → within m.at n x ≡ true
has_within m zero n x l h = absurd (false≢true h)
has_within m (suc k) n x l h = within_le m (suc k) n x l (or_right (within m.at k x) _ (and_parts _ _ h).1)

pub has_before : (m : Meaning) (k n x : ℕ) → n < k → has_count m.at k x ≡ true → within m.at n x ≡ false
has_before m zero n x l h = absurd (false≢true h)
has_before m (suc k) n x l h =
    by_false _ (λ e. both_ways (within m.at k x) (not-true _ (and_parts _ _ h).0) (within_le m n k x (omega arith) e))

-- a code has one count at most
pub one_count : (m : Meaning) (j k x : ℕ) → has_count m.at j x ≡ true → has_count m.at k x ≡ true → j ≡ k
one_count m j k x a b =
    ⊎_elim (λ e. e)
    (⊎_elim (λ e. absurd (both_ways _ (has_before m k j x e b) (has_within m j j x (omega arith) a)))
    (λ e. absurd (both_ways _ (has_before m j k x e a) (has_within m k k x (omega arith) b))))
    (cases_order j k)

-- no held set has a code with a count
pub held_uncounted : (m : Meaning) (s : ℕ → Bool) → Held m s → (n x : ℕ) → s x ≡ true → within m.at n x ≡ true → ⊥
held_uncounted m s held zero x e h = false≢true h
held_uncounted m s held (suc n) x e h =
    let c = any_both (λ c. any s c.replies) (λ c. every (within m.at n) c.replies) (m.at x) (held x e) (within_forces m n x h) in
    let y = any_both (within m.at n) s c.0.replies c.2 c.1 in
    held_uncounted m s held n y.0 y.2 y.1

-- a round that gives no new count
abbrev pub Still : Meaning → List ℕ → ℕ → Type 0
Still m xs n = (x : ℕ) → listed x xs ≡ true → has_count m.at (suc n) x ≡ false

abbrev pub unforced : Meaning → List ℕ → ℕ → ℕ → Bool
unforced m xs n x = listed x xs && not (within m.at n x)

-- x in the list, a challenge at x with no reply in the set: all its replies are within n
lost_replies : (p w : ℕ → Bool) (ys : List ℕ) → every p ys ≡ true → any (λ y. p y && not (w y)) ys ≡ false → every w ys ≡ true
lost_replies p w [] a h = refl
lost_replies p w (y ∷ ys) a h =
    let ab = and_parts (p y) _ a in
    let cd = or_parts (p y && not (w y)) _ h in
    and_from (w y) _ (by_true (w y) (λ e. both_ways _ cd.0 (and_from (p y) _ ab.0 (ap not e)))) (lost_replies p w ys ab.1 cd.1)

lost : (p w : ℕ → Bool) (cs : List (Challenge ℕ)) → every (λ c. every p c.replies) cs ≡ true → every (λ c. any (λ y. p y && not (w y)) c.replies) cs ≡ false → any (λ c. every w c.replies) cs ≡ true
lost p w [] a h = sym h
lost p w (c ∷ cs) a h =
    let ab = and_parts (every p c.replies) _ a in
    ⊎_elim (λ e. or_left _ _ (lost_replies p w c.replies ab.0 e)) (λ e. or_right _ _ (lost p w cs ab.1 e)) (and_cases _ _ h)

pub still_held : (m : Meaning) (xs : List ℕ) (n : ℕ) → Closed m xs → Still m xs n → Held m (unforced m xs n)
still_held m xs n closed still x e =
    let ab = and_parts (listed x xs) _ e in
    by_true _ (λ h. both_ways _ (still x ab.0) (and_from (not (within m.at n x)) _ ab.1 (lost (λ y. listed y xs) (within m.at n) (m.at x) (every_replies _ (m.at x) (closed x ab.0)) h)))

-- counts in a closed list are at most as many as its codes
pub rounds : (m : Meaning) (xs : List ℕ) (k : ℕ) → ((j : ℕ) × (j < k) × Still m xs j) ⊎ (k ≤ number (within m.at k) xs)
rounds m xs zero = inr (omega arith)
rounds m xs (suc k) =
    ⊎_elim (λ s. inl (s.0, omega arith, s.2))
    (λ l. ⊎_elim
    (λ e. inr (omega (
      arith,
      number_more (within m.at k) (within m.at (suc k)) xs (within_more m k)
          (any_mono (has_count m.at (suc k)) _ xs (λ x h. and_from _ _ (and_parts _ _ h).0 (or_right (within m.at k x) _ (and_parts _ _ h).1)) e),
    )))
    (λ e. inl (k, omega arith, λ x h. not-true _ (every_listed (λ y. not (has_count m.at (suc k) y)) xs x (every_not (has_count m.at (suc k)) xs e) h)))
    (cases_Bool (any (has_count m.at (suc k)) xs)))
    (rounds m xs k)

pub still_no_count : (m : Meaning) (xs : List ℕ) (j n x : ℕ) → Closed m xs → Still m xs j → listed x xs ≡ true → j < n → has_count m.at n x ≡ true → ⊥
still_no_count m xs j n x closed still h l e =
    held_uncounted m (unforced m xs j) (still_held m xs j closed still) n x (and_from (listed x xs) _ h (ap not (has_before m n j x l e))) (has_within m n n x (omega arith) e)

pub count_le : (m : Meaning) (xs : List ℕ) (n x : ℕ) → Closed m xs → listed x xs ≡ true → has_count m.at n x ≡ true → n ≤ length xs
count_le m xs n x closed h e =
    ⊎_elim (λ s. absurd (still_no_count m xs s.0 n x closed s.2 h s.1 e)) (λ l. omega (arith, number_le (within m.at n) xs)) (rounds m xs n)

-- ways of challenging
each_mono : (p q : ℕ → Bool) (o : Option (Challenge ℕ)) → ((y : ℕ) → p y ≡ true → q y ≡ true) → each_reply p o ≡ true → each_reply q o ≡ true
each_mono p q None f h = h
each_mono p q (Some c) f h = every_mono p q c.replies f h

each_nth : (p : ℕ → Bool) (cs : List (Challenge ℕ)) (i : ℕ) → each_reply p (slice_get cs i) ≡ true → any (λ c. every p c.replies) cs ≡ true
each_nth p [] i h = h
each_nth p (c ∷ cs) zero h = or_left _ _ h
each_nth p (c ∷ cs) (suc i) h = or_right (every p c.replies) _ (each_nth p cs i h)

each_forces : (p : ℕ → Bool) (cs : List (Challenge ℕ)) (o : Option ℕ) → each_reply p (chosen cs o) ≡ true → any (λ c. every p c.replies) cs ≡ true
each_forces p cs None h = absurd (false≢true h)
each_forces p cs (Some i) h = each_nth p cs i h

pub sure_wins : (m : Meaning) (w : Way) (n x : ℕ) (past : List ℕ) → sure m w n x past ≡ true → wins m.at n x ≡ true
sure_wins m w zero x past h = h
sure_wins m w (suc n) x past h =
    forces_mono m (λ y. sure m w n y (y ∷ past)) (wins m.at n) x (λ y e. sure_wins m w n y (y ∷ past) e) (each_forces _ (m.at x) (w past) h)

-- the first challenge that wins
abbrev first_forcing : (ℕ → Bool) → List (Challenge ℕ) → ℕ
first_forcing p [] = 0
first_forcing p (c ∷ cs) = cond (every p c.replies) 0 (suc (first_forcing p cs))

first_each : (p : ℕ → Bool) (cs : List (Challenge ℕ)) → any (λ c. every p c.replies) cs ≡ true → each_reply p (slice_get cs (first_forcing p cs)) ≡ true
first_each p [] h = h
first_each p (c ∷ cs) h =
    cond_both (every p c.replies) 0 (suc (first_forcing p cs)) (λ i. each_reply p (slice_get (c ∷ cs) i) ≡ true) (λ e. e)
    (λ e. first_each p cs (⊎_elim (λ d. absurd (both_ways _ e d)) (λ d. d) (or_cases (every p c.replies) _ h)))

abbrev latest : ℕ → List ℕ → ℕ
latest x [] = x
latest x (y ∷ ys) = y

abbrev best_at : Meaning → ℕ → ℕ → Option ℕ
best_at m k x = Some (first_forcing (wins m.at k) (m.at x))

abbrev best : Meaning → ℕ → ℕ → Way
best m n x past = best_at m (n - suc (length past)) (latest x past)

best_sure : (m : Meaning) (n s : ℕ) (k x : ℕ) (past : List ℕ) → k + length past ≡ n → latest s past ≡ x → wins m.at k x ≡ true → sure m (best m n s) k x past ≡ true
best_sure m n s zero x past e f h = h
best_sure m n s (suc k) x past e f h =
    let q : n - suc (length past) ≡ k = omega arith in
    let same : best m n s past ≡ best_at m k x = ap₂ (best_at m) q f in
    let step = each_mono (wins m.at k) (λ y. sure m (best m n s) k y (y ∷ past)) (slice_get (m.at x) (first_forcing (wins m.at k) (m.at x)))
    (λ y d. best_sure m n s k y (y ∷ past) (omega arith) refl d) (first_each (wins m.at k) (m.at x) h) in
    subst (λ (o : Option ℕ). each_reply (λ y. sure m (best m n s) k y (y ∷ past)) (chosen (m.at x) o) ≡ true) (sym same) step

pub sure_iff : (m : Meaning) (n : ℕ) → (SureWithin m n → within m.at n m.start ≡ true) × (within m.at n m.start ≡ true → SureWithin m n)
sure_iff m n = (
  λ w. within_wins m n m.start ∙ sure_wins m w.0 n m.start [] w.1,
  λ h. (best m n m.start, best_sure m n m.start n m.start [] (omega arith) refl (sym (within_wins m n m.start) ∙ h)),
)

pub fails_from : (m : Meaning) (r : ℕ) → has_count m.at r m.start ≡ true → Fails m r
fails_from m r h =
    ((sure_iff m r).1 (has_within m r r m.start (omega arith) h), λ n l w. both_ways _ (has_before m r n m.start l h) ((sure_iff m n).0 w))

pub holds_not_count : (m : Meaning) (n : ℕ) → Holds m → has_count m.at n m.start ≡ true → ⊥
holds_not_count m n h e = held_uncounted m h.0 h.1 n m.start h.2 (has_within m n n m.start (omega arith) e)

-- no code has a count past a still round
pub still_none : (m : Meaning) (xs : List ℕ) (n x : ℕ) → Closed m xs → Still m xs n → listed x xs ≡ true → within m.at n x ≡ false → CountIs m x 0
still_none m xs n x closed still h e k =
    by_false _ (λ d. held_uncounted m (unforced m xs n) (still_held m xs n closed still) k x (and_from (listed x xs) _ h (ap not e)) (has_within m k k x (omega arith) d))

pub still_holds : (m : Meaning) (xs : List ℕ) (n : ℕ) → Closed m xs → Still m xs n → listed m.start xs ≡ true → within m.at n m.start ≡ false → Holds m
still_holds m xs n closed still h e = (unforced m xs n, still_held m xs n closed still, and_from (listed m.start xs) _ h (ap not e))

-- no set of any sort is held with a code that has a count
pub held_by_uncounted : (m : Meaning) (S : ℕ → Type 0) → HeldBy m S → (n x : ℕ) → S x → within m.at n x ≡ true → ⊥
held_by_uncounted m S held zero x e h = false≢true h
held_by_uncounted m S held (suc n) x e h =
    let c = any_nth (λ c. every (within m.at n) c.replies) (m.at x) (within_forces m n x h) in
    let r = held x e c.0 c.1 c.2 in
    held_by_uncounted m S held n r.1 r.3 (every_nth (within m.at n) c.1.replies r.0 r.1 c.3 r.2)

pub fails_unheld : (m : Meaning) (r : ℕ) → has_count m.at r m.start ≡ true → Holds m → ⊥
fails_unheld m r h s = holds_not_count m r s h
