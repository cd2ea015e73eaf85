-- The listing has each code that the match leads to, once.
use Rattle.std.proofs.Common.{◌≡◌, ℕ, zero, suc, ◌<◌, ◌≤◌, true, false, not, ◌&&◌, eqb, ◌⊎◌, List, [], ◌∷◌, ◌++◌, length, Some, None, Option, sym, refl, ap, ◌∙◌, subst, inl, inr, ⊎_elim, arith, eq-eqb, eqb-true}
use mathlib.Core.Bool.{false≢true}
use Rattle.std.proofs.lemmas.Bool.{eqb-false, cases_lt, cond_both, or_left, or_right, or_cases, or_parts, and_from, and_parts, not-true, both_ways}
use Rattle.std.proofs.lemmas.List.Folds.{list_any-append}
use Rattle.std.specs.List.{slice_get}
use Rattle.games.proofs.Listed.{reached_listed}
use Rattle.games.specs.Listing.{listed, with_new, listing, expanded, Reached, at_start, at_reply, distinct, MoreThan}
use Rattle.games.specs.Meaning.{Meaning, replies_at}
use Rattle.lists.proofs.Tested.{by_false, any_mono, any_at, number, number_le, number_more}
use Rattle.lists.specs.Every.{any}

append_cases : (y : ℕ) (xs ys : List ℕ) → listed y (xs ++ ys) ≡ true → (listed y xs ≡ true) ⊎ (listed y ys ≡ true)
append_cases y xs ys h = or_cases _ _ (sym (list_any-append (eqb y) xs ys) ∙ h)

new_cases : (y : ℕ) (seen ys : List ℕ) → listed y (with_new seen ys) ≡ true → (listed y seen ≡ true) ⊎ (listed y ys ≡ true)
new_cases y seen [] h = inl h
new_cases y seen (z ∷ ys) h =
    let split : (s : List ℕ) → ((listed y s ≡ true) → (listed y seen ≡ true) ⊎ (listed y (z ∷ ys) ≡ true)) → (listed y s ≡ true) ⊎ (listed y ys ≡ true) → (listed y seen ≡ true) ⊎ (listed y (z ∷ ys) ≡ true)
    = λ s f o. ⊎_elim f (λ d. inr (or_right (eqb y z) _ d)) o in
    (cond_both (listed z seen) seen (seen ++ (z ∷ [])) (λ s. listed y (with_new s ys) ≡ true → (listed y seen ≡ true) ⊎ (listed y (z ∷ ys) ≡ true))
    (λ e k. split seen inl (new_cases y seen ys k))
    (λ e k. split (seen ++ (z ∷ [])) (λ d. ⊎_elim inl (λ q. inr (or_left (eqb y z) _ (⊎_elim (λ t. t) (λ t. absurd (false≢true t)) (or_cases (eqb y z) _ q)))) (append_cases y seen (z ∷ []) d)) (new_cases y (seen ++ (z ∷ [])) ys k))) h

distinct_push : (y : ℕ) (xs : List ℕ) → listed y xs ≡ false → distinct xs ≡ true → distinct (xs ++ (y ∷ [])) ≡ true
distinct_push y [] n d = refl
distinct_push y (x ∷ xs) n d =
    let nb = or_parts (eqb y x) _ n in
    let ab = and_parts (not (listed x xs)) _ d in
    and_from _ _
    (ap not (by_false _ (λ h. ⊎_elim (λ e. both_ways _ (not-true _ ab.0) e)
    (λ e. eqb-false y x nb.0 (sym (eqb-true x y (⊎_elim (λ t. t) (λ t. absurd (false≢true t)) (or_cases (eqb x y) _ e))))) (append_cases x xs (y ∷ []) h))))
    (distinct_push y xs nb.1 ab.1)

distinct_new : (seen ys : List ℕ) → distinct seen ≡ true → distinct (with_new seen ys) ≡ true
distinct_new seen [] d = d
distinct_new seen (z ∷ ys) d =
    cond_both (listed z seen) seen (seen ++ (z ∷ [])) (λ s. distinct (with_new s ys) ≡ true) (λ e. distinct_new seen ys d)
    (λ e. distinct_new (seen ++ (z ∷ [])) ys (distinct_push z seen e d))

-- different codes that all stand in ys are no more than those of ys
fewer : (xs ys : List ℕ) → distinct xs ≡ true → ((x : ℕ) → listed x xs ≡ true → listed x ys ≡ true) → length xs ≤ number (λ y. listed y xs) ys
fewer [] ys d f = omega arith
fewer (x ∷ xs) ys d f =
    let ab = and_parts (not (listed x xs)) _ d in
    let here : any (λ y. not (listed y xs) && listed y (x ∷ xs)) ys ≡ true
    = any_mono (eqb x) (λ y. not (listed y xs) && listed y (x ∷ xs)) ys
    (λ y e. subst (λ (z : ℕ). (not (listed z xs) && listed z (x ∷ xs)) ≡ true) (eqb-true x y e) (and_from _ _ ab.0 (or_left (eqb x x) _ (eq-eqb x x refl))))
    (f x (or_left (eqb x x) _ (eq-eqb x x refl))) in
    omega (arith, fewer xs ys ab.1 (λ y e. f y (or_right (eqb y x) _ e)), number_more (λ y. listed y xs) (λ y. listed y (x ∷ xs)) ys (λ y e. or_right (eqb y x) _ e) here)

module _ (m : Meaning) where
  expand_distinct : (seen : List ℕ) (o : Option ℕ) → distinct seen ≡ true → distinct (expanded m seen o) ≡ true
  expand_distinct seen None d = d
  expand_distinct seen (Some x) d = distinct_new seen (replies_at (m.at x)) d

  pub listing_distinct : (k : ℕ) → distinct (listing m k) ≡ true
  listing_distinct zero = refl
  listing_distinct (suc k) = expand_distinct (listing m k) (slice_get (listing m k) k) (listing_distinct k)

  expand_reached : (seen : List ℕ) (o : Option ℕ) → ((x : ℕ) → o ≡ Some x → listed x seen ≡ true) → ((x : ℕ) → listed x seen ≡ true → Reached m x) → (x : ℕ) → listed x (expanded m seen o) ≡ true → Reached m x
  expand_reached seen None at f x h = f x h
  expand_reached seen (Some z) at f x h = ⊎_elim (λ e. f x e) (λ e. at_reply z x (f z (at z refl)) e) (new_cases x seen (replies_at (m.at z)) h)

  pub listing_reached : (k x : ℕ) → listed x (listing m k) ≡ true → Reached m x
  listing_reached zero x h = subst (Reached m) (sym (eqb-true x m.start (⊎_elim (λ t. t) (λ t. absurd (false≢true t)) (or_cases (eqb x m.start) _ h)))) at_start
  listing_reached (suc k) x h = expand_reached (listing m k) (slice_get (listing m k) k) (λ y e. any_at (eqb y) (listing m k) k y e (eq-eqb y y refl)) (λ y e. listing_reached k y e) x h

  -- the listing passes n exactly where more than n codes are reached
  pub listing_more : (n : ℕ) → n < length (listing m n) → MoreThan m n
  listing_more n l = (listing m n, listing_distinct n, listing_reached n, l)

  pub more_listing : (n : ℕ) → MoreThan m n → n < length (listing m n)
  more_listing n w =
      ⊎_elim (λ l. l)
      (λ l. absurd (omega (arith, fewer w.0 (listing m n) w.1 (λ x e. reached_listed m n l x (w.2 x e)), number_le (λ y. listed y w.0) (listing m n), w.3)))
      (cases_lt n (length (listing m n)))
