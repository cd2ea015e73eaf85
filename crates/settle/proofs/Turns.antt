-- One round of settling.
use Rattle.std.proofs.Common.{◌≡◌, ℕ, zero, suc, ◌+◌, ◌-◌, ◌<◌, ◌≤◌, Bool, true, false, not, ◌&&◌, ◌||◌, eqb, ltb, ◌⊎◌, List, [], ◌∷◌, length, get_or, take, set, Some, None, Option, sym, refl, ap, ◌∙◌, subst, inl, inr, ⊎_elim, arith, length-set, get_or-set_other, get_or-set_same, le-ltb, lt-ltb, eq-eqb, ne_eqb, eqb-true}
use Rattle.std.proofs.Math.Bool.{or-false}
use Rattle.std.proofs.lemmas.Bool.{cases_lt, cases_Bool, cond-true, cond-false, or_left, or_right, and_from, and_parts, and_right, both_ways, not-true, or_parts}
use Rattle.std.proofs.lemmas.List.Folds.{list_any_more}
use Rattle.std.proofs.lemmas.Option.{slice_get-get_or}
use Rattle.games.proofs.Counting.{has_before, has_within, within_forces, Still, still_none, count_le}
use Rattle.games.proofs.Members.{every_replies, every_listed, any_listed}
use Rattle.games.specs.Counts.{forces, within, has_count, CountIs}
use Rattle.games.specs.Listing.{listed, Closed}
use Rattle.games.specs.Meaning.{Meaning, Challenge}
use Rattle.lists.proofs.Tested.{same_test, by_true, any_at, every_not}
use Rattle.lists.specs.Every.{any, every}
use Rattle.settle.specs.Rounds.{tally, marked, looked_up, due, RoundReady, RoundDone, CountsAre}
use Rattle.values.proofs.Searched.{place_good, place_none}
use Rattle.values.specs.Places.{first_place}

module _ (m : Meaning) where
  no_count : (n x : ℕ) → has_count m.at (suc n) x ≡ false → within m.at (suc n) x ≡ within m.at n x
  no_count n x h =
      same_test _ _
      (λ w. by_true _ (λ e. both_ways _ h (and_from (not (within m.at n x)) _ (ap not e) (within_forces m n x w))))
      (λ w. or_left (within m.at n x) _ w)

  pub tally_le : (n x : ℕ) → tally m n x ≤ n
  tally_le zero x = omega arith
  tally_le (suc n) x =
      ⊎_elim (λ e. omega (arith, cond-true (has_count m.at (suc n) x) (suc n) (tally m n x) e))
      (λ e. omega (arith, cond-false (has_count m.at (suc n) x) (suc n) (tally m n x) e, tally_le n x)) (cases_Bool (has_count m.at (suc n) x))

  pub tally_within : (n x : ℕ) → ltb 0 (tally m n x) ≡ within m.at n x
  tally_within zero x = refl
  tally_within (suc n) x =
      ⊎_elim
      (λ e. ap (ltb 0) (cond-true (has_count m.at (suc n) x) (suc n) (tally m n x) e) ∙ lt-ltb 0 (suc n) (omega arith) ∙ sym (has_within m (suc n) (suc n) x (omega arith) e))
      (λ e. ap (ltb 0) (cond-false (has_count m.at (suc n) x) (suc n) (tally m n x) e) ∙ tally_within n x ∙ sym (no_count n x e))
      (cases_Bool (has_count m.at (suc n) x))

  mark_old : (n x c : ℕ) → c ≡ tally m n x → (ltb 0 c && ltb c (suc n)) ≡ within m.at n x
  mark_old n x c e =
      let l : ltb c (suc n) ≡ true = lt-ltb c (suc n) (omega (arith, tally_le n x)) in
      let w : ltb 0 c ≡ within m.at n x = ap (ltb 0) e ∙ tally_within n x in
      same_test _ _ (λ h. sym w ∙ (and_parts (ltb 0 c) _ h).0) (λ h. and_from (ltb 0 c) _ (w ∙ h) l)

  mark_new : (n x c : ℕ) → c ≡ tally m (suc n) x → (ltb 0 c && ltb c (suc n)) ≡ within m.at n x
  mark_new n x c e =
      ⊎_elim
      (λ h. let q = e ∙ cond-true (has_count m.at (suc n) x) (suc n) (tally m n x) h in
      and_right (ltb 0 c) _ (le-ltb c (suc n) (omega arith)) ∙ sym (has_before m (suc n) n x (omega arith) h))
      (λ h. mark_old n x c (e ∙ cond-false (has_count m.at (suc n) x) (suc n) (tally m n x) h))
      (cases_Bool (has_count m.at (suc n) x))

  -- within a round: the counts are those of before or those of after
  module _ (xs rs : List ℕ) (j : ℕ) (closed : Closed m xs) (either : (k : ℕ) → k < length xs → (get_or rs k 0 ≡ tally m j (get_or xs k 0)) ⊎ (get_or rs k 0 ≡ tally m (suc j) (get_or xs k 0))) where
    marked_at : (y : ℕ) (o : Option ℕ) → o ≡ first_place (eqb y) xs → listed y xs ≡ true → (ltb 0 (looked_up rs o) && ltb (looked_up rs o) (suc j)) ≡ within m.at j y
    marked_at y None e h = absurd (both_ways _ (place_none (eqb y) xs e) h)
    marked_at y (Some i) e h =
        let p = place_good (eqb y) xs i 0 e in
        let q : get_or xs i 0 ≡ y = sym (eqb-true y (get_or xs i 0) p.1) in
        ⊎_elim (λ d. mark_old j y (get_or rs i 0) (d ∙ ap (tally m j) q)) (λ d. mark_new j y (get_or rs i 0) (d ∙ ap (tally m (suc j)) q)) (either i p.0)

    pub marked_is : (y : ℕ) → listed y xs ≡ true → marked xs rs (suc j) y ≡ within m.at j y
    marked_is y h = marked_at y (first_place (eqb y) xs) refl h

    alike_all : (ys : List ℕ) → every (λ y. listed y xs) ys ≡ true → every (marked xs rs (suc j)) ys ≡ every (within m.at j) ys
    alike_all [] h = refl
    alike_all (y ∷ ys) h =
        let ab = and_parts (listed y xs) _ h in
        ap (λ b. b && every (marked xs rs (suc j)) ys) (marked_is y ab.0) ∙ ap (λ b. within m.at j y && b) (alike_all ys ab.1)

    alike_some : (cs : List (Challenge ℕ)) → every (λ c. every (λ y. listed y xs) c.replies) cs ≡ true → any (λ c. every (marked xs rs (suc j)) c.replies) cs ≡ any (λ c. every (within m.at j) c.replies) cs
    alike_some [] h = refl
    alike_some (c ∷ cs) h =
        let ab = and_parts (every (λ y. listed y xs) c.replies) _ h in
        ap (λ b. b || any (λ d. every (marked xs rs (suc j)) d.replies) cs) (alike_all c.replies ab.0) ∙ ap (λ b. every (within m.at j) c.replies || b) (alike_some cs ab.1)

    pub due_is : (i : ℕ) → i < length xs → get_or rs i 0 ≡ tally m j (get_or xs i 0) → due m xs rs (suc j) i ≡ has_count m.at (suc j) (get_or xs i 0)
    due_is i l e =
        let x = get_or xs i 0 in
        let here : listed x xs ≡ true = any_at (eqb x) xs i x (slice_get-get_or xs i 0 l) (eq-eqb x x refl) in
        let f : forces m.at (marked xs rs (suc j)) x ≡ forces m.at (within m.at j) x = alike_some (m.at x) (every_replies _ (m.at x) (closed x here)) in
        let z : eqb (get_or rs i 0) 0 ≡ not (within m.at j x) = zero_test (get_or rs i 0) (within m.at j x) (ap (ltb 0) e ∙ tally_within j x) in
        ap (λ b. b && forces m.at (marked xs rs (suc j)) x) z ∙ ap (λ b. not (within m.at j x) && b) f
      where
        zero_test : (c : ℕ) (b : Bool) → ltb 0 c ≡ b → eqb c 0 ≡ not b
        zero_test zero b e = eq-eqb zero 0 refl ∙ ap not (sym (le-ltb 0 zero (omega arith)) ∙ e)
        zero_test (suc c) b e = ne_eqb (suc c) 0 (λ q. omega arith) ∙ ap not (sym (lt-ltb 0 (suc c) (omega arith)) ∙ e)

  tally_hit : (n x : ℕ) → has_count m.at n x ≡ true → tally m n x ≡ n
  tally_hit zero x h = refl
  tally_hit (suc n) x h = cond-true (has_count m.at (suc n) x) (suc n) (tally m n x) h

  tally_miss : (n x : ℕ) → has_count m.at n x ≡ false → tally m n x ≡ tally m (n - 1) x
  tally_miss zero x h = refl
  tally_miss (suc n) x h = let q : suc n - 1 ≡ n = omega arith in cond-false (has_count m.at (suc n) x) (suc n) (tally m n x) h ∙ ap (λ k. tally m k x) (sym q)

  -- round n, as far as code i
  pub record UnderWay (xs rs : List ℕ) (n i : ℕ) (given : Bool) : Type 0 where
    pub same : length xs ≡ length rs
    pub done : (k : ℕ) → k < i → get_or rs k 0 ≡ tally m n (get_or xs k 0)
    pub ahead : (k : ℕ) → i ≤ k → k < length xs → get_or rs k 0 ≡ tally m (n - 1) (get_or xs k 0)
    pub given_is : given ≡ any (has_count m.at n) (take i xs)

  due_count : (xs rs : List ℕ) (n i : ℕ) (given : Bool) → Closed m xs → 0 < n → UnderWay xs rs n i given → i < length xs → due m xs rs n i ≡ has_count m.at n (get_or xs i 0)
  due_count xs rs zero i given closed p u l = absurd (omega arith)
  due_count xs rs (suc j) i given closed p u l =
      let q : suc j - 1 ≡ j = omega arith in
      due_is xs rs j closed
      (λ k h. ⊎_elim (λ b. inr (u.done k b)) (λ b. inl (u.ahead k b h ∙ ap (λ v. tally m v (get_or xs k 0)) q)) (cases_lt k i))
      i l (u.ahead i (omega arith) l ∙ ap (λ v. tally m v (get_or xs i 0)) q)

  module _ (xs rs : List ℕ) (n i : ℕ) (given : Bool) (closed : Closed m xs) (pos : 0 < n) (u : UnderWay xs rs n i given) (inside : i < length xs) where
    pub under_given : due m xs rs n i ≡ true → UnderWay xs (set rs i n) n (i + 1) true
    under_given d =
        let h : has_count m.at n (get_or xs i 0) ≡ true = sym (due_count xs rs n i given closed pos u inside) ∙ d in
        record {
          same = u.same ∙ sym (length-set rs i n);
          done = λ k l.
              ⊎_elim (λ b. get_or-set_other rs i k n 0 (omega arith) ∙ u.done k b)
              (λ b. let e : k ≡ i = omega arith in ap (λ v. get_or (set rs i n) v 0) e ∙ get_or-set_same rs i n 0 (omega (arith, u.same)) ∙ sym (tally_hit n (get_or xs i 0) h) ∙ ap (λ v. tally m n (get_or xs v 0)) (sym e))
              (cases_lt k i);
          ahead = λ k b l. get_or-set_other rs i k n 0 (omega arith) ∙ u.ahead k (omega arith) l;
          given_is = sym (list_any_more (has_count m.at n) xs i 0 inside ∙ or_right (any (has_count m.at n) (take i xs)) _ h);
        }

    pub under_passed : due m xs rs n i ≡ false → UnderWay xs rs n (i + 1) given
    under_passed d =
        let h : has_count m.at n (get_or xs i 0) ≡ false = sym (due_count xs rs n i given closed pos u inside) ∙ d in
        record {
          same = u.same;
          done = λ k l.
              ⊎_elim (λ b. u.done k b)
              (λ b. let e : k ≡ i = omega arith in ap (λ v. get_or rs v 0) e ∙ u.ahead i (omega arith) inside ∙ sym (tally_miss n (get_or xs i 0) h) ∙ ap (λ v. tally m n (get_or xs v 0)) (sym e))
              (cases_lt k i);
          ahead = λ k b l. u.ahead k (omega arith) l;
          given_is = u.given_is ∙ sym (list_any_more (has_count m.at n) xs i 0 inside ∙ ap (λ b. any (has_count m.at n) (take i xs) || b) h ∙ or-false _);
        }

  -- what is written after the last round is the count
  tally_count : (n x : ℕ) → (within m.at n x ≡ false → CountIs m x 0) → CountIs m x (tally m n x)
  tally_count zero x f = f refl
  tally_count (suc n) x f =
      ⊎_elim (λ e. subst (CountIs m x) (sym (cond-true (has_count m.at (suc n) x) (suc n) (tally m n x) e)) e)
      (λ e. subst (CountIs m x) (sym (cond-false (has_count m.at (suc n) x) (suc n) (tally m n x) e)) (tally_count n x (λ w. f (no_count n x e ∙ w))))
      (cases_Bool (has_count m.at (suc n) x))

  last_still : (xs : List ℕ) (j : ℕ) → false ≡ any (has_count m.at (suc j)) xs → Still m xs j
  last_still xs j e x h = not-true _ (every_listed (λ y. not (has_count m.at (suc j) y)) xs x (every_not (has_count m.at (suc j)) xs (sym e)) h)

  pub last_round : (xs rs : List ℕ) (n : ℕ) → 0 < n → Closed m xs → RoundDone m xs rs n false → CountsAre m xs rs
  last_round xs rs zero p closed d k l = absurd (omega arith)
  last_round xs rs (suc j) p closed d k l =
      let x = get_or xs k 0 in
      let here : listed x xs ≡ true = any_at (eqb x) xs k x (slice_get-get_or xs k 0 l) (eq-eqb x x refl) in
      subst (CountIs m x) (sym (d.after k l))
      (tally_count (suc j) x (λ w. still_none m xs j x closed (last_still xs j d.given_is) here (or_parts (within m.at j x) _ w).0))

  pub next_round : (xs rs : List ℕ) (n : ℕ) → Closed m xs → RoundDone m xs rs n true → RoundReady m xs rs (n + 1) × (n + 1 ≤ length xs + 1)
  next_round xs rs n closed d =
      let q : n + 1 - 1 ≡ n = omega arith in
      let x = any_listed (has_count m.at n) xs (sym d.given_is) in (
        record { closed = closed; same = d.same; some = omega arith; before = λ k l. d.after k l ∙ ap (λ v. tally m v (get_or xs k 0)) (sym q) },
        omega (arith, count_le m xs n x.0 closed x.1 x.2),
      )
