-- Naming one value more, over any equivalence.
use Rattle.std.proofs.Common.{◌≡◌, ℕ, suc, ◌+◌, ◌<◌, Bool, true, false, cond, ◌||◌, T, List, [], ◌∷◌, ◌++◌, map, length, get_or, Some, None, Option, sym, refl, ap, ◌∙◌, subst, append-nil, arith, length-append, MatchOption}
use Rattle.std.proofs.lemmas.List.{get_or-map, map-append, length-map}
use Rattle.std.proofs.lemmas.Bool.{cond-true}
use Rattle.lists.specs.Every.{any}
use Rattle.programs.specs.Places.{In}
use Rattle.programs.proofs.Members.{map_same_in}
use Rattle.twins.specs.Naming.{firsts, index, name}
use Rattle.twins.specs.Twins.{Equivalence}
use Rattle.twins.proofs.Counts.{any_same}
use Rattle.twins.proofs.Logic.{of_any, to_any, yes, same_test}
use Rattle.twins.proofs.Lists.{in_range}
use Rattle.twins.proofs.Names.{index_alike, in_firsts}
use Rattle.twins.proofs.Naming.{firsts_push, of_firsts, length_firsts}
use Rattle.values.specs.Places.{first_place}
use Rattle.values.proofs.Searched.{place_good, place_none}
use Rattle.naming.specs.Names.{names, next_name, next_after}

-- the values xs have these names, and this is the next
pub record Named {A : Type 0} (e : A → A → Bool) (xs : List A) (ns : List ℕ) (next : ℕ) : Type 0 where
  pub given : ns ≡ names e xs
  pub count : next ≡ length (firsts e xs)

module _ {A : Type 0} (e : A → A → Bool) (eqv : Equivalence e) where
  index_met : (x : A) (ms ns : List A) → T (any (λ y. e x y) ms) → index e x (ms ++ ns) ≡ index e x ms
  index_met x [] ns h = absurd h
  index_met x (m ∷ ms) ns h = go (e x m) h (index_met x ms ns)
    where
      go : (b : Bool) → T (b || any (λ y. e x y) ms) → (T (any (λ y. e x y) ms) → index e x (ms ++ ns) ≡ index e x ms) →
          cond b 0 (suc (index e x (ms ++ ns))) ≡ cond b 0 (suc (index e x ms))
      go true k f = refl
      go false k f = ap suc (f k)

  index_new : (x : A) (ms : List A) → (T (any (λ y. e x y) ms) → ⊥) → index e x (ms ++ (x ∷ [])) ≡ length ms
  index_new x [] h = cond-true (e x x) 0 1 (yes (e x x) (eqv.itself x))
  index_new x (m ∷ ms) h = go (e x m) h (index_new x ms)
    where
      go : (b : Bool) → (T (b || any (λ y. e x y) ms) → ⊥) → ((T (any (λ y. e x y) ms) → ⊥) → index e x (ms ++ (x ∷ [])) ≡ length ms) →
          cond b 0 (suc (index e x (ms ++ (x ∷ [])))) ≡ suc (length ms)
      go true k f = absurd (k tt)
      go false k f = ap suc (f k)

  any_back : (x : A) (xs : List A) → any (λ z. e z x) xs ≡ any (e x) xs
  any_back x xs = any_same (λ z. e z x) (e x) xs (λ z i. same_test (e z x) (e x z) (eqv.back z x) (eqv.back x z))

  name_kept : (xs : List A) (m x : A) → In x xs → name e (xs ++ (m ∷ [])) x ≡ name e xs x
  name_kept xs m x i = ap (index e x) (firsts_push e xs m) ∙ index_met x (firsts e xs) (cond (any (λ y. e y m) xs) [] (m ∷ [])) (in_firsts e eqv x xs i)

  name_next : (xs : List A) (x : A) → any (λ y. e y x) xs ≡ false → name e (xs ++ (x ∷ [])) x ≡ length (firsts e xs)
  name_next xs x h =
      ap (index e x) (firsts_push e xs x ∙ ap (λ (b : Bool). firsts e xs ++ cond b [] (x ∷ [])) h)
      ∙ index_new x (firsts e xs) (λ t. let (z, j, s) = of_any (λ y. e x y) (firsts e xs) t in
      subst T h (to_any (λ y. e y x) xs z (of_firsts e z xs j) (eqv.back x z s)))

  names_push : (xs : List A) (x : A) → map (name e (xs ++ (x ∷ []))) (xs ++ (x ∷ [])) ≡ map (name e xs) xs ++ (name e (xs ++ (x ∷ [])) x ∷ [])
  names_push xs x =
      map-append (name e (xs ++ (x ∷ []))) xs (x ∷ [])
      ∙ ap (λ (l : List ℕ). l ++ (name e (xs ++ (x ∷ [])) x ∷ [])) (map_same_in _ _ xs (λ n i. name_kept xs x n i))

  next_same : (xs : List A) (x : A) → any (λ z. e z x) xs ≡ true → length (firsts e (xs ++ (x ∷ []))) ≡ length (firsts e xs)
  next_same xs x h = ap length (firsts_push e xs x ∙ ap (λ (b : Bool). firsts e xs ++ cond b [] (x ∷ [])) h ∙ append-nil (firsts e xs))

  next_more : (xs : List A) (x : A) → any (λ z. e z x) xs ≡ false → length (firsts e (xs ++ (x ∷ []))) ≡ length (firsts e xs) + 1
  next_more xs x h = ap length (firsts_push e xs x ∙ ap (λ (b : Bool). firsts e xs ++ cond b [] (x ∷ [])) h) ∙ length-append (firsts e xs) (x ∷ [])

  met_name : (xs : List A) (ns : List ℕ) (x : A) (next : ℕ) (o : Option ℕ) → Named e xs ns next → o ≡ first_place (e x) xs →
      (next_name ns next o ≡ name e (xs ++ (x ∷ [])) x) × (next_after next o ≡ length (firsts e (xs ++ (x ∷ []))))
  met_name xs ns x next None n q =
      let h = any_back x xs ∙ place_none (e x) xs q in
      (n.count ∙ sym (name_next xs x h), ap suc n.count ∙ omega arith ∙ sym (next_more xs x h))
  met_name xs ns x next (Some j) n q =
      let (k, s) = place_good (e x) xs j x q in
      let there = in_range xs j x k in
      let t : T (e x (get_or xs j x)) = subst T (sym s) tt in (
        ap (λ (l : List ℕ). get_or l j 0) n.given ∙ get_or-map (name e xs) xs j x 0 k ∙ sym (name_kept xs x (get_or xs j x) there)
            ∙ sym (index_alike e eqv x (get_or xs j x) t (firsts e (xs ++ (x ∷ [])))),
        n.count ∙ sym (next_same xs x (yes _ (to_any (λ z. e z x) xs (get_or xs j x) there (eqv.back x (get_or xs j x) t)))),
      )

  -- one value more
  pub named_more : (xs : List A) (ns new : List ℕ) (next after : ℕ) (x : A) (o : Option ℕ) → Named e xs ns next → o ≡ first_place (e x) xs →
      new ≡ ns ++ (next_name ns next o ∷ []) → after ≡ next_after next o → Named e (xs ++ (x ∷ [])) new after
  named_more xs ns new next after x o n q p r =
      let m = met_name xs ns x next o n q in
      record { given = p ∙ (λ i. n.given i ++ (m.0 i ∷ [])) ∙ sym (names_push xs x); count = r ∙ m.1 }

-- the names can take one more
pub ready : {A N : Type 0} (e : A → A → Bool) (num : N → ℕ) (out : List N) (xs : List A) (x : A) (next : ℕ) (o : Option ℕ) → Named e xs (map num out) next → length xs < 8 →
    o ≡ first_place (e x) xs → (length out < 8) × MatchOption o (next < 255) (λ j. j < length out)
ready e num out xs x next o n h q =
    (omega (arith, simp length-map at (ap length n.given), h), go o q)
  where
    go : (o : Option ℕ) → o ≡ first_place (e x) xs → MatchOption o (next < 255) (λ j. j < length out)
    go None q = omega (arith, length_firsts e xs, n.count, h)
    go (Some j) q = omega (arith, simp length-map at (ap length n.given), (place_good (e x) xs j x q).0)
