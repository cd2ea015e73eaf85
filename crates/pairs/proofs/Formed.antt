-- A pair formed from the names of its values.
use Rattle.std.proofs.Common.{◌≡◌, ℕ, ◌<◌, ◌≤◌, Bool, true, List, ◌++◌, map, length, take, drop, Some, sym, ap, ◌∙◌, subst, arith, take_at, drop_at}
use Rattle.std.proofs.lemmas.List.{length-map, map-append}
use Rattle.std.proofs.lemmas.Bool.{cond-true}
use Rattle.std.proofs.lemmas.Bool.Decides.{nat_tests}
use Rattle.std.proofs.lemmas.Option.{cond_some}
use Rattle.pages.specs.declared.Name.{Name}
use Rattle.naming.specs.Names.{number, names, named}
use Rattle.twins.specs.Naming.{name}
use Rattle.twins.specs.Pairs.{Pair, normal}
use Rattle.twins.specs.Twins.{Equivalence}
use Rattle.twins.proofs.Naming.{names_again}
use Rattle.pairs.specs.Order.{InOrder, pair_fits, pair_of_values}

module _ {A : Type 0} (same : A → A → Bool) (xs ys : List A) (ls rs : List ℕ) (e : ls ++ rs ≡ names same (xs ++ ys)) (l : length ls ≡ length xs) where
  abbrev f : A → ℕ
  f = name same (xs ++ ys)

  parts : ls ++ rs ≡ map f xs ++ map f ys
  parts = e ∙ map-append f xs ys

  front : ls ≡ map f xs
  front = sym (take_at ls rs _ l) ∙ ap (take (length xs)) parts ∙ take_at (map f xs) (map f ys) _ (length-map xs f)

  back : rs ≡ map f ys
  back = sym (drop_at ls rs _ l) ∙ ap (drop (length xs)) parts ∙ drop_at (map f xs) (map f ys) _ (length-map xs f)

  -- its sides are those of the normal pair
  pub model : (i j : ℕ) → ◌≡◌ {A = Pair} (record { left = i; right = j; lefts = ls; rights = rs }) (normal same i j xs ys)
  model i j = λ k. record { left = i; right = j; lefts = front k; rights = back k }

module _ {A : Type 0} (same : A → A → Bool) (xs ys : List A) where
  -- where the slots were named, there are at most four a side
  few_named : (ns : List ℕ) → Some ns ≡ named same xs ys → (length xs ≤ 4) × (length ys ≤ 4) × (ns ≡ names same (xs ++ ys))
  few_named ns e = (grind (arith, nat_tests), grind (arith, nat_tests), grind (arith, nat_tests))

  fits : (i j : ℕ) → i < 32 → j < 32 → length xs ≤ 4 → length ys ≤ 4 → pair_fits i j (length xs) (length ys) ≡ true
  fits i j a b c d = grind (arith, nat_tests)

  -- the names of all, split where the left slots end
  module _ (all ls rs : List Name) (e : ls ++ rs ≡ all) (o : Some (map number all) ≡ named same xs ys) where
    parts_named : map number ls ++ map number rs ≡ names same (xs ++ ys)
    parts_named = sym (map-append number ls rs) ∙ ap (map number) e ∙ (few_named (map number all) o).2

    pub formed : length ls ≡ length xs → (i j : ℕ) → i < 32 → j < 32 →
        Some (record { left = i; right = j; lefts = map number ls; rights = map number rs }) ≡ pair_of_values same i j xs ys
    formed l i j hi hj =
        let few = few_named (map number all) o in
        ap Some (model same xs ys (map number ls) (map number rs) parts_named (length-map ls number ∙ l) i j) ∙ sym (cond-true _ _ _ (fits i j hi hj few.0 few.1))

    pub ordered : Equivalence same → InOrder (map number ls ++ map number rs)
    ordered eqv = subst InOrder (sym parts_named) (names_again same eqv (xs ++ ys))

  pub of_values : (i j : ℕ) (m : Pair) → Some m ≡ pair_of_values same i j xs ys → m ≡ normal same i j xs ys
  of_values i j m e = sym (cond_some _ _ _ (sym e)).1
