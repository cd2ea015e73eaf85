-- The first place in one list and then another.
use Rattle.std.proofs.Common.{◌≡◌, ℕ, suc, Bool, true, false, cond, List, [], ◌∷◌, ◌++◌, length, Some, None, Option, refl, ap, ◌∙◌, arith}
use Rattle.std.specs.Option.{option_map, option_or}
use Rattle.values.specs.Places.{first_place}
use Rattle.values.proofs.Searched.{beyond, beyond_zero}

one_further : (n : ℕ) (a o : Option ℕ) → option_map suc (option_or a (beyond n o)) ≡ option_or (option_map suc a) (beyond (suc n) o)
one_further n (Some j) o = refl
one_further n None None = refl
one_further n None (Some k) = ap Some (omega arith)

pub joined : {A : Type 0} (p : A → Bool) (xs ys : List A) → first_place p (xs ++ ys) ≡ option_or (first_place p xs) (beyond (length xs) (first_place p ys))
joined p [] ys = beyond_zero (first_place p ys)
joined p (x ∷ xs) ys = go (p x) (ap (option_map suc) (joined p xs ys) ∙ one_further (length xs) (first_place p xs) (first_place p ys))
  where
    go : (b : Bool) → option_map suc (first_place p (xs ++ ys)) ≡ option_or (option_map suc (first_place p xs)) (beyond (length (x ∷ xs)) (first_place p ys)) →
        cond b (Some 0) (option_map suc (first_place p (xs ++ ys))) ≡ option_or (cond b (Some 0) (option_map suc (first_place p xs))) (beyond (length (x ∷ xs)) (first_place p ys))
    go true h = refl
    go false h = h
