-- A name stands for values that mean the same, and for no others.
use Rattle.std.proofs.Common.{◌≡◌, ℕ, suc, ◌<◌, Bool, true, false, cond, not, ◌||◌, T, eqb, List, [], ◌∷◌, length, sym, refl, ◌∙◌, subst, inl, inr, arith, eqb→eq}
use lib.Dec.{eqb_refl}
use Rattle.std.proofs.Math.Facts.{yes_eqb}
use Rattle.lists.specs.Every.{any}
use Rattle.programs.specs.Places.{In}
use Rattle.twins.specs.Naming.{firsts, index, name}
use Rattle.twins.specs.Twins.{Equivalence}
use Rattle.twins.proofs.Lists.{in_kept}
use Rattle.twins.proofs.Logic.{of_any, to_any, same_test}

module _ {A : Type 0} (e : A → A → Bool) (eqv : Equivalence e) where
  -- values that mean the same have one index
  pub index_alike : (x y : A) → T (e x y) → (zs : List A) → index e x zs ≡ index e y zs
  index_alike x y t [] = refl
  index_alike x y t (z ∷ zs) =
      λ i. cond (same_test (e x z) (e y z) (λ s. eqv.through y x z (eqv.back x y t) s) (λ s. eqv.through x y z t s) i) 0 (suc (index_alike x y t zs i))

  -- values that are met, with one index, mean the same
  index_one : (x y : A) (zs : List A) → T (any (e x) zs) → T (any (e y) zs) → index e x zs ≡ index e y zs → T (e x y)
  index_one x y [] s t q = absurd s
  index_one x y (z ∷ zs) s t q = go (λ s t q. index_one x y zs s t q) (e x z) (e y z) refl refl s t q
    where
      go : (T (any (e x) zs) → T (any (e y) zs) → index e x zs ≡ index e y zs → T (e x y)) → (a b : Bool) → e x z ≡ a → e y z ≡ b → T (a || any (e x) zs) → T (b || any (e y) zs) →
          cond a 0 (suc (index e x zs)) ≡ cond b 0 (suc (index e y zs)) → T (e x y)
      go f true true p r s t q = eqv.through x z y (subst T (sym p) tt) (eqv.back y z (subst T (sym r) tt))
      go f true false p r s t q = absurd (omega (arith, q))
      go f false true p r s t q = absurd (omega (arith, q))
      go f false false p r s t q = f s t (omega (arith, q))

  pub index_below : (x : A) (zs : List A) → T (any (e x) zs) → index e x zs < length zs
  index_below x [] t = absurd t
  index_below x (z ∷ zs) t = go (λ t. index_below x zs t) (e x z) t
    where
      go : (T (any (e x) zs) → index e x zs < length zs) → (b : Bool) → T (b || any (e x) zs) → cond b 0 (suc (index e x zs)) < length (z ∷ zs)
      go f true t = omega arith
      go f false t = let h = f t in omega arith

  -- each value has one that means the same among the first occurrences
  pub in_firsts : (x : A) (xs : List A) → In x xs → T (any (e x) (firsts e xs))
  in_firsts x [] i = absurd i
  in_firsts x (y ∷ xs) (inl q) = to_any (e x) (firsts e (y ∷ xs)) y (inl refl) (subst (λ (z : A). T (e x z)) q (eqv.itself x))
  in_firsts x (y ∷ xs) (inr i) =
      let (z, j, t) = of_any (e x) (firsts e xs) (in_firsts x xs i) in
      go z j t (e y z) refl
    where
      go : (z : A) → In z (firsts e xs) → T (e x z) → (b : Bool) → e y z ≡ b → T (any (e x) (firsts e (y ∷ xs)))
      go z j t true q = to_any (e x) (firsts e (y ∷ xs)) y (inl refl) (eqv.through x z y t (eqv.back y z (subst T (sym q) tt)))
      go z j t false q = to_any (e x) (firsts e (y ∷ xs)) z (inr (in_kept (λ w. not (e y w)) z (firsts e xs) j (subst (λ b. T (not b)) (sym q) tt))) t

  -- the test agrees at the names
  pub name_test : (xs : List A) (x y : A) → In x xs → In y xs → e x y ≡ eqb (name e xs x) (name e xs y)
  name_test xs x y i j =
      same_test (e x y) (eqb (name e xs x) (name e xs y)) (λ t. yes_eqb (index_alike x y t (firsts e xs)))
      (λ t. index_one x y (firsts e xs) (in_firsts x xs i) (in_firsts y xs j) (eqb→eq _ _ t))

-- numbers mean themselves
pub numbers : Equivalence eqb
numbers =
    record {
      itself = eqb_refl;
      back = λ m n t. yes_eqb (sym (eqb→eq m n t));
      through = λ k m n s t. yes_eqb (eqb→eq k m s ∙ eqb→eq m n t);
    }

pub name_one : (ns : List ℕ) (n m : ℕ) → In n ns → In m ns → name eqb ns n ≡ name eqb ns m → n ≡ m
name_one ns n m i j q = eqb→eq n m (subst T (sym (name_test eqb numbers ns n m i j)) (yes_eqb q))
