-- Membership in lists that are mapped or filtered.
use Rattle.std.proofs.Common.{◌≡◌, Bool, true, false, cond, List, [], ◌∷◌, map, filter, sym, refl, ap, ◌∙◌, subst, inl, inr}
use Rattle.std.proofs.lemmas.Bool.{and_parts, cond-true}
use Rattle.lists.specs.Every.{every}
use Rattle.programs.specs.Places.{In}

pub map_same_in : {A B : Type 0} (f g : A → B) (xs : List A) → ((x : A) → In x xs → f x ≡ g x) → map f xs ≡ map g xs
map_same_in f g [] h = refl
map_same_in f g (x ∷ xs) h = λ i. h x (inl refl) i ∷ map_same_in f g xs (λ y j. h y (inr j)) i

pub every_in : {A : Type 0} (t : A → Bool) (x : A) (xs : List A) → every t xs ≡ true → In x xs → t x ≡ true
every_in t x [] h i = absurd i
every_in t x (y ∷ ys) h (inl e) = ap t e ∙ (and_parts (t y) (every t ys) h).0
every_in t x (y ∷ ys) h (inr i) = every_in t x ys (and_parts (t y) (every t ys) h).1 i

-- what is kept passed the test
pub of_kept : {A : Type 0} (t : A → Bool) (x : A) (xs : List A) → In x (filter t xs) → In x xs × (t x ≡ true)
of_kept t x [] i = absurd i
of_kept t x (z ∷ xs) i = go (of_kept t x xs) (t z) refl i
  where
    go : (In x (filter t xs) → In x xs × (t x ≡ true)) → (b : Bool) → t z ≡ b → In x (cond b (z ∷ filter t xs) (filter t xs)) → In x (z ∷ xs) × (t x ≡ true)
    go f true e (inl p) = (inl p, ap t p ∙ e)
    go f true e (inr j) = let r = f j in (inr r.0, r.1)
    go f false e j = let r = f j in (inr r.0, r.1)

pub in_kept : {A : Type 0} (t : A → Bool) (x : A) (xs : List A) → In x xs → t x ≡ true → In x (filter t xs)
in_kept t x [] i h = absurd i
in_kept t x (z ∷ xs) (inl e) h = subst (In x) (sym (cond-true (t z) (z ∷ filter t xs) (filter t xs) (ap t (sym e) ∙ h))) (inl e)
in_kept t x (z ∷ xs) (inr i) h = go (in_kept t x xs i h) (t z)
  where
    go : In x (filter t xs) → (b : Bool) → In x (cond b (z ∷ filter t xs) (filter t xs))
    go j true = inr j
    go j false = j
