-- Membership, and the naturality of what pages do to lists of values.
use Rattle.std.proofs.Common.{◌≡◌, ℕ, zero, suc, ◌<◌, Bool, T, ◌⊎◌, List, [], ◌∷◌, ◌++◌, map, length, get_or, filter, sym, refl, ap, ◌∙◌, subst, inl, inr, ⊎_elim, arith}
use lib.ListN.{get_or-map}
use Rattle.std.specs.Bool.{passes}
use Rattle.std.proofs.lemmas.Bool.{cases_lt}
use Rattle.std.proofs.lemmas.List.{get_or_default, get_or_past}
use Rattle.std.proofs.lemmas.Simd.{map-map}
use Rattle.programs.proofs.Members as members
use Rattle.programs.proofs.Members.{map_same_in}
use Rattle.twins.proofs.Logic.{yes}
use Rattle.pages.specs.Model.{LineModel}
use Rattle.pages.specs.declared.Source.{Source}
use Rattle.pages.specs.declared.Source.TheVariants.{Kept, Taken}
use Rattle.pages.specs.declared.LineKind.{LineKind}
use Rattle.pages.specs.declared.LineKind.TheVariants.{Take, Show}
use Rattle.programs.specs.Places.{moved_by, In, value_of, carry, moved}
use Rattle.twins.specs.Pairs.{above}

pub in_left : {A : Type 0} (x : A) (xs ys : List A) → In x xs → In x (xs ++ ys)
in_left x [] ys i = absurd i
in_left x (z ∷ xs) ys (inl e) = inl e
in_left x (z ∷ xs) ys (inr i) = inr (in_left x xs ys i)

pub in_right : {A : Type 0} (x : A) (xs ys : List A) → In x ys → In x (xs ++ ys)
in_right x [] ys i = i
in_right x (z ∷ xs) ys i = inr (in_right x xs ys i)

pub in_either : {A : Type 0} (x : A) (xs ys : List A) → In x (xs ++ ys) → In x xs ⊎ In x ys
in_either x [] ys i = inr i
in_either x (z ∷ xs) ys (inl e) = inl (inl e)
in_either x (z ∷ xs) ys (inr i) = ⊎_elim (λ j. inl (inr j)) (λ j. inr j) (in_either x xs ys i)

pub in_map : {A B : Type 0} (f : A → B) (x : A) (xs : List A) → In x xs → In (f x) (map f xs)
in_map f x [] i = i
in_map f x (z ∷ xs) (inl e) = inl (ap f e)
in_map f x (z ∷ xs) (inr i) = inr (in_map f x xs i)

pub of_map : {A B : Type 0} (f : A → B) (y : B) (xs : List A) → In y (map f xs) → (x : A) × In x xs × (y ≡ f x)
of_map f y [] i = absurd i
of_map f y (z ∷ xs) (inl e) = (z, inl refl, e)
of_map f y (z ∷ xs) (inr i) = let r = of_map f y xs i in (r.0, inr r.1, r.2)

-- what is kept passed the test
pub of_kept : {A : Type 0} (t : A → Bool) (x : A) (xs : List A) → In x (filter t xs) → In x xs × T (t x)
of_kept t x xs i = let (j, e) = members.of_kept t x xs i in (j, passes (t x) e)

pub in_kept : {A : Type 0} (t : A → Bool) (x : A) (xs : List A) → In x xs → T (t x) → In x (filter t xs)
in_kept t x xs i h = members.in_kept t x xs i (yes (t x) h)

pub in_range : {A : Type 0} (xs : List A) (k : ℕ) (x : A) → k < length xs → In (get_or xs k x) xs
in_range [] k x h = absurd (omega arith)
in_range (y ∷ xs) zero x h = inl refl
in_range (y ∷ xs) (suc k) x h = inr (in_range xs k x (omega arith))

-- a look-up gives the default or an element
pub in_get_or : {A : Type 0} (xs : List A) (k : ℕ) (x : A) → In (get_or xs k x) (x ∷ xs)
in_get_or xs k x = ⊎_elim (λ h. inr (in_range xs k x h)) (λ h. inl (get_or_past xs k x h)) (cases_lt k (length xs))

pub get_or_again : {A : Type 0} (xs : List A) (k : ℕ) (x : A) → get_or xs k (get_or xs k x) ≡ get_or xs k x
get_or_again xs k x = ⊎_elim (get_or_default xs k (get_or xs k x) x) (get_or_past xs k (get_or xs k x)) (cases_lt k (length xs))

pub value_map : {A B : Type 0} (f : A → B) (xs : List A) (x : A) (s : Source) → value_of (map f xs) (f x) s ≡ f (value_of xs x s)
value_map f xs x (Kept s) = get_or-map f xs s.0 x
value_map f xs x Taken = refl

pub carry_map : {A B : Type 0} (f : A → B) (xs : List A) (x : A) (ss : List Source) → carry (map f xs) (f x) ss ≡ map f (carry xs x ss)
carry_map f xs x ss = map_same_in _ _ ss (λ s i. value_map f xs x s) ∙ sym (map-map f _ ss)

pub in_value : {A : Type 0} (xs : List A) (x : A) (s : Source) → In (value_of xs x s) (x ∷ xs)
in_value xs x (Kept s) = in_get_or xs s.0 x
in_value xs x Taken = inl refl

pub in_carry : {A : Type 0} (xs : List A) (x y : A) (ss : List Source) → In y (carry xs x ss) → In y (x ∷ xs)
in_carry xs x y ss i =
    let r = of_map (value_of xs x) y ss i in subst (λ z. In z (x ∷ xs)) (sym r.2) (in_value xs x r.0)

pub moved_map : {A B : Type 0} (l : LineModel) (f : A → B) (xs : List A) (x : A) → moved l (map f xs) (f x) ≡ f (moved l xs x)
moved_map l f xs x = go l.kind
  where
    go : (k : LineKind) → moved_by k (map f xs) (f x) ≡ f (moved_by k xs x)
    go Take = refl
    go (Show s) = get_or-map f xs s.0 x

pub in_moved : {A : Type 0} (l : LineModel) (xs : List A) (x : A) → In (moved l xs x) (x ∷ xs)
in_moved l xs x = go l.kind
  where
    go : (k : LineKind) → In (moved_by k xs x) (x ∷ xs)
    go Take = inl refl
    go (Show s) = in_get_or xs s.0 x

pub moved_again : {A : Type 0} (l : LineModel) (xs : List A) (x : A) → moved l xs (moved l xs x) ≡ moved l xs x
moved_again l xs x = go l.kind
  where
    go : (k : LineKind) → moved_by k xs (moved_by k xs x) ≡ moved_by k xs x
    go Take = refl
    go (Show s) = get_or_again xs s.0 x

pub below_above : (n : ℕ) (ns : List ℕ) → In n ns → n < above ns
below_above n [] i = absurd i
below_above n (m ∷ ns) (inl e) = omega (arith, e)
below_above n (m ∷ ns) (inr i) = let h = below_above n ns i in omega arith
