-- The laws of normal naming.
use Rattle.std.proofs.Common.{◌≡◌, ℕ, suc, ◌≤◌, Bool, true, false, cond, not, ◌||◌, eqb, List, [], ◌∷◌, ◌++◌, map, length, filter, sym, refl, ap, ◌∙◌, inl, inr, arith}
use Rattle.std.proofs.lemmas.List.{map-append}
use Rattle.std.proofs.lemmas.List.Elements.{filter-append}
use Rattle.std.proofs.lemmas.List.Sums.{length-filter, count_by-le-length}
use Rattle.std.proofs.lemmas.Simd.{map-map}
use Rattle.lists.specs.Every.{any}
use Rattle.games.proofs.Asked.{filter_map}
use Rattle.programs.proofs.Members.{map_same_in}
use Rattle.programs.specs.Places.{In}
use Rattle.twins.proofs.Lists.{in_left, in_right, of_kept}
use Rattle.twins.proofs.Names.{index_below, in_firsts, name_test, numbers}
use Rattle.twins.specs.Naming.{firsts, index, name}
use Rattle.twins.specs.NamingLaws.{PatternNames, NormalAgain, NamesSmall}
use Rattle.twins.specs.Twins.{Equivalence}

pub kept_agree : {A : Type 0} (t u : A → Bool) (xs : List A) → ((x : A) → In x xs → t x ≡ u x) → filter t xs ≡ filter u xs
kept_agree t u [] h = refl
kept_agree t u (x ∷ xs) h = λ i. cond (h x (inl refl) i) (x ∷ kept_agree t u xs (λ y j. h y (inr j)) i) (kept_agree t u xs (λ y j. h y (inr j)) i)

pub firsts_map : {A B : Type 0} (f : A → B) (e : B → B → Bool) (xs : List A) → firsts e (map f xs) ≡ map f (firsts (λ x y. e (f x) (f y)) xs)
firsts_map f e [] = refl
firsts_map {A} {B} f e (x ∷ xs) =
    ap (λ (l : List B). f x ∷ l) (ap (filter (λ y. not (e (f x) y))) (firsts_map f e xs) ∙ filter_map (λ y. not (e (f x) y)) f (firsts (λ x y. e (f x) (f y)) xs))

pub of_firsts : {A : Type 0} (e : A → A → Bool) (x : A) (xs : List A) → In x (firsts e xs) → In x xs
of_firsts e x [] i = i
of_firsts e x (y ∷ xs) (inl q) = inl q
of_firsts e x (y ∷ xs) (inr i) = inr (of_firsts e x xs (of_kept (λ z. not (e y z)) x (firsts e xs) i).0)

pub firsts_agree : {A : Type 0} (d e : A → A → Bool) (xs : List A) → ((x y : A) → In x xs → In y xs → d x y ≡ e x y) → firsts d xs ≡ firsts e xs
firsts_agree d e [] h = refl
firsts_agree {A} d e (x ∷ xs) h =
    ap (λ (l : List A). x ∷ l)
    (kept_agree (λ y. not (d x y)) (λ y. not (e x y)) (firsts d xs) (λ y i. ap not (h x y (inl refl) (inr (of_firsts d y xs i))))
    ∙ ap (filter (λ y. not (e x y))) (firsts_agree d e xs (λ y z i j. h y z (inr i) (inr j))))

pub index_map : {A B : Type 0} (f : A → B) (e : B → B → Bool) (x : A) (xs : List A) → index e (f x) (map f xs) ≡ index (λ x y. e (f x) (f y)) x xs
index_map f e x [] = refl
index_map f e x (y ∷ xs) = ap (λ (n : ℕ). cond (e (f x) (f y)) 0 (suc n)) (index_map f e x xs)

pub index_agree : {A : Type 0} (d e : A → A → Bool) (x : A) (xs : List A) → ((y : A) → In y xs → d x y ≡ e x y) → index d x xs ≡ index e x xs
index_agree d e x [] h = refl
index_agree d e x (y ∷ xs) h = λ i. cond (h y (inl refl) i) 0 (suc (index_agree d e x xs (λ z j. h z (inr j)) i))

pub name_map : {A B : Type 0} (f : A → B) (e : B → B → Bool) (xs : List A) (x : A) → name e (map f xs) (f x) ≡ name (λ x y. e (f x) (f y)) xs x
name_map f e xs x = ap (index e (f x)) (firsts_map f e xs) ∙ index_map f e x (firsts (λ x y. e (f x) (f y)) xs)

pub name_agree : {A : Type 0} (d e : A → A → Bool) (xs : List A) (x : A) → In x xs → ((x y : A) → In x xs → In y xs → d x y ≡ e x y) → name d xs x ≡ name e xs x
name_agree d e xs x i h =
    index_agree d e x (firsts d xs) (λ y j. h x y i (of_firsts d y xs j)) ∙ ap (index e x) (firsts_agree d e xs h)

pub pattern_names : PatternNames
pattern_names A B ea eb zs h z i =
    name_map (λ (y : A × B). y.0) ea zs z ∙ name_agree (λ (y u : A × B). ea y.0 u.0) (λ (y u : A × B). eb y.1 u.1) zs z i h
    ∙ sym (name_map (λ (y : A × B). y.1) eb zs z)

-- naming the names gives the names
pub name_again : {A : Type 0} (e : A → A → Bool) → Equivalence e → (xs : List A) (x : A) → In x xs → name eqb (map (name e xs) xs) (name e xs x) ≡ name e xs x
name_again e eqv xs x i =
    name_map (name e xs) eqb xs x
    ∙ sym (name_agree e (λ x y. eqb (name e xs x) (name e xs y)) xs x i (λ x y a b. name_test e eqv xs x y a b))

pub names_again : {A : Type 0} (e : A → A → Bool) → Equivalence e → (xs : List A) →
    map (name eqb (map (name e xs) xs)) (map (name e xs) xs) ≡ map (name e xs) xs
names_again e eqv xs =
    map-map (name eqb (map (name e xs) xs)) (name e xs) xs ∙ map_same_in _ _ xs (λ x i. name_again e eqv xs x i)

pub normal_again : NormalAgain
normal_again A e eqv i j xs ys = λ k. record { left = i; right = j; lefts = part xs (λ x a. in_left x xs ys a) k; rights = part ys (λ y a. in_right y xs ys a) k }
  where
    f : A → ℕ
    f = name e (xs ++ ys)

    part : (zs : List A) → ((z : A) → In z zs → In z (xs ++ ys)) → map (name eqb (map f xs ++ map f ys)) (map f zs) ≡ map f zs
    part zs sub =
        ap (λ (l : List ℕ). map (name eqb l) (map f zs)) (sym (map-append f xs ys))
        ∙ map-map (name eqb (map f (xs ++ ys))) f zs
        ∙ map_same_in _ f zs (λ z a. name_again e eqv (xs ++ ys) z (sub z a))

pub length_firsts : {A : Type 0} (e : A → A → Bool) (xs : List A) → length (firsts e xs) ≤ length xs
length_firsts e [] = omega arith
length_firsts e (x ∷ xs) =
    omega (arith, length-filter (λ y. not (e x y)) (firsts e xs), count_by-le-length (λ y. not (e x y)) (firsts e xs), length_firsts e xs)

pub names_small : NamesSmall
names_small xs x i =
    let a = index_below eqb numbers x (firsts eqb xs) (in_firsts eqb numbers x xs i) in let b = length_firsts eqb xs in omega arith

-- one more value is a new one, or it was met
pub firsts_push : {A : Type 0} (e : A → A → Bool) (xs : List A) (y : A) →
    firsts e (xs ++ (y ∷ [])) ≡ firsts e xs ++ cond (any (λ x. e x y) xs) [] (y ∷ [])
firsts_push e [] y = refl
firsts_push {A} e (x ∷ xs) y =
    ap (λ (l : List A). x ∷ l)
    (ap (filter (λ z. not (e x z))) (firsts_push e xs y)
    ∙ filter-append (λ z. not (e x z)) (firsts e xs) (cond (any (λ z. e z y) xs) [] (y ∷ []))
    ∙ ap (λ (l : List A). filter (λ z. not (e x z)) (firsts e xs) ++ l) (go (any (λ z. e z y) xs) (e x y) refl))
  where
    go : (b c : Bool) → e x y ≡ c → filter (λ z. not (e x z)) (cond b [] (y ∷ [])) ≡ cond (c || b) [] (y ∷ [])
    go true true q = refl
    go true false q = refl
    go false true q = rw q refl
    go false false q = rw q refl
