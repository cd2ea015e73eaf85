-- Tests as facts.
use Rattle.std.proofs.Common.{◌≡◌, Bool, true, false, not, ◌&&◌, ◌||◌, T, ◌⊎◌, List, [], ◌∷◌, sym, refl, subst, inl, inr}
use Rattle.std.specs.Bool.{passes, one_answer}
use Rattle.lists.specs.Every.{every, any}
use Rattle.programs.specs.Places.{In}

pub and_both : (a b : Bool) → T (a && b) → T a × T b
and_both true b t = (tt, t)
and_both false b t = absurd t

pub and_make : (a b : Bool) → T a → T b → T (a && b)
and_make true b s t = t
and_make false b s t = absurd s

pub of_all : {A : Type 0} (t : A → Bool) (xs : List A) → T (every t xs) → (x : A) → In x xs → T (t x)
of_all t [] h x i = absurd i
of_all t (y ∷ xs) h x (inl e) = subst (λ z. T (t z)) (sym e) (and_both (t y) (every t xs) h).0
of_all t (y ∷ xs) h x (inr i) = of_all t xs (and_both (t y) (every t xs) h).1 x i

pub to_all : {A : Type 0} (t : A → Bool) (xs : List A) → ((x : A) → In x xs → T (t x)) → T (every t xs)
to_all t [] h = tt
to_all t (x ∷ xs) h = and_make (t x) (every t xs) (h x (inl refl)) (to_all t xs (λ y i. h y (inr i)))

pub or_left : (a b : Bool) → T a → T (a || b)
or_left true b t = tt
or_left false b t = absurd t

pub or_right : (a b : Bool) → T b → T (a || b)
or_right true b t = tt
or_right false b t = t

pub or_either : (a b : Bool) → T (a || b) → T a ⊎ T b
or_either true b t = inl tt
or_either false b t = inr t

pub of_any : {A : Type 0} (t : A → Bool) (xs : List A) → T (any t xs) → (x : A) × In x xs × T (t x)
of_any t [] h = absurd h
of_any t (x ∷ xs) h = go (of_any t xs) (or_either (t x) (any t xs) h)
  where
    go : (T (any t xs) → (y : _) × In y xs × T (t y)) → T (t x) ⊎ T (any t xs) → (y : _) × In y (x ∷ xs) × T (t y)
    go f (inl s) = (x, inl refl, s)
    go f (inr s) = let (y, i, r) = f s in (y, inr i, r)

pub to_any : {A : Type 0} (t : A → Bool) (xs : List A) (x : A) → In x xs → T (t x) → T (any t xs)
to_any t [] x i s = absurd i
to_any t (y ∷ xs) x (inl e) s = or_left (t y) (any t xs) (subst (λ z. T (t z)) e s)
to_any t (y ∷ xs) x (inr i) s = or_right (t y) (any t xs) (to_any t xs x i s)

-- implication as a test
pub implies : (a b : Bool) → T (not a || b) → T a → T b
implies true b h t = h
implies false b h t = absurd t

pub implied : (a b : Bool) → (T a → T b) → T (not a || b)
implied true b h = h tt
implied false b h = tt

pub yes : (b : Bool) → T b → b ≡ true
yes true t = refl
yes false t = absurd t

-- two tests that follow from one another
pub same_test : (a b : Bool) → (T a → T b) → (T b → T a) → a ≡ b
same_test a b f g = one_answer a b ((λ e. f (passes a e)), (λ t. yes a (g t))) (passes b, yes b)
