-- Counts, and what a challenger can do.
use Rattle.std.proofs.Common.{◌≡◌, ℕ, zero, suc, ◌+◌, ◌<◌, Bool, true, false, not, ◌&&◌, ◌||◌, T, List, [], ◌∷◌, map, sym, refl, ap, ◌∙◌, subst, inl, inr, ⊎_elim, arith, T_not}
use lib.Dec.{not_T}
use Rattle.games.proofs.Asked.{any_map}
use Rattle.games.specs.Counts.{forces, within, has_count}
use Rattle.games.specs.Meaning.{Challenge, Challenges}
use Rattle.std.proofs.lemmas.List.Folds.{list_all-map}
use Rattle.lists.specs.Every.{every, any}
use Rattle.programs.specs.Places.{In}
use Rattle.twins.proofs.Games.{wins_more, wins_or_survives}
use Rattle.twins.proofs.Logic.{and_both, of_all, of_any, to_any, or_either, or_right}
use Rattle.twins.specs.Codes.{recoded}
use Rattle.twins.specs.Games.{Game, Held, Wins, Survives, Way, Sure, Exactly}
use Rattle.twins.specs.Positions.{game_of}

-- a test that not every pass fails at one
pub not_all : {A : Type 0} (t : A → Bool) (xs : List A) → T (not (every t xs)) → (x : A) × In x xs × T (not (t x))
not_all t [] h = absurd h
not_all t (x ∷ xs) h = go (not_all t xs) (t x) refl h
  where
    go : (T (not (every t xs)) → (y : _) × In y xs × T (not (t y))) → (b : Bool) → t x ≡ b → T (not (b && every t xs)) → (y : _) × In y (x ∷ xs) × T (not (t y))
    go f true e k = let (y, i, r) = f k in (y, inr i, r)
    go f false e k = (x, inl refl, subst (λ b. T (not b)) (sym e) tt)

-- one that not any passes fails at each
pub not_any : {A : Type 0} (t : A → Bool) (xs : List A) → T (not (any t xs)) → (x : A) → In x xs → T (not (t x))
not_any t xs h x i = not_T (t x) (λ s. T_not (any t xs) h (to_any t xs x i s))

pub nor : (a b : Bool) → T (not (a || b)) → T (not a) × T (not b)
nor true b h = absurd h
nor false b h = (tt, h)

pub wins_way : {X : Type 0} (G : Game X) (n : ℕ) (x : X) → Wins G n x → (w : Way G n x) × Sure G n x w
wins_way G zero x w = absurd w
wins_way G (suc n) x w = (inr (w.0, λ y r. (wins_way G n y (w.1 y r)).0), λ y r. (wins_way G n y (w.1 y r)).1)

pub way_wins : {X : Type 0} (G : Game X) (n : ℕ) (x : X) (w : Way G n x) → Sure G n x w → Wins G n x
way_wins G zero x w s = s
way_wins G (suc n) x (inl w) s = absurd s
way_wins G (suc n) x (inr w) s = (w.0, λ y r. way_wins G n y (w.1 y r) (s y r))

pub wins_up : {X : Type 0} (G : Game X) (n k : ℕ) (x : X) → Wins G n x → Wins G (n + k) x
wins_up G n zero x w = let e : n + 0 ≡ n = omega arith in rw e w
wins_up G n (suc k) x w = let e : n + suc k ≡ suc (n + k) = omega arith in rw e (wins_more G (n + k) x (wins_up G n k x w))

pub survives_down : {X : Type 0} (G : Game X) (n : ℕ) (x : X) → Survives G (suc n) x → Survives G n x
survives_down G zero x s = tt
survives_down G (suc n) x s = λ c. let (y, r, t) = s c in (y, r, survives_down G n y t)

pub survives_to : {X : Type 0} (G : Game X) (m k : ℕ) (x : X) → Survives G (m + k) x → Survives G m x
survives_to G m zero x s = let e : m + 0 ≡ m = omega arith in rw e at s
survives_to G m (suc k) x s =
    let e : m + suc k ≡ suc (m + k) = omega arith in survives_to G m k x (survives_down G (m + k) x (rw e at s))

pub below : (m n : ℕ) → m < suc n → (k : ℕ) × (n ≡ m + k)
below m n h = (Prim.Native.Nat.◌-◌ n m, omega arith)

-- what is won within n + 1 and survives n is won within exactly n + 1
pub exactly : {X : Type 0} (G : Game X) (n : ℕ) (x : X) → Wins G (suc n) x → Survives G n x → Exactly G (suc n) x
exactly G n x w s =
    record {
      way = (wins_way G (suc n) x w).0;
      sure = (wins_way G (suc n) x w).1;
      least = λ m h v t.
          let (k, e) = below m n h in
          wins_or_survives G m x (way_wins G m x v t) (survives_to G m k x (rw e at s));
    }

module _ {X : Type 0} (M : Challenges X) where
  pub counted_wins : (n : ℕ) (x : X) → T (within M n x) → Wins (game_of M) n x
  counted_wins zero x h = absurd h
  counted_wins (suc n) x h = ⊎_elim (λ a. wins_more (game_of M) n x (counted_wins n x a)) (λ b. go (counted_wins n) b) (or_either (within M n x) (forces M (within M n) x) h)
    where
      go : ((y : X) → T (within M n y) → Wins (game_of M) n y) → T (forces M (within M n) x) → Wins (game_of M) (suc n) x
      go f b =
          let (c, i, a) = of_any (λ (c : Challenge X). every (within M n) c.replies) (M x) b in
          ((c, i), λ y j. f y (of_all (within M n) c.replies a y j))

  pub uncounted_survives : (n : ℕ) (x : X) → T (not (within M n x)) → Survives (game_of M) n x
  uncounted_survives zero x h = tt
  uncounted_survives (suc n) x h =
      λ c. let (y, i, r) =
      not_all (within M n) c.0.replies
      (not_any (λ (d : Challenge X). every (within M n) d.replies) (M x) (nor (within M n x) (forces M (within M n) x) h).1 c.0 c.1) in
      (y, i, uncounted_survives n y r)

  pub count_exactly : (n : ℕ) (x : X) → T (has_count M (suc n) x) → Wins (game_of M) (suc n) x × Survives (game_of M) n x
  count_exactly n x h =
      let (a, b) = and_both (not (within M n x)) (forces M (within M n) x) h in
      (counted_wins (suc n) x (or_right (within M n x) (forces M (within M n) x) b), uncounted_survives n x a)

  -- where a list of positions has every replies, and the round after n counts no more of them, those without a count are held
  pub settled : (L : List X) → ((x : X) → In x L → (c : Challenge X) → In c (M x) → (y : X) → In y c.replies → In y L) →
      (n : ℕ) → ((x : X) → In x L → T (within M (suc n) x) → T (within M n x)) →
      Held (game_of M) (λ x. In x L × T (not (within M n x)))
  settled L closed n still x s c =
      let h : T (not (within M (suc n) x)) =
      not_T (within M (suc n) x) (λ t. T_not (within M n x) s.1 (still x s.0 t)) in
      let (y, i, r) =
      not_all (within M n) c.0.replies
      (not_any (λ (d : Challenge X). every (within M n) d.replies) (M x) (nor (within M n x) (forces M (within M n) x) h).1 c.0 c.1) in
      (y, i, (closed x s.0 c.0 c.1 y i, r))

pub any_same : {A : Type 0} (t u : A → Bool) (xs : List A) → ((x : A) → In x xs → t x ≡ u x) → any t xs ≡ any u xs
any_same t u [] h = refl
any_same t u (x ∷ xs) h = λ i. h x (inl refl) i || any_same t u xs (λ y j. h y (inr j)) i

pub all_same : {A : Type 0} (t u : A → Bool) (xs : List A) → ((x : A) → In x xs → t x ≡ u x) → every t xs ≡ every u xs
all_same t u [] h = refl
all_same t u (x ∷ xs) h = λ i. h x (inl refl) i && all_same t u xs (λ y j. h y (inr j)) i

-- positions under other names, as codes for pairs, have the same counts, where both matches agree on every that is reached
module _ {X Y : Type 0} (M : Challenges X) (N : Challenges Y) (f : X → Y) (P : X → Type 0)
    (same : (x : X) → P x → N (f x) ≡ map (recoded f) (M x))
    (closed : (x : X) → P x → (c : Challenge X) → In c (M x) → (y : X) → In y c.replies → P y) where
  forced_recoded : (t : Y → Bool) (u : X → Bool) → ((x : X) → P x → t (f x) ≡ u x) → (x : X) → P x → forces N t (f x) ≡ forces M u x
  forced_recoded t u h x p =
      ap (any (λ (c : Challenge Y). every t c.replies)) (same x p)
      ∙ any_map (λ (c : Challenge Y). every t c.replies) (recoded f) (M x)
      ∙ any_same _ _ (M x) (λ c i. list_all-map t f c.replies ∙ all_same _ _ c.replies (λ y j. h y (closed x p c i y j)))

  pub counted_recoded : (n : ℕ) (x : X) → P x → within N n (f x) ≡ within M n x
  counted_recoded zero x p = refl
  counted_recoded (suc n) x p = λ i. counted_recoded n x p i || forced_recoded (within N n) (within M n) (counted_recoded n) x p i
