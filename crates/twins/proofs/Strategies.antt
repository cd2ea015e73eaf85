-- Ways of challenging as functions.
use Rattle.std.proofs.Common.{◌≡◌, ℕ, zero, suc, ◌+◌, ◌-◌, Bool, true, false, cond, not, ◌||◌, T, List, [], ◌∷◌, length, sym, refl, ap, ◌∙◌, subst, inl, inr, ⊎_elim, arith}
use mathlib.Core.Option.{Option, some, none}
use Rattle.games.specs.Counts.{forces, within}
use Rattle.games.specs.Meaning.{Challenge, Challenges}
use Rattle.lists.specs.Every.{every, any}
use Rattle.programs.specs.Places.{In}
use Rattle.twins.proofs.Counts.{count_exactly, survives_to, below}
use Rattle.twins.proofs.Games.{wins_or_survives}
use Rattle.twins.proofs.Logic.{and_both, of_all, to_all, of_any, to_any, or_either, or_left, or_right}
use Rattle.twins.specs.Games.{Game, Wins, Strategy, SureBy}
use Rattle.twins.specs.Positions.{game_of, CountsExact}

pub sure_wins : {X : Type 0} (G : Game X) (s : Strategy G) (n : ℕ) (h : List X) (x : X) → SureBy G s n h x → Wins G n x
sure_wins G s zero h x w = w
sure_wins G s (suc n) h x (c, e, f) = (c, λ y r. sure_wins G s n (x ∷ h) y (f y r))

module _ {X : Type 0} (M : Challenges X) where
  abbrev later : (c : Challenge X) (cs : List (Challenge X)) → Option ((d : Challenge X) × In d cs) → Option ((d : Challenge X) × In d (c ∷ cs))
  later c cs none = none
  later c cs (some d) = some (d.0, inr d.1)

  -- the first challenge whose replies every pass the test
  abbrev pick : (t : X → Bool) (cs : List (Challenge X)) → Option ((c : Challenge X) × In c cs)
  pick t [] = none
  pick t (c ∷ cs) = cond (every t c.replies) (some (c, inl refl)) (later c cs (pick t cs))

  picked : (t : X → Bool) (cs : List (Challenge X)) → T (any (λ c. every t c.replies) cs) →
      (c : (c : Challenge X) × In c cs) × (pick t cs ≡ some c) × T (every t c.0.replies)
  picked t [] h = absurd h
  picked t (c ∷ cs) h = go (picked t cs) (every t c.replies) refl h
    where
      go : (T (any (λ c. every t c.replies) cs) → (d : (d : Challenge X) × In d cs) × (pick t cs ≡ some d) × T (every t d.0.replies)) →
          (b : Bool) → every t c.replies ≡ b → T (b || any (λ c. every t c.replies) cs) →
          (d : (d : Challenge X) × In d (c ∷ cs)) × (cond b (some (c, inl refl)) (later c cs (pick t cs)) ≡ some d) × T (every t d.0.replies)
      go f true e k = ((c, inl refl), refl, subst T (sym e) tt)
      go f false e k = let (d, q, a) = f k in ((d.0, inr d.1), ap (later c cs) q, a)

  -- a count within n is a count within n + 1, and is forces
  forced_more : (t u : X → Bool) → ((x : X) → T (t x) → T (u x)) → (x : X) → T (forces M t x) → T (forces M u x)
  forced_more t u h x f =
      let (c, i, a) = of_any (λ (c : Challenge X). every t c.replies) (M x) f in
      to_any (λ (c : Challenge X). every u c.replies) (M x) c i (to_all u c.replies (λ y j. h y (of_all t c.replies a y j)))

  counted_forced : (n : ℕ) (x : X) → T (within M (suc n) x) → T (forces M (within M n) x)
  counted_forced zero x h = ⊎_elim (λ a. absurd a) (λ b. b) (or_either (within M 0 x) (forces M (within M 0) x) h)
  counted_forced (suc n) x h =
      ⊎_elim (λ a. forced_more (within M n) (within M (suc n)) (λ y k. or_left (within M n y) (forces M (within M n) y) k) x (counted_forced n x a)) (λ b. b)
      (or_either (within M (suc n) x) (forces M (within M (suc n)) x) h)

  -- with n challenges in all, the first whose replies can every be won within what is left after it
  abbrev by_counts : ℕ → Strategy (game_of M)
  by_counts n h x = pick (within M (n - suc (length h))) (M x)

  by_counts_sure : (n m : ℕ) (h : List X) (x : X) → m + length h ≡ n → T (within M m x) → SureBy (game_of M) (by_counts n) m h x
  by_counts_sure n zero h x e c = absurd c
  by_counts_sure n (suc m) h x e c =
      let left : n - suc (length h) ≡ m = omega (arith, e) in
      let (d, q, a) = picked (within M m) (M x) (counted_forced m x c) in (
        d,
        ap (λ (k : ℕ). pick (within M k) (M x)) left ∙ q,
        λ y j. by_counts_sure n m (x ∷ h) y (omega (arith, e)) (of_all (within M m) d.0.replies a y j),
      )

  pub counts_exact : CountsExact M
  counts_exact zero x c = absurd c
  counts_exact (suc n) x c =
      let (w, v) = count_exactly M n x c in
      let (a, b) = and_both (not (within M n x)) (forces M (within M n) x) c in (
        (by_counts (suc n), by_counts_sure (suc n) (suc n) [] x (omega arith) (or_right (within M n x) (forces M (within M n) x) b)),
        λ m l s t.
            let (k, e) = below m n l in
            wins_or_survives (game_of M) m x (sure_wins (game_of M) s m [] x t) (survives_to (game_of M) m k x (rw e at v)),
      )
