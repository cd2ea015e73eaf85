-- What follows of every game.
use Rattle.std.proofs.Common.{ℕ, zero, suc}
use Rattle.twins.specs.Games.{Game, Held, Wins, Survives, Follows}

pub held_survives : {X : Type 0} (G : Game X) (S : X → Type 0) → Held G S → (n : ℕ) (x : X) → S x → Survives G n x
held_survives G S h zero x s = tt
held_survives G S h (suc n) x s =
    λ c. let r = h x s c in (r.0, r.1, held_survives G S h n r.0 r.2)

pub wins_or_survives : {X : Type 0} (G : Game X) (n : ℕ) (x : X) → Wins G n x → Survives G n x → ⊥
wins_or_survives G zero x w s = w
wins_or_survives G (suc n) x w s =
    let r = s w.0 in wins_or_survives G n r.0 (w.1 r.0 r.1) r.2

pub wins_unheld : {X : Type 0} (G : Game X) (S : X → Type 0) → Held G S → (n : ℕ) (x : X) → Wins G n x → S x → ⊥
wins_unheld G S h n x w s = wins_or_survives G n x w (held_survives G S h n x s)

pub wins_more : {X : Type 0} (G : Game X) (n : ℕ) (x : X) → Wins G n x → Wins G (suc n) x
wins_more G zero x w = absurd w
wins_more G (suc n) x w = (w.0, λ y r. wins_more G n y (w.1 y r))

pub follows_survives : {X Y : Type 0} (G : Game X) (H : Game Y) (I : X → Y → Type 0) → Follows G H I →
    (n : ℕ) (x : X) (y : Y) → I x y → Survives G n x → Survives H n y
follows_survives G H I f zero x y i s = tt
follows_survives G H I f (suc n) x y i s =
    λ d. let c = f x y i d in
    let r = s c.0 in
    let t = c.1 r.0 r.1 in
    (t.0, t.1, follows_survives G H I f n r.0 t.0 t.2 r.2)

pub follows_wins : {X Y : Type 0} (G : Game X) (H : Game Y) (I : X → Y → Type 0) → Follows G H I →
    (n : ℕ) (x : X) (y : Y) → I x y → Wins H n y → Wins G n x
follows_wins G H I f zero x y i w = w
follows_wins G H I f (suc n) x y i w =
    let c = f x y i w.0 in
    (c.0, λ x' r. let t = c.1 x' r in follows_wins G H I f n x' t.0 t.2 (w.1 t.0 t.1))

pub follows_held : {X Y : Type 0} (G : Game X) (H : Game Y) (I : X → Y → Type 0) → Follows G H I →
    (S : X → Type 0) → Held G S → Held H (λ y. (x : X) × S x × I x y)
follows_held G H I f S h y s d =
    let c = f s.0 y s.2 d in
    let r = h s.0 s.1 c.0 in
    let t = c.1 r.0 r.1 in
    (t.0, t.1, (r.0, r.2, t.2))
