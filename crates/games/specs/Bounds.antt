-- The matches made here lead only to codes below their tops, and use none above: the proofs that their ghost members hold.
use Rattle.std.specs.Prelude.{◌≡◌, ℕ, ◌^◌, ◌<◌, ◌≤◌, Bool, true, List, [], ◌∷◌, map, nat_lt, refl}
use Rattle.std.proofs.Common.{ap, ◌∙◌, mod-lt, arith, lit<, lit≤, lt-ltb, ne_eqb}
use Rattle.std.proofs.lemmas.Bool.{and_from, cond_both, cond-false}
use Rattle.lists.specs.Every.{every}
use Rattle.lists.proofs.Tested.{every_append, every_parts}
use Rattle.games.specs.Meaning.{Meaning, Challenge, Below, replies_at}
use Rattle.games.specs.Drawn.{drawn, code32, of_code, row_challenge, row_replies, rows_at}
use Rattle.games.specs.LeftOnly.{lefts, is_left, left_only}
use Rattle.games.specs.declared.drawn.Row.{Row}

pub every_lefts : (p : ℕ → Bool) (cs : List (Challenge ℕ)) → every p (replies_at cs) ≡ true → every p (replies_at (lefts cs)) ≡ true
every_lefts p [] h = refl
every_lefts p (c ∷ cs) h =
    let ab = every_parts p c.replies (replies_at cs) h in
    cond_both (is_left c.side) (c ∷ lefts cs) (lefts cs) (λ l. every p (replies_at l) ≡ true)
    (λ e. every_append p c.replies _ ab.0 (every_lefts p cs ab.1)) (λ e. every_lefts p cs ab.1)

pub left_only_below : (m : Meaning) → Below m → Below (left_only m)
left_only_below m b = record { start_below = b.start_below; top_small = b.top_small; next_below = λ x. every_lefts _ (m.at x) (b.next_below x); unused = λ x h. ap lefts (b.unused x h) }

every_code : (ys : List ℕ) → every (λ y. nat_lt y (2 ^ 32)) (map code32 ys) ≡ true
every_code [] = refl
every_code (y ∷ ys) = and_from _ _ (lt-ltb (code32 y) (2 ^ 32) (mod-lt y (lit< tt))) (every_code ys)

every_row : (ys : List ℕ) (rows : List Row) → every (λ y. nat_lt y (2 ^ 32)) (replies_at (map (row_challenge ys) rows)) ≡ true
every_row ys [] = refl
every_row ys (r ∷ rows) = every_append _ (map code32 (row_replies ys r)) _ (every_code (row_replies ys r)) (every_row ys rows)

-- no row has a code of more than 32 bits
no_rows : (rows : List Row) (x : ℕ) → 2 ^ 32 ≤ x → rows_at rows x ≡ []
no_rows [] x h = refl
no_rows (r ∷ rows) x h =
    let small : code32 r.code < 2 ^ 32 = mod-lt r.code (lit< tt) in
    cond-false (of_code x r) (r ∷ rows_at rows x) (rows_at rows x) (ne_eqb (code32 r.code) x (λ e. omega arith)) ∙ no_rows rows x h

pub drawn_below : (s : ℕ) (rows : List Row) (ys : List ℕ) → Below (drawn s rows ys)
drawn_below s rows ys = record { start_below = mod-lt s (lit< tt); top_small = lit≤ tt; next_below = λ x. every_row ys (rows_at rows x); unused = λ x h. ap (map (row_challenge ys)) (no_rows rows x h) }
