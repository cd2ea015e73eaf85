-- Lists of codes that grow.
use Rattle.std.proofs.Common.{◌≡◌, ℕ, zero, suc, ◌+◌, ◌<◌, ◌≤◌, Bool, true, false, cond, ◌||◌, Some, None, Option, List, [], ◌∷◌, ◌++◌, length, get_or, take, drop, set, sym, refl, ap, ◌∙◌, subst, append_assoc, append-nil, add-one, arith, length-append, length-set, length-take-le, get_or-set_other, take-suc-set}
use lib.Seq.{split_at}
use Rattle.std.proofs.lemmas.List.{take_more}
use Rattle.std.proofs.lemmas.Bool.{cond-true, cond-false}
use Rattle.std.specs.List.{slice_get}
use Rattle.std.specs.Option.{is_some, option_map}
use Rattle.games.proofs.Listed.{with_new_append, with_new_longer}
use Rattle.games.specs.Listing.{listed, with_new}
use Rattle.games.specs.Meaning.{Challenge, replies_at, replies_of}
use Rattle.lists.specs.Every.{any}
use Rattle.settle.specs.Grown.{Grown}
use Rattle.values.specs.Places.{first_place}

pub grown_then : (before mid after : List ℕ) (n n' : ℕ) (seen seen' : List ℕ) → Grown before mid n seen → Grown mid after n' seen' → n ≤ n' → Grown before after n' seen'
grown_then before mid after n n' seen seen' a b l =
    record { long = b.long; fits = b.fits; front = b.front; rest = λ k h. b.rest k h ∙ a.rest k (omega arith) }

pub grown_same : (xs : List ℕ) (n : ℕ) → n ≤ length xs → Grown xs xs n (take n xs)
grown_same xs n l = record { long = sym (length-take-le n xs l); fits = l; front = refl; rest = λ k h. refl }

pub grown_more : (xs : List ℕ) (n y : ℕ) → n < length xs → Grown xs (set xs n y) (n + 1) (take n xs ++ (y ∷ []))
grown_more xs n y l =
    record {
      long = omega (arith, length-append (take n xs) (y ∷ []), length-take-le n xs (omega arith));
      fits = omega (arith, length-set xs n y);
      front = rw (add-one n) (take-suc-set xs n y l);
      rest = λ k h. get_or-set_other xs n k y 0 (omega arith);
    }

-- the search finds a place exactly where some element passes
pub found : {A : Type 0} (p : A → Bool) (xs : List A) → is_some (first_place p xs) ≡ any p xs
found p [] = refl
found p (x ∷ xs) = here (p x) (first_place p xs) (found p xs)
  where
    here : (b : Bool) (o : Option ℕ) → is_some o ≡ any p xs → is_some (cond b (Some 0) (option_map suc o)) ≡ (b || any p xs)
    here true o e = refl
    here false None e = e
    here false (Some i) e = e

-- one code more
pub add_listed : (xs : List ℕ) (n y : ℕ) → n ≤ length xs → listed y (take n xs) ≡ true → Grown xs xs n (with_new (take n xs) (y ∷ []))
add_listed xs n y l h = subst (Grown xs xs n) (sym (cond-true (listed y (take n xs)) (take n xs) (take n xs ++ (y ∷ [])) h)) (grown_same xs n l)

pub add_fresh : (xs : List ℕ) (n y : ℕ) → n < length xs → listed y (take n xs) ≡ false → Grown xs (set xs n y) (n + 1) (with_new (take n xs) (y ∷ []))
add_fresh xs n y l h = subst (Grown xs (set xs n y) (n + 1)) (sym (cond-false (listed y (take n xs)) (take n xs) (take n xs ++ (y ∷ [])) h)) (grown_more xs n y l)

pub add_no_room : (xs : List ℕ) (n y : ℕ) → n ≡ length xs → listed y (take n xs) ≡ false → length xs < length (with_new (take n xs) (y ∷ []))
add_no_room xs n y l h =
    rw (cond-false (listed y (take n xs)) (take n xs) (take n xs ++ (y ∷ [])) h)
    (omega (arith, length-append (take n xs) (y ∷ []), length-take-le n xs (omega arith)))

-- code after code: `prefix` grows by `piece`
module _ (seen whole done piece rest : List ℕ) (parts : whole ≡ done ++ (piece ++ rest)) where
  pub grow_step : (first mid after : List ℕ) (n n' : ℕ) → Grown first mid n (with_new seen done) → Grown mid after n' (with_new (take n mid) piece) → Grown first after n' (with_new seen (done ++ piece))
  grow_step first mid after n n' a b =
      let e : with_new (take n mid) piece ≡ with_new seen (done ++ piece) = ap (λ s. with_new s piece) a.front ∙ sym (with_new_append seen done piece) in
      let l : n ≤ n' = omega (arith, with_new_longer (take n mid) piece, a.long, ap length a.front, b.long) in
      grown_then first mid after n n' _ _ a (subst (Grown mid after n') e b) l

  pub grow_full : (first mid : List ℕ) (n : ℕ) → Grown first mid n (with_new seen done) → length mid ≡ length first → length mid < length (with_new (take n mid) piece) → length first < length (with_new seen whole)
  grow_full first mid n a same l =
      let e : with_new (take n mid) piece ≡ with_new seen (done ++ piece) = ap (λ s. with_new s piece) a.front ∙ sym (with_new_append seen done piece) in
      let w : with_new seen whole ≡ with_new (with_new seen (done ++ piece)) rest = ap (with_new seen) (parts ∙ sym (append_assoc done piece rest)) ∙ with_new_append seen (done ++ piece) rest in
      omega (arith, ap length e, ap length w, with_new_longer (with_new seen (done ++ piece)) rest)

-- one reply more of rs
module _ (first mid : List ℕ) (n : ℕ) (seen rs : List ℕ) (k y : ℕ) (inside : k < length rs) (is : y ≡ get_or rs k 0) (a : Grown first mid n (with_new seen (take k rs))) where
  parts_at : rs ≡ take k rs ++ ((y ∷ []) ++ drop (suc k) rs)
  parts_at = split_at rs k 0 inside ∙ ap (λ z. take k rs ++ ((z ∷ []) ++ drop (suc k) rs)) (sym is)

  pub reply_step : (after : List ℕ) (n' : ℕ) → Grown mid after n' (with_new (take n mid) (y ∷ [])) → Grown first after n' (with_new seen (take (k + 1) rs))
  reply_step after n' b =
      let e : take k rs ++ (y ∷ []) ≡ take (k + 1) rs = ap (λ z. take k rs ++ (z ∷ [])) is ∙ sym (take_more rs k 0 inside) in
      subst (λ (l : List ℕ). Grown first after n' (with_new seen l)) e (grow_step seen rs (take k rs) (y ∷ []) (drop (suc k) rs) parts_at first mid after n n' a b)

  pub reply_full : length mid ≡ length first → length mid < length (with_new (take n mid) (y ∷ [])) → length first < length (with_new seen rs)
  reply_full same l = grow_full seen rs (take k rs) (y ∷ []) (drop (suc k) rs) parts_at first mid n a same l

-- one challenge more of cs
replies_parts : (cs : List (Challenge ℕ)) (k : ℕ) → k < length cs → (replies_at cs ≡ replies_at (take k cs) ++ (replies_of (slice_get cs k) ++ replies_at (drop (suc k) cs))) × (replies_at (take (suc k) cs) ≡ replies_at (take k cs) ++ replies_of (slice_get cs k))
replies_parts [] k l = absurd (omega arith)
replies_parts (c ∷ cs) zero l = (refl, append-nil c.replies)
replies_parts (c ∷ cs) (suc k) l =
    let ih = replies_parts cs k (omega arith) in (
      ap (λ x. c.replies ++ x) ih.0 ∙ sym (append_assoc c.replies (replies_at (take k cs)) _),
      ap (λ x. c.replies ++ x) ih.1 ∙ sym (append_assoc c.replies (replies_at (take k cs)) _),
    )

module _ (first mid : List ℕ) (n : ℕ) (seen : List ℕ) (cs : List (Challenge ℕ)) (k : ℕ) (inside : k < length cs) (a : Grown first mid n (with_new seen (replies_at (take k cs)))) where
  pub challenge_step : (after : List ℕ) (n' : ℕ) → Grown mid after n' (with_new (take n mid) (replies_of (slice_get cs k))) → Grown first after n' (with_new seen (replies_at (take (k + 1) cs)))
  challenge_step after n' b =
      let p = replies_parts cs k inside in
      let e : replies_at (take k cs) ++ replies_of (slice_get cs k) ≡ replies_at (take (k + 1) cs) = rw (add-one k) (sym p.1) in
      subst (λ (l : List ℕ). Grown first after n' (with_new seen l)) e (grow_step seen (replies_at cs) (replies_at (take k cs)) (replies_of (slice_get cs k)) (replies_at (drop (suc k) cs)) p.0 first mid after n n' a b)

  pub challenge_full : length mid ≡ length first → length mid < length (with_new (take n mid) (replies_of (slice_get cs k))) → length first < length (with_new seen (replies_at cs))
  challenge_full same l = grow_full seen (replies_at cs) (replies_at (take k cs)) (replies_of (slice_get cs k)) (replies_at (drop (suc k) cs)) (replies_parts cs k inside).0 first mid n a same l
