-- The listing: it grows, it stands still once all listed codes are expanded, and then it is closed.
use Rattle.std.proofs.Common.{◌≡◌, ℕ, zero, suc, ◌<◌, ◌≤◌, Bool, true, cond, eqb, List, [], ◌∷◌, ◌++◌, length, get_or, take, Some, None, Option, sym, refl, ap, ◌∙◌, subst, ⊎_elim, append_assoc, append-nil, arith, length-append, take_all, take-suc, eq-eqb}
use lib.Seq.{take-append-le}
use Rattle.std.proofs.lemmas.Bool.{cases_lt, cond_both, or_left, or_right, and_from}
use Rattle.std.proofs.lemmas.List.Folds.{list_any-append}
use Rattle.std.proofs.lemmas.Option.{slice_get-get_or, slice_get_past}
use Rattle.std.specs.List.{slice_get}
use Rattle.games.proofs.Members.{every_listed}
use Rattle.games.specs.Listing.{listed, with_new, listing, expanded, Reached, at_start, at_reply, Closed}
use Rattle.games.specs.Meaning.{Meaning, replies_at}
use Rattle.lists.proofs.Tested.{every_mono, every_append}
use Rattle.lists.specs.Every.{every}

pub with_new_append : (seen xs ys : List ℕ) → with_new seen (xs ++ ys) ≡ with_new (with_new seen xs) ys
with_new_append seen [] ys = refl
with_new_append seen (x ∷ xs) ys = with_new_append (cond (listed x seen) seen (seen ++ (x ∷ []))) xs ys

pub with_new_longer : (seen ys : List ℕ) → length seen ≤ length (with_new seen ys)
with_new_longer seen [] = omega arith
with_new_longer seen (y ∷ ys) =
    cond_both (listed y seen) seen (seen ++ (y ∷ [])) (λ s. length seen ≤ length (with_new s ys)) (λ e. with_new_longer seen ys)
    (λ e. omega (arith, with_new_longer (seen ++ (y ∷ [])) ys, length-append seen (y ∷ [])))

module _ (m : Meaning) where
  expanded_longer : (seen : List ℕ) (o : Option ℕ) → length seen ≤ length (expanded m seen o)
  expanded_longer seen None = omega arith
  expanded_longer seen (Some x) = with_new_longer seen (replies_at (m.at x))

  pub listing_mono : (j k : ℕ) → j ≤ k → length (listing m j) ≤ length (listing m k)
  listing_mono j zero l = let e : j ≡ 0 = omega arith in omega (arith, ap (λ i. length (listing m i)) e)
  listing_mono j (suc k) l =
      ⊎_elim (λ h. omega (arith, listing_mono j k (omega arith), expanded_longer (listing m k) (slice_get (listing m k) k)))
      (λ h. let e : j ≡ suc k = omega arith in omega (arith, ap (λ i. length (listing m i)) e)) (cases_lt j (suc k))

  pub listing_some : (k : ℕ) → 0 < length (listing m k)
  listing_some k = omega (arith, listing_mono 0 k (omega arith))

  pub listing_step : (k x : ℕ) → slice_get (listing m k) k ≡ Some x → listing m (suc k) ≡ with_new (listing m k) (replies_at (m.at x))
  listing_step k x e = ap (expanded m (listing m k)) e

  pub listing_still : (i k : ℕ) → length (listing m i) ≤ i → i ≤ k → listing m k ≡ listing m i
  listing_still i zero l h = let e : i ≡ 0 = omega arith in ap (listing m) (sym e)
  listing_still i (suc k) l h =
      ⊎_elim
      (λ q. let ih = listing_still i k l (omega arith) in ap (expanded m (listing m k)) (slice_get_past (listing m k) k (omega (arith, ap length ih))) ∙ ih)
      (λ q. let e : i ≡ suc k = omega arith in ap (listing m) (sym e)) (cases_lt i (suc k))

-- a list with more has what was there
listed_append : (y : ℕ) (xs ys : List ℕ) → listed y xs ≡ true → listed y (xs ++ ys) ≡ true
listed_append y xs ys h = list_any-append (eqb y) xs ys ∙ or_left _ _ h

listed_last : (y : ℕ) (xs : List ℕ) → listed y (xs ++ (y ∷ [])) ≡ true
listed_last y xs = list_any-append (eqb y) xs (y ∷ []) ∙ or_right _ _ (or_left (eqb y y) _ (eq-eqb y y refl))

with_new_keeps : (y : ℕ) (seen ys : List ℕ) → listed y seen ≡ true → listed y (with_new seen ys) ≡ true
with_new_keeps y seen [] h = h
with_new_keeps y seen (z ∷ ys) h =
    cond_both (listed z seen) seen (seen ++ (z ∷ [])) (λ s. listed y (with_new s ys) ≡ true) (λ e. with_new_keeps y seen ys h)
    (λ e. with_new_keeps y (seen ++ (z ∷ [])) ys (listed_append y seen (z ∷ []) h))

with_new_has : (seen ys : List ℕ) → every (λ y. listed y (with_new seen ys)) ys ≡ true
with_new_has seen [] = refl
with_new_has seen (z ∷ ys) =
    cond_both (listed z seen) seen (seen ++ (z ∷ [])) (λ s. every (λ y. listed y (with_new s ys)) (z ∷ ys) ≡ true)
    (λ e. and_from _ _ (with_new_keeps z seen ys e) (with_new_has seen ys))
    (λ e. and_from _ _ (with_new_keeps z (seen ++ (z ∷ [])) ys (listed_last z seen)) (with_new_has (seen ++ (z ∷ [])) ys))

pub with_new_front : (seen ys : List ℕ) → (zs : List ℕ) × (with_new seen ys ≡ seen ++ zs)
with_new_front seen [] = ([], sym (append-nil seen))
with_new_front seen (z ∷ ys) =
    cond_both (listed z seen) seen (seen ++ (z ∷ [])) (λ s. (zs : List ℕ) × (with_new s ys ≡ seen ++ zs)) (λ e. with_new_front seen ys)
    (λ e. let r = with_new_front (seen ++ (z ∷ [])) ys in (z ∷ r.0, r.1 ∙ append_assoc seen (z ∷ []) r.0))

module _ (m : Meaning) where
  -- the first k codes were expanded
  abbrev open_ones : List ℕ → ℕ → Bool
  open_ones all x = every (λ y. listed y all) (replies_at (m.at x))

  expanded_so_far : (k : ℕ) → every (open_ones (listing m k)) (take k (listing m k)) ≡ true
  expanded_so_far zero = refl
  expanded_so_far (suc k) =
      let L = listing m k in
      let ih = expanded_so_far k in
      ⊎_elim
      (λ l. let x = get_or L k 0 in
      let rs = replies_at (m.at x) in
      let e : listing m (suc k) ≡ with_new L rs = listing_step m k x (slice_get-get_or L k 0 l) in
      let zs = with_new_front L rs in
      let t : take (suc k) (with_new L rs) ≡ take k L ++ (x ∷ []) = ap (take (suc k)) zs.1 ∙ take-append-le (suc k) L zs.0 (omega arith) ∙ take-suc L k 0 l in
      subst (λ (all : List ℕ). every (open_ones all) (take (suc k) all) ≡ true) (sym e)
      (subst (λ (xs : List ℕ). every (open_ones (with_new L rs)) xs ≡ true) (sym t)
      (every_append (open_ones (with_new L rs)) (take k L) (x ∷ [])
      (every_mono (open_ones L) (open_ones (with_new L rs)) (take k L) (λ z h. every_mono (λ y. listed y L) (λ y. listed y (with_new L rs)) (replies_at (m.at z)) (λ y d. with_new_keeps y L rs d) h) ih)
      (and_from _ _ (with_new_has L rs) refl))))
      (λ l. let e : listing m (suc k) ≡ L = ap (expanded m L) (slice_get_past L k l) in
      subst (λ (all : List ℕ). every (open_ones all) (take (suc k) all) ≡ true) (sym e)
      (subst (λ (xs : List ℕ). every (open_ones L) xs ≡ true) (take_all k L l ∙ sym (take_all (suc k) L (omega arith))) ih))
      (cases_lt k (length L))

  pub listing_closed : (k : ℕ) → length (listing m k) ≤ k → Closed m (listing m k)
  listing_closed k l x h = every_listed (open_ones (listing m k)) (listing m k) x (subst (λ (xs : List ℕ). every (open_ones (listing m k)) xs ≡ true) (take_all k (listing m k) l) (expanded_so_far k)) h

  -- the first code is listed
  pub listing_start : (k : ℕ) → listed m.start (listing m k) ≡ true
  listing_start zero = or_left (eqb m.start m.start) _ (eq-eqb m.start m.start refl)
  listing_start (suc k) = keeps (listing m k) (slice_get (listing m k) k) (listing_start k)
    where
      keeps : (seen : List ℕ) (o : Option ℕ) → listed m.start seen ≡ true → listed m.start (expanded m seen o) ≡ true
      keeps seen None h = h
      keeps seen (Some x) h = with_new_keeps m.start seen (replies_at (m.at x)) h

  -- every code that is reached is in a closed listing
  pub reached_listed : (k : ℕ) → length (listing m k) ≤ k → (x : ℕ) → Reached m x → listed x (listing m k) ≡ true
  reached_listed k l _ at_start = listing_start k
  reached_listed k l _ (at_reply x y r h) = every_listed (λ z. listed z (listing m k)) (replies_at (m.at x)) y (listing_closed k l x (reached_listed k l x r)) h
