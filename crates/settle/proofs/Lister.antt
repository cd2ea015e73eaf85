-- The loop of the lister.
use Rattle.std.proofs.Common.{◌≡◌, ℕ, suc, ◌+◌, ◌<◌, ◌≤◌, List, [], ◌∷◌, length, get_or, take, set, Some, sym, ap, ◌∙◌, subst, add-one, arith, length-set, get_or-set_other, get_or-take, take-suc-set}
use Rattle.std.proofs.lemmas.Option.{slice_get-get_or}
use Rattle.std.specs.List.{slice_get}
use Rattle.games.specs.Listing.{with_new, listing}
use Rattle.games.specs.Meaning.{Meaning, replies_at}
use Rattle.games.proofs.Listed.{listing_mono, listing_some, listing_step, listing_still}
use Rattle.settle.proofs.Growth.{grown_then, grown_same}
use Rattle.settle.specs.Grown.{Grown}

module _ (m : Meaning) where
  -- the loop of the lister
  module _ (first codes after : List ℕ) (len i : ℕ) (a : Grown first codes len (listing m i)) (inside : i < len) where
    here : slice_get (listing m i) i ≡ Some (get_or codes i 0)
    here =
        slice_get-get_or (listing m i) i 0 (omega (arith, a.long)) ∙ ap Some (ap (λ l. get_or l i 0) (sym a.front) ∙ get_or-take len codes i 0 inside)

    step_is : with_new (take len codes) (replies_at (m.at (get_or codes i 0))) ≡ listing m (suc i)
    step_is = ap (λ s. with_new s (replies_at (m.at (get_or codes i 0)))) a.front ∙ sym (listing_step m i (get_or codes i 0) here)

    pub list_step : (n : ℕ) → Grown codes after n (with_new (take len codes) (replies_at (m.at (get_or codes i 0)))) → Grown first after n (listing m (i + 1)) × (i + 1 ≤ n)
    list_step n b =
        let b' = subst (Grown codes after n) (step_is ∙ ap (listing m) (sym (add-one i))) b in
        let l : len ≤ n = omega (arith, a.long, b.long, ap length step_is, listing_mono m i (suc i) (omega arith)) in
        (grown_then first codes after len n _ _ a b' l, omega arith)

    pub list_full : length codes ≡ length first → length codes < length (with_new (take len codes) (replies_at (m.at (get_or codes i 0)))) → length first < length (listing m (length first))
    list_full same l = omega (arith, ap length step_is, listing_mono m (suc i) (length first) (omega (arith, a.fits)))

  pub list_end : (first codes : List ℕ) (len i : ℕ) → length codes ≡ length first → Grown first codes len (listing m i) → i ≤ len → len ≤ i → Grown first codes len (listing m (length first))
  list_end first codes len i same a p q =
      subst (Grown first codes len) (sym (listing_still m i (length first) (omega (arith, a.long)) (omega (arith, a.fits)))) a

  -- s is the first code, which the lister writes first
  module _ (codes : List ℕ) (s : ℕ) (is : s ≡ m.start) where
    pub list_start : 0 < length codes → Grown (set codes 0 s) (set codes 0 s) 1 (listing m 0)
    list_start l =
        subst (Grown (set codes 0 s) (set codes 0 s) 1) (take-suc-set codes 0 s l ∙ ap (λ x. x ∷ []) is) (grown_same (set codes 0 s) 1 (omega (arith, length-set codes 0 s)))

    pub list_done : (after : List ℕ) (n : ℕ) → Grown (set codes 0 s) after n (listing m (length (set codes 0 s))) → Grown codes after n (listing m (length codes))
    list_done after n a =
        subst (λ (k : ℕ). Grown codes after n (listing m k)) (length-set codes 0 s)
        (record { long = a.long; fits = a.fits; front = a.front; rest = λ j h. a.rest j h ∙ get_or-set_other codes 0 j s 0 (omega (arith, a.long, listing_some m (length (set codes 0 s)))) })

    pub list_over : length (set codes 0 s) < length (listing m (length (set codes 0 s))) → length codes < length (listing m (length codes))
    list_over l = subst (λ (k : ℕ). k < length (listing m k)) (length-set codes 0 s) l
