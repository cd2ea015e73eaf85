-- What settling answers, from what its parts leave.
use Rattle.std.proofs.Common.{◌≡◌, ℕ, zero, suc, ◌+◌, ◌-◌, ◌<◌, ◌≤◌, true, List, ◌++◌, length, get_or, take, drop, replicate, Some, None, Ok, Err, Option, Result, sym, refl, ap, ◌∙◌, subst, ⊎_elim, arith, length-drop, take-append-drop, length-take-le, get_or-drop, get_or-take, take_at, ext_get_or, drop_at}
use lib.ListN.{length-replicate, get_or-replicate}
use Rattle.std.proofs.lemmas.List.{get_or_append_left, drop-replicate}
use Rattle.std.proofs.lemmas.Bool.{both_ways}
use Rattle.std.specs.List.{slice_get}
use Rattle.games.proofs.Counting.{rounds, count_within, still_holds, fails_from, fails_unheld, held_by_uncounted, sure_iff}
use Rattle.games.proofs.Reaching.{listing_reached, listing_more, more_listing}
use Rattle.games.proofs.Listed.{listing_closed, listing_start, listing_some, with_new_front, reached_listed}
use Rattle.games.specs.Counts.{within, CountIs}
use Rattle.games.specs.Held.{Holds}
use Rattle.games.specs.Listing.{listed, listing, expanded, MoreThan, Closed}
use Rattle.games.specs.Meaning.{Meaning, replies_at}
use Rattle.lists.proofs.Tested.{by_false, number_le}
use Rattle.settle.specs.Grown.{Grown}
use Rattle.settle.specs.Outcome.{ListedAll, Answer, verdict_of, Outcome, Refuted, Refutes}
use Rattle.settle.specs.declared.SettleFault.{SettleFault}
use Rattle.settle.specs.declared.Settled.{Settled}
use Rattle.settle.specs.declared.Verdict.{Verdict}
use Rattle.settle.specs.declared.Verdict.TheVariants.{Holds as HOLDS, Fails as FAILS, Full as FULL}
use Rattle.settle.specs.Rounds.{AllClear, CountsAre}

module _ (m : Meaning) where
  first_listed : (k : ℕ) → get_or (listing m k) 0 0 ≡ m.start
  first_listed zero = refl
  first_listed (suc k) = keeps (listing m k) (slice_get (listing m k) k) (listing_some m k) ∙ first_listed k
    where
      keeps : (seen : List ℕ) (o : Option ℕ) → 0 < length seen → get_or (expanded m seen o) 0 0 ≡ get_or seen 0 0
      keeps seen None l = refl
      keeps seen (Some x) l =
          let f = with_new_front seen (replies_at (m.at x)) in
          ap (λ s. get_or s 0 0) f.1 ∙ get_or_append_left seen f.0 0 0 l

  -- a first code without a count is held
  pub uncounted_holds : (xs : List ℕ) → Closed m xs → listed m.start xs ≡ true → CountIs m m.start 0 → Holds m
  uncounted_holds xs closed here none =
      ⊎_elim
      (λ s. still_holds m xs s.0 closed s.2 here (by_false _ (λ w. let k = count_within m s.0 m.start w in both_ways _ (none k.0) k.2)))
      (λ l. absurd (omega (arith, number_le (within m.at (suc (length xs))) xs)))
      (rounds m xs (suc (length xs)))

  module _ (N n : ℕ) (zs codes : List ℕ) (cleared : zs ≡ replicate N 0) (long : length codes ≡ N) (grown : Grown zs codes n (listing m (length zs))) where
    grown_n : Grown zs codes n (listing m N)
    grown_n = subst (λ (k : ℕ). Grown zs codes n (listing m k)) (ap length cleared ∙ length-replicate N 0) grown

    few : length (listing m N) ≤ N
    few = omega (arith, grown_n.long, grown_n.fits)

    closed_n : Closed m (listing m N)
    closed_n = listing_closed m N few

    pub all_clear : (ws : List ℕ) → ws ≡ replicate N 0 → N ≤ 1024 → AllClear m (take n codes) (take n ws)
    all_clear ws e small =
        let wl : length ws ≡ N = ap length e ∙ length-replicate N 0 in
        let nl : n ≤ N = omega (arith, grown_n.fits) in
        record {
          closed = subst (Closed m) (sym grown_n.front) closed_n;
          same = length-take-le n codes (omega arith) ∙ sym (length-take-le n ws (omega arith));
          few = omega (arith, length-take-le n codes (omega arith));
          clear = λ k l.
              let h : k < n = omega (arith, length-take-le n codes (omega arith)) in
              get_or-take n ws k 0 h ∙ ap (λ l. get_or l k 0) e ∙ get_or-replicate N k 0 0 (omega arith);
        }

    rest_zero : drop n codes ≡ replicate (N - n) 0
    rest_zero =
        ext_get_or 0 (drop n codes) (drop n zs) (omega (arith, length-drop n codes, length-drop n zs, ap length cleared, length-replicate {A = ℕ} N 0))
        (λ i l. get_or-drop n codes i 0 ∙ grown_n.rest (n + i) (omega arith) ∙ sym (get_or-drop n zs i 0))
        ∙ ap (drop n) cleared ∙ drop-replicate n N 0

    module _ (ws rs : List ℕ) (wcleared : ws ≡ replicate N 0) (rl : length rs ≡ n) (are : CountsAre m (take n codes) rs) where
      past_zero : drop n ws ≡ replicate (N - n) 0
      past_zero = ap (drop n) wcleared ∙ drop-replicate n N 0

      are_n : CountsAre m (listing m N) rs
      are_n = subst (λ (xs : List ℕ). CountsAre m xs rs) grown_n.front are

      listed_all : ListedAll m N codes (rs ++ drop n ws) n
      listed_all =
          let ll : length rs ≡ length (listing m N) = rl ∙ grown_n.long in
          record {
            few = λ w. let over = more_listing m N w in omega (arith, few);
            reached = λ x. (listing_reached m N x, reached_listed m N few x);
            codes_are = sym (take-append-drop n codes) ∙ ap (λ l. l ++ drop n codes) grown_n.front ∙ ap (λ l. listing m N ++ l) (rest_zero ∙ ap (λ k. replicate (N - k) 0) grown_n.long);
            total_is = grown_n.long;
            counts_are = subst (CountsAre m (listing m N)) (sym (take_at rs (drop n ws) (length (listing m N)) ll)) are_n;
            counts_past = drop_at rs (drop n ws) (length (listing m N)) ll ∙ past_zero ∙ ap (λ k. replicate (N - k) 0) grown_n.long;
          }

      verdict : (r : ℕ) → CountIs m m.start r → Answer m N codes (rs ++ drop n ws) n (verdict_of r)
      verdict zero c = (listed_all, uncounted_holds (listing m N) closed_n (listing_start m N) c)
      verdict (suc r) c = (listed_all, fails_from m (suc r) c, fails_unheld m (suc r) c)

      pub answered : Answer m N codes (rs ++ drop n ws) n (verdict_of (get_or (rs ++ drop n ws) 0 0))
      answered =
          let p : 0 < length rs = omega (arith, grown_n.long, listing_some m N) in
          let e : get_or (rs ++ drop n ws) 0 0 ≡ get_or rs 0 0 = get_or_append_left rs (drop n ws) 0 0 p in
          verdict (get_or (rs ++ drop n ws) 0 0)
          (subst (CountIs m m.start) (sym e) (subst (λ (x : ℕ). CountIs m x (get_or rs 0 0)) (first_listed N) (are_n 0 (listing_some m N))))

-- more than the lists hold
pub over_full : (m : Meaning) (N : ℕ) (zs : List ℕ) → zs ≡ replicate N 0 → length zs < length (listing m (length zs)) → MoreThan m N
over_full m N zs cleared l =
    let e : length zs ≡ N = ap length cleared ∙ length-replicate N 0 in
    listing_more m N (subst (λ (k : ℕ). k < length (listing m k)) e l)

-- at FAILS no set of any sort is held with START in it
pub refuted : (m : Meaning) (S : ℕ → Type 0) (n : ℕ) (codes counts : List ℕ) (total : ℕ) (v : Verdict) → Answer m n codes counts total v → Refuted m S v
refuted m S n codes counts total FULL a = tt
refuted m S n codes counts total HOLDS a = tt
refuted m S n codes counts total (FAILS r) a = λ held here. held_by_uncounted m S held r m.start here ((sure_iff m r).0 a.1.0)

pub refutes : (m : Meaning) (S : ℕ → Type 0) (codes counts codes' counts' : List ℕ) (r : Result Settled SettleFault) → Outcome m codes counts codes' counts' r → Refutes m S r
refutes m S codes counts codes' counts' (Err e) a = tt
refutes m S codes counts codes' counts' (Ok s) a = refuted m S (length codes) codes' counts' s.codes s.verdict a.1
