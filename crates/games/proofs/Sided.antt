-- The left's challenges, by their places among all.
use Rattle.std.proofs.Common.{◌≡◌, ℕ, Bool, List, length, Some, None, Option, filter, refl, sym, ap, ◌∙◌}
use lib.ListN.{length-map}
use Rattle.std.specs.List.{slice_get, range_with_len}
use Rattle.std.specs.Option.{option_map}
use Rattle.std.proofs.lemmas.Option.{slice_get-map}
use Rattle.games.specs.Meaning.{Challenge}
use Rattle.games.specs.LeftOnly.{some_left, lefts}
use Rattle.games.specs.Ways.{chosen}
use Rattle.games.proofs.Asked.{kept_asked}

module _ (cs : List (Challenge ℕ)) where
  -- whether the challenge at a place is the left's
  abbrev pub left_at : ℕ → Bool
  left_at k = some_left (option_map (λ c. c.side) (slice_get cs k))

  abbrev places : List ℕ
  places = filter left_at (range_with_len 0 (length cs))

  same : (o : Option ℕ) (c : Option (Challenge ℕ)) → option_map (slice_get cs) o ≡ option_map Some c → chosen cs o ≡ c
  same None None e = refl
  same None (Some c) e = cc
  same (Some k) None e = cc
  same (Some k) (Some c) e = cc

  pub nth_left : (n : ℕ) → chosen cs (slice_get places n) ≡ slice_get (lefts cs) n
  nth_left n =
      same _ _ (sym (slice_get-map (slice_get cs) places n) ∙ ap (λ l. slice_get l n) (kept_asked cs (λ o. some_left (option_map (λ c. c.side) o))) ∙ slice_get-map Some (lefts cs) n)

  pub lefts_number : length places ≡ length (lefts cs)
  lefts_number = sym (length-map places (slice_get cs)) ∙ ap length (kept_asked cs (λ o. some_left (option_map (λ c. c.side) o))) ∙ length-map (lefts cs) Some
