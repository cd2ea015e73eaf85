-- The replies to a challenge, as a match tells them one by one, and none where there is no such challenge.
use Rattle.std.proofs.Common.{◌≡◌, ℕ, Bool, length, get_or, Some, None, Option, unwrap_or, refl, ap, ◌∙◌}
use Rattle.std.specs.List.{range_with_len}
use Rattle.std.proofs.lemmas.Option.{unwrap_or-slice_get}
use Rattle.games.proofs.Asked.{every_asked}
use Rattle.games.specs.Meaning.{Challenge, replies_of, next_of}
use Rattle.lists.specs.Every.{every}

module _ (o : Option (Challenge ℕ)) where
  pub reply_told : (k : ℕ) (told : Option ℕ) (y : ℕ) → told ≡ next_of o k → y ≡ unwrap_or told 0 → y ≡ get_or (replies_of o) k 0
  reply_told k told y e f = f ∙ ap (λ t. unwrap_or t 0) e ∙ elim o as (λ o. unwrap_or (next_of o k) 0 ≡ get_or (replies_of o) k 0) [ None ↦ refl | Some c ↦ unwrap_or-slice_get c.replies k 0 ]

pub every_reply : (p : ℕ → Bool) (o : Option (Challenge ℕ)) → every (λ k. p (unwrap_or (next_of o k) 0)) (range_with_len 0 (length (replies_of o))) ≡ every p (replies_of o)
every_reply p None = refl
every_reply p (Some c) = every_asked c.replies (λ o. p (unwrap_or o 0))
