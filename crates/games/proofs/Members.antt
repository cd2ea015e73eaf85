-- Codes in lists.
use Rattle.std.proofs.Common.{◌≡◌, ℕ, Bool, true, eqb, List, [], ◌∷◌, refl, ap, ◌∙◌, ⊎_elim, eq-eqb, eqb-true}
use mathlib.Core.Bool.{false≢true}
use Rattle.std.proofs.lemmas.Bool.{and_from, or_cases, or_left, or_right}
use Rattle.lists.specs.Every.{every, any}
use Rattle.lists.proofs.Tested.{any_both, every_parts}
use Rattle.games.specs.Meaning.{Challenge, replies_at}
use Rattle.games.specs.Listing.{listed}

pub every_listed : (p : ℕ → Bool) (xs : List ℕ) (y : ℕ) → every p xs ≡ true → listed y xs ≡ true → p y ≡ true
every_listed p xs y a h = let z = any_both p (eqb y) xs a h in ap p (eqb-true y z.0 z.2) ∙ z.1

pub every_replies : (p : ℕ → Bool) (cs : List (Challenge ℕ)) → every p (replies_at cs) ≡ true → every (λ c. every p c.replies) cs ≡ true
every_replies p [] h = refl
every_replies p (c ∷ cs) h = let ab = every_parts p c.replies (replies_at cs) h in and_from _ _ ab.0 (every_replies p cs ab.1)

pub any_listed : (p : ℕ → Bool) (xs : List ℕ) → any p xs ≡ true → (x : ℕ) × (listed x xs ≡ true) × (p x ≡ true)
any_listed p [] h = absurd (false≢true h)
any_listed p (x ∷ xs) h =
    ⊎_elim (λ e. (x, or_left (eqb x x) _ (eq-eqb x x refl), e)) (λ e. let r = any_listed p xs e in (r.0, or_right (eqb r.0 x) _ r.1, r.2)) (or_cases (p x) _ h)
