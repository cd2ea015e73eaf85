-- The search for the first place, and what the place found says.
use Rattle.std.proofs.Common.{◌≡◌, ℕ, ◌+◌, ◌<◌, Bool, true, false, List, [], ◌∷◌, length, get_or, Some, None, Option, sym, refl, ap, ◌∙◌, arith}
use Rattle.std.specs.Option.{option_map}
use Rattle.std.specs.List.{position}
use Rattle.std.proofs.lemmas.List.Quantifiers.{position-Some}
use Rattle.std.proofs.lemmas.Option.{none-some}
use Rattle.lists.specs.Every.{any}
use Rattle.values.specs.Places.{first_place}

-- a place found n elements beyond the first i
abbrev pub beyond : ℕ → Option ℕ → Option ℕ
beyond i o = option_map (λ n. i + n) o

pub beyond_zero : (o : Option ℕ) → o ≡ beyond 0 o
beyond_zero None = refl
beyond_zero (Some n) = ap Some (omega arith)

-- what the library's search finds
pub first_position : {A : Type 0} (p : A → Bool) (xs : List A) → position p xs ≡ first_place p xs
first_position p [] = refl
first_position p (x ∷ xs) = grind (arith, first_position p xs)

pub none_some : {A : Type 0} {x : A} → ◌≡◌ {A = Option A} None (Some x) → ⊥
none_some e = none-some _ e

module _ {A : Type 0} (p : A → Bool) where
  -- the place found is within the list, and its element passes
  pub place_good : (xs : List A) (i : ℕ) (d : A) → Some i ≡ first_place p xs → (i < length xs) × (p (get_or xs i d) ≡ true)
  place_good xs i d e = let (l, t, n) = position-Some p xs i d (first_position p xs ∙ sym e) in (l, t)

  -- no place is found only where no element passes
  pub place_none : (xs : List A) → None ≡ first_place p xs → any p xs ≡ false
  place_none [] e = refl
  place_none (x ∷ xs) e = grind (arith, place_none xs, e)
