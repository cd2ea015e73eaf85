-- Questions about each place of a list, from 0 on.
use Rattle.std.proofs.Common.{◌≡◌, ℕ, suc, ◌+◌, Bool, true, false, cond, ◌||◌, List, [], ◌∷◌, map, length, Some, Option, filter, refl, sym, ap, ap₂, ◌∙◌, arith}
use Rattle.std.specs.List.{slice_get, range_with_len}
use Rattle.std.proofs.lemmas.List.Folds.{list_all-map}
use Rattle.lists.specs.Every.{every, any}

module _ {A B : Type 0} (p : B → Bool) (h : A → B) where
  pub any_map : (xs : List A) → any p (map h xs) ≡ any (λ x. p (h x)) xs
  any_map [] = refl
  any_map (x ∷ xs) = ap (λ b. p (h x) || b) (any_map xs)

  pub filter_map : (xs : List A) → filter p (map h xs) ≡ map h (filter (λ x. p (h x)) xs)
  filter_map [] = refl
  filter_map (x ∷ xs) = ap (λ l. cond (p (h x)) (h x ∷ l) l) (filter_map xs) ∙ taken (p (h x)) _
    where
      taken : (b : Bool) (ys : List A) → cond b (h x ∷ map h ys) (map h ys) ≡ map h (cond b (x ∷ ys) ys)
      taken true ys = refl
      taken false ys = refl

module _ {A : Type 0} (all : List A) where
  -- xs is all from place i on
  asked_from : (xs : List A) (i : ℕ) → ((j : ℕ) → slice_get all (i + j) ≡ slice_get xs j) → map (slice_get all) (range_with_len i (length xs)) ≡ map Some xs
  asked_from [] i h = refl
  asked_from (x ∷ xs) i h =
      let here : slice_get all i ≡ Some x = let z : i ≡ i + 0 = omega arith in ap (slice_get all) z ∙ h 0 in
      ap₂ (λ o os. o ∷ os) here (asked_from xs (i + 1) (λ j. let z : i + 1 + j ≡ i + suc j = omega arith in ap (slice_get all) z ∙ h (suc j)))

  asked : map (slice_get all) (range_with_len 0 (length all)) ≡ map Some all
  asked = asked_from all 0 (λ j. let z : 0 + j ≡ j = omega arith in ap (slice_get all) z)

  module _ (f : Option A → Bool) where
    pub every_asked : every (λ k. f (slice_get all k)) (range_with_len 0 (length all)) ≡ every (λ a. f (Some a)) all
    every_asked = sym (list_all-map f (slice_get all) (range_with_len 0 (length all))) ∙ ap (every f) asked ∙ list_all-map f Some all

    pub any_asked : any (λ k. f (slice_get all k)) (range_with_len 0 (length all)) ≡ any (λ a. f (Some a)) all
    any_asked = sym (any_map f (slice_get all) (range_with_len 0 (length all))) ∙ ap (any f) asked ∙ any_map f Some all

    -- the places that pass hold the items that pass
    pub kept_asked : map (slice_get all) (filter (λ k. f (slice_get all k)) (range_with_len 0 (length all))) ≡ map Some (filter (λ a. f (Some a)) all)
    kept_asked = sym (filter_map f (slice_get all) (range_with_len 0 (length all))) ∙ ap (filter f) asked ∙ filter_map f Some all
