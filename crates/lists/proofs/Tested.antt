-- Tests of the items of a list.
use Rattle.std.proofs.Common.{◌≡◌, ℕ, ◌<◌, Bool, true, false, cond, not, ◌&&◌, List, [], ◌∷◌, ◌++◌, map, Some, sym, refl, ap, ◌∙◌, arith}
use mathlib.Core.Bool.{false≢true}
use Rattle.std.specs.List.{slice_get}
use Rattle.std.proofs.lemmas.List.Elements.{All-weaker}
use Rattle.std.proofs.lemmas.List.Folds.{Any-from_list_any, list_any-from_Any, list_all-append, list_all-map, list_any_at}
use Rattle.std.proofs.lemmas.List.Sums.{AllPass-from_list_all, list_all-from_AllPass, sum_by-cons, sum_by-le-sum_by}
use Rattle.std.proofs.lemmas.Bool.{and_parts, and_from}
use Rattle.std.proofs.lemmas.Bool.Decides.{same_from_decides}
use Rattle.std.proofs.lemmas.Option.{slice_get-get_or, slice_get_within, get_or_from_slice_get}
use Rattle.lists.specs.Every.{every, any}
pub use Rattle.std.specs.List.{count_by as number}
pub use Rattle.std.proofs.lemmas.Bool.{true_from_ne_false as by_true, false_from_ne_true as by_false}
pub use Rattle.std.proofs.lemmas.List.Sums.{count_by-le-length as number_le}

pub same_test : (a b : Bool) → (a ≡ true → b ≡ true) → (b ≡ true → a ≡ true) → a ≡ b
same_test a b f g = same_from_decides {P = b ≡ true} a b (f, g) (λ e. e, λ e. e)

module _ {A : Type 0} where
  pub every_mono : (p q : A → Bool) (xs : List A) → ((x : A) → p x ≡ true → q x ≡ true) → every p xs ≡ true → every q xs ≡ true
  every_mono p q xs f h = list_all-from_AllPass q xs (All-weaker (λ x. p x ≡ true) (λ x. q x ≡ true) f xs (AllPass-from_list_all p xs h))

  pub any_mono : (p q : A → Bool) (xs : List A) → ((x : A) → p x ≡ true → q x ≡ true) → any p xs ≡ true → any q xs ≡ true
  any_mono p q xs f h = let (k, x, l, e, t) = Any-from_list_any p xs h in list_any-from_Any q xs (k, x, l, e, f x t)

  -- all p, and some q: some element has both
  pub any_both : (p q : A → Bool) (xs : List A) → every p xs ≡ true → any q xs ≡ true → (x : A) × (p x ≡ true) × (q x ≡ true)
  any_both p q xs a s = let (k, x, l, e, t) = Any-from_list_any q xs s in (x, ap p (sym e) ∙ AllPass-from_list_all p xs a k x l, t)

  pub every_not : (p : A → Bool) (xs : List A) → any p xs ≡ false → every (λ x. not (p x)) xs ≡ true
  every_not p [] h = refl
  every_not p (x ∷ xs) h = grind (arith, every_not p xs, h)

  pub any_at : (p : A → Bool) (xs : List A) (k : ℕ) (a : A) → slice_get xs k ≡ Some a → p a ≡ true → any p xs ≡ true
  any_at p xs k a e t = list_any_at p xs k a (slice_get_within xs k a e) (ap p (get_or_from_slice_get xs k a a e) ∙ t)

  pub every_nth : (p : A → Bool) (xs : List A) (k : ℕ) (a : A) → every p xs ≡ true → slice_get xs k ≡ Some a → p a ≡ true
  every_nth p xs k a h e = ap p (sym (get_or_from_slice_get xs k a a e)) ∙ AllPass-from_list_all p xs h k a (slice_get_within xs k a e)

  pub any_nth : (p : A → Bool) (xs : List A) → any p xs ≡ true → (i : ℕ) × (a : A) × (slice_get xs i ≡ Some a) × (p a ≡ true)
  any_nth p xs h = let (k, x, l, e, t) = Any-from_list_any p xs h in (k, x, slice_get-get_or xs k x l ∙ ap Some e, t)

  abbrev one : (A → Bool) → A → ℕ
  one p x = cond (p x) 1 0

  pub number_more : (p q : A → Bool) (xs : List A) → ((x : A) → p x ≡ true → q x ≡ true) → any (λ x. not (p x) && q x) xs ≡ true → number p xs < number q xs
  number_more p q [] f s = absurd (false≢true s)
  number_more p q (x ∷ xs) f s =
      let least = sum_by-le-sum_by (one p) (one q) xs (λ y. grind (arith, f y)) in
      grind (arith, sum_by-cons (one p) x xs, sum_by-cons (one q) x xs, f x, least, number_more p q xs f, s)

pub every_parts : {A : Type 0} (p : A → Bool) (xs ys : List A) → every p (xs ++ ys) ≡ true → (every p xs ≡ true) × (every p ys ≡ true)
every_parts p xs ys h = and_parts _ _ (sym (list_all-append p xs ys) ∙ h)

pub every_append : {A : Type 0} (p : A → Bool) (xs ys : List A) → every p xs ≡ true → every p ys ≡ true → every p (xs ++ ys) ≡ true
every_append p xs ys a b = list_all-append p xs ys ∙ and_from _ _ a b

-- a test that follows from another, item by item
pub every_so : {A B : Type 0} (f : A → B) (t : A → Bool) (u : B → Bool) → ((x : A) → t x ≡ true → u (f x) ≡ true) → (xs : List A) → every t xs ≡ true → every u (map f xs) ≡ true
every_so f t u so xs e = list_all-map u f xs ∙ every_mono t (λ x. u (f x)) xs so e
