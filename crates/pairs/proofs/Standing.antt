-- The codes that stand for a pair.
use Rattle.std.proofs.Common.{◌≡◌, ℕ, ◌<◌, ◌≤◌, Bool, true, false, ◌&&◌, eqb, ltb, List, ◌++◌, length, Some, sym, refl, ap, ◌∙◌, subst, arith, length-append}
use Rattle.std.specs.Bool.{then_some}
use Rattle.std.specs.Cmp.Lexicographic.{bytes_decides}
use Rattle.std.specs.Option.{option_map}
use Rattle.std.proofs.lemmas.Bool.{and_from, and_parts, cond-true, cond-false, eq-eqb, eqb-true, eqb-false, false_from_ne_true, lt-ltb}
use Rattle.std.proofs.lemmas.List.{length-map}
use Rattle.lists.proofs.Extends.{held_few}
use Rattle.programs.specs.Places.{In}
use Rattle.twins.specs.Naming.{name}
use Rattle.twins.specs.Pairs.{Pair, normal}
use Rattle.twins.specs.Codes.{code, pair_of, Few, Small}
use Rattle.twins.proofs.Lists.{in_left, in_right, of_map}
use Rattle.twins.proofs.Naming.{names_small}
use Rattle.twins.proofs.Codes.{decodes}
use Rattle.pairs.specs.Order.{InOrder, pair_of_values}
use Rattle.pairs.specs.Stored.{pair_model}
use Rattle.pairs.specs.Decoding.{in_order, stands, decoded}
use Rattle.pairs.specs.declared.Pair as stored
use Rattle.pairs.proofs.Formed.{model, of_values}

in_order_yes : (p : Pair) → InOrder (p.lefts ++ p.rights) → in_order p ≡ true
in_order_yes p e = (bytes_decides _ _).1 e

-- the pair of a code, named again
abbrev again : ℕ → Pair
again c = normal eqb (pair_of c).left (pair_of c).right (pair_of c).lefts (pair_of c).rights

-- a number that stands is the code of its pair named again
stands_code : (c : ℕ) → stands c ≡ true → code (again c) ≡ c
stands_code c t =
    let a = and_parts _ _ (and_parts _ _ t).1 in
    let ls = (pair_of c).lefts in
    let rs = (pair_of c).rights in
    let e = sym ((bytes_decides _ _).0 a.1) in
    let w : pair_of c ≡ again c = model eqb ls rs ls rs e (λ i. length ls) (pair_of c).left (pair_of c).right in
    ap code (sym w) ∙ eqb-true _ _ a.0

-- names in order are below their number
order_small : (ns : List ℕ) → InOrder ns → (n : ℕ) → In n ns → n < length ns
order_small ns e n i =
    let (x, j, p) = of_map (name eqb ns) n ns (subst (In n) (sym e) i) in
    omega (arith, p, names_small ns x j)

-- each side has at most four names, as its type has room for no more
sides_few : (p : stored.Pair) → (length (pair_model p).lefts ≤ 4) × (length (pair_model p).rights ≤ 4)
sides_few p = (simp length-map (held_few p.lefts), simp length-map (held_few p.rights))

-- stored pairs
module _ (p : stored.Pair) where
  names_few : (ns : List ℕ) → length ns ≤ 4 → ((n : ℕ) → In n ns → In n ((pair_model p).lefts ++ (pair_model p).rights)) → Few ns
  names_few ns few sub = (
    few,
    λ n i.
        omega (arith, order_small _ p.in_order n (sub n i), length-append (pair_model p).lefts (pair_model p).rights, sides_few p),
  )

  pub pair_small : Small (pair_model p)
  pair_small =
      let few = sides_few p in
      record {
        left = p.left_small;
        right = p.right_small;
        lefts = names_few _ few.0 (λ n. in_left n _ _);
        rights = names_few _ few.1 (λ n. in_right n _ _);
      }

  pair_stands : stands (code (pair_model p)) ≡ true
  pair_stands =
      subst (λ (q : Pair). (ltb q.left 32 && (eqb (code q) (code (pair_model p)) && in_order q)) ≡ true) (sym (decodes (pair_model p) pair_small))
      (and_from _ _ (lt-ltb _ _ p.left_small) (and_from _ _ (eq-eqb _ _ refl) (in_order_yes (pair_model p) p.in_order)))

  pub decoded_again : decoded (code (pair_model p)) ≡ Some (pair_model p)
  decoded_again = cond-true _ _ _ pair_stands ∙ ap Some (decodes (pair_model p) pair_small)

-- the pair of a number's parts is the number's pair, where its code is the number
pub answered : (c : ℕ) (p : stored.Pair) → Some (pair_model p) ≡ pair_of_values eqb (pair_of c).left (pair_of c).right (pair_of c).lefts (pair_of c).rights →
    option_map pair_model (then_some (eqb (code (pair_model p)) c) p) ≡ decoded c
answered c p e = go (eqb (code (pair_model p)) c) refl
  where
    same : pair_model p ≡ again c
    same = of_values eqb (pair_of c).lefts (pair_of c).rights (pair_of c).left (pair_of c).right (pair_model p) e

    go : (b : Bool) → eqb (code (pair_model p)) c ≡ b → option_map pair_model (then_some b p) ≡ decoded c
    go true q = sym (decoded_again p) ∙ ap decoded (eqb-true _ _ q)
    go false q = sym (cond-false _ _ _ (false_from_ne_true (stands c) (λ t. eqb-false _ _ q (ap code same ∙ stands_code c t))))
