-- One step of both places keeps the names that stand for their values.
use Rattle.std.proofs.Common.{◌≡◌, ℕ, Bool, T, eqb, List, ◌∷◌, ◌++◌, map, sym, refl, ap, ◌∙◌, subst, inl, inr, ⊎_elim}
use Rattle.pages.specs.Model.{LineModel}
use Rattle.programs.specs.Places.{In, after, carry, moved}
use Rattle.std.proofs.lemmas.List.{map-append}
use Rattle.std.proofs.lemmas.Simd.{map-map}
use Rattle.twins.proofs.Lists.{in_left, in_right, in_either, in_map, of_map, carry_map, in_carry}
use Rattle.twins.proofs.Names.{name_one}
use Rattle.twins.specs.Naming.{name}
use Rattle.twins.specs.Pairs.{Pair, after_both, fresh}
use Rattle.twins.specs.Twins.{Places, Instance, Stands, Apart}

abbrev pub value : {V : Type 0} → V × ℕ → V
value z = z.0

abbrev pub named : {V : Type 0} → V × ℕ → ℕ
named z = z.1

abbrev pub rename : {V : Type 0} → (ℕ → ℕ) → V × ℕ → V × ℕ
rename f z = (z.0, f z.1)

-- what holds of a list of named values holds of any part of it, and after different names got different names
pub record Steady {V : Type 0} (Good : List (V × ℕ) → Type 0) : Type 0 where
  pub part : (xs ys : List (V × ℕ)) → ((y : V × ℕ) → In y ys → In y xs) → Good xs → Good ys
  pub renamed : (xs : List (V × ℕ)) (f : ℕ → ℕ) →
      ((m n : ℕ) → In m (map named xs) → In n (map named xs) → f m ≡ f n → m ≡ n) → Good xs → Good (map (rename f) xs)

pub stands_steady : {V : Type 0} (same : V → V → Bool) → Steady (Stands same)
stands_steady {V} same =
    record {
      part = λ xs ys h g y z i j e. g y z (h y i) (h z j) e;
      renamed = λ xs f h g y z i j e.
          let a = of_map (rename f) y xs i in
          let b = of_map (rename f) z xs j in
          let n : a.0.1 ≡ b.0.1 =
          h a.0.1 b.0.1 (in_map named a.0 xs a.1) (in_map named b.0 xs b.1) (sym (ap named a.2) ∙ e ∙ ap named b.2) in
          subst (λ (v : V). T (same v z.0)) (sym (ap value a.2))
          (subst (λ (v : V). T (same a.0.0 v)) (sym (ap value b.2)) (g a.0 b.0 a.1 b.1 n));
    }

pub apart_steady : {V : Type 0} (same : V → V → Bool) → Steady (Apart same)
apart_steady {V} same =
    record {
      part = λ xs ys h g y z i j e. g y z (h y i) (h z j) e;
      renamed = λ xs f h g y z i j e.
          let a = of_map (rename f) y xs i in
          let b = of_map (rename f) z xs j in
          let t : T (same a.0.0 b.0.0) =
          subst (λ (v : V). T (same v b.0.0)) (ap value a.2) (subst (λ (v : V). T (same y.0 v)) (ap value b.2) e) in
          ap named a.2 ∙ ap f (g a.0 b.0 a.1 b.1 t) ∙ sym (ap named b.2);
    }

module _ {V : Type 0} (Good : List (V × ℕ) → Type 0) (steady : Steady Good) where
  pub step : (p : Pair) (w : Places V) (i : Instance Good p w) (l m : LineModel) (y z : V × ℕ) →
      moved l p.lefts (fresh p) ≡ y.1 → moved m p.rights (fresh p) ≡ z.1 → Good (y ∷ (z ∷ (i.ls ++ i.rs))) →
      Instance Good (after_both p l m) (record { lefts = after l w.lefts.slots y.0; rights = after m w.rights.slots z.0 })
  step p w i l m y z ey ez g =
      record {
        ls = map (rename f) cl;
        rs = map (rename f) cr;
        left = refl;
        right = refl;
        left_names = ap (map f) eA ∙ map-map f named cl ∙ sym (map-map named (rename f) cl);
        right_names = ap (map f) eB ∙ map-map f named cr ∙ sym (map-map named (rename f) cr);
        left_values =
            ap (λ (s : List V). carry s y.0 l.sources) i.left_values ∙ carry_map value i.ls y l.sources ∙ sym (map-map value (rename f) cl);
        right_values =
            ap (λ (s : List V). carry s z.0 m.sources) i.right_values ∙ carry_map value i.rs z m.sources ∙ sym (map-map value (rename f) cr);
        good = subst Good (map-append (rename f) cl cr) (steady.renamed (cl ++ cr) f one (steady.part _ (cl ++ cr) among g));
      }
    where
      cl : List (V × ℕ)
      cl = carry i.ls y l.sources

      cr : List (V × ℕ)
      cr = carry i.rs z m.sources

      A : List ℕ
      A = carry p.lefts (moved l p.lefts (fresh p)) l.sources

      B : List ℕ
      B = carry p.rights (moved m p.rights (fresh p)) m.sources

      f : ℕ → ℕ
      f = name eqb (A ++ B)

      eA : A ≡ map named cl
      eA = (λ k. carry (i.left_names k) (ey k) l.sources) ∙ carry_map named i.ls y l.sources

      eB : B ≡ map named cr
      eB = (λ k. carry (i.right_names k) (ez k) m.sources) ∙ carry_map named i.rs z m.sources

      eAB : map named (cl ++ cr) ≡ A ++ B
      eAB = map-append named cl cr ∙ sym (λ k. eA k ++ eB k)

      one : (a b : ℕ) → In a (map named (cl ++ cr)) → In b (map named (cl ++ cr)) → f a ≡ f b → a ≡ b
      one a b ia ib e = name_one (A ++ B) a b (subst (In a) eAB ia) (subst (In b) eAB ib) e

      from_left : (x : V × ℕ) → In x cl → In x (y ∷ (z ∷ (i.ls ++ i.rs)))
      from_left x j = ⊎_elim inl (λ k. inr (inr (in_left x i.ls i.rs k))) (in_carry i.ls y x l.sources j)

      from_right : (x : V × ℕ) → In x cr → In x (y ∷ (z ∷ (i.ls ++ i.rs)))
      from_right x j = inr (⊎_elim inl (λ k. inr (in_right x i.ls i.rs k)) (in_carry i.rs z x m.sources j))

      among : (x : V × ℕ) → In x (cl ++ cr) → In x (y ∷ (z ∷ (i.ls ++ i.rs)))
      among x j = ⊎_elim (from_left x) (from_right x) (in_either x cl cr j)
