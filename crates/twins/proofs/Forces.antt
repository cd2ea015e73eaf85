-- The match at pairs follows the match at places, where names stand for different values and there are enough values.
use Rattle.std.proofs.Common.{◌≡◌, ℕ, suc, ◌<◌, ◌≤◌, Bool, true, false, cond, not, T, eqb, List, [], ◌∷◌, ◌++◌, map, length, filter, sym, refl, ap, ◌∙◌, subst, inl, inr, ⊎_elim, arith, eqb→eq, T_not, length-append}
use lib.ListN.{length-map}
use Rattle.games.specs.declared.Side.{Side}
use Rattle.games.specs.declared.Side.TheVariants.{Left, Right}
use Rattle.std.proofs.lemmas.Bool.{ltb-true, false≢true}
use Rattle.pages.specs.declared.LineKind.{LineKind}
use Rattle.pages.specs.declared.LineKind.TheVariants.{Take, Show}
use Rattle.pages.specs.Formed.{shown_stands}
use Rattle.pages.specs.Model.{LineModel, PageModel}
use Rattle.programs.specs.Places.{moved_by, In, Act, Moves, after, moved, value_of, shows}
use Rattle.twins.proofs.Follows.{Meet, →meets, left_moved, right_moved, left_name, right_name}
use Rattle.twins.proofs.Lists.{in_left, in_right, in_map, in_range, in_get_or, in_moved, moved_again, of_kept, in_kept}
use Rattle.twins.proofs.Steps.{value, named, apart_steady, step}
use Rattle.twins.specs.Fits.{Fits, Shaped, arity}
use Rattle.twins.specs.Games.{Follows}
use Rattle.twins.specs.Pairs.{Pair, after_both, fresh, meets, Rule, asks, Match, replies, lines_of, side_of}
use Rattle.twins.specs.Twins.{Places, Instance, Apart, Sharp, Different, PlaceMatch, Alike, Equivalence}

module _ {V : Type 0} (same : V → V → Bool) (eqv : Equivalence same) where
  -- the values that are not z's
  abbrev others : V → List V → List V
  others z vs = filter (λ v. not (same z v)) vs

  others_different : (z : V) (vs : List V) → Different same vs → Different same (others z vs)
  others_different z [] d = tt
  others_different z (v ∷ vs) d = go (same z v) (others_different z vs d.1)
    where
      go : (b : Bool) → Different same (others z vs) → Different same (cond (not b) (v ∷ others z vs) (others z vs))
      go true r = r
      go false r = ((λ u i t. d.0 u (of_kept (λ (v : V). not (same z v)) u vs i).0 t), r)

  others_all : (z : V) (vs : List V) → ((u : V) → In u vs → T (same z u) → ⊥) → others z vs ≡ vs
  others_all z [] h = refl
  others_all z (v ∷ vs) h = go (others_all z vs (λ u i. h u (inr i))) (same z v) (h v (inl refl))
    where
      go : others z vs ≡ vs → (b : Bool) → (T b → ⊥) → cond (not b) (v ∷ others z vs) (others z vs) ≡ v ∷ vs
      go e true n = absurd (n tt)
      go e false n = ap (λ (l : List V). v ∷ l) e

  others_most : (z : V) (vs : List V) → Different same vs → length vs ≤ suc (length (others z vs))
  others_most z [] d = omega arith
  others_most z (v ∷ vs) d = go (others_most z vs d.1) (same z v) refl
    where
      go : length vs ≤ suc (length (others z vs)) → (b : Bool) → same z v ≡ b → suc (length vs) ≤ suc (length (cond (not b) (v ∷ others z vs) (others z vs)))
      go h true e =
          let k = ap length (others_all z vs (λ u i t. d.0 u i (eqv.through v z u (eqv.back z v (subst T (sym e) tt)) t))) in omega (arith, k)
      go h false e = omega arith

  -- among more different values than zs has, one is none of zs
  pub unused : (zs vs : List V) → Different same vs → length zs < length vs → (v : V) × In v vs × ((z : V) → In z zs → T (same z v) → ⊥)
  unused [] [] d h = absurd (omega arith)
  unused [] (v ∷ vs) d h = (v, inl refl, λ z i t. i)
  unused (z ∷ zs) vs d h =
      let m = others_most z vs d in go (unused zs (others z vs) (others_different z vs d) (omega arith))
    where
      no_other : (v : V) → In v (others z vs) → (y : V) → y ≡ z → T (same y v) → ⊥
      no_other v i y e t =
          T_not (same z v) (of_kept (λ (u : V). not (same z u)) v vs i).1 (subst (λ (u : V). T (same u v)) e t)

      go : (v : V) × In v (others z vs) × ((y : V) → In y zs → T (same y v) → ⊥) → (v : V) × In v vs × ((y : V) → In y (z ∷ zs) → T (same y v) → ⊥)
      go (v, i, f) = (v, (of_kept (λ (u : V). not (same z u)) v vs i).0, λ y. ⊎_elim (no_other v i y) (f y))

  -- a value that none of the list means may get a new name
  pub apart_new : (v : V) (n : ℕ) (zs : List (V × ℕ)) → ((u : V) → In u (map value zs) → T (same u v) → ⊥) → Apart same zs → Apart same ((v, n) ∷ zs)
  apart_new v n zs h g y z (inl a) (inl b) t = ap named a ∙ sym (ap named b)
  apart_new v n zs h g y z (inl a) (inr j) t =
      absurd (h z.0 (in_map value z zs j) (eqv.back v z.0 (subst (λ (u : V). T (same u z.0)) (ap value a) t)))
  apart_new v n zs h g y z (inr i) (inl b) t =
      absurd (h y.0 (in_map value y zs i) (subst (λ (u : V). T (same y.0 u)) (ap value b) t))
  apart_new v n zs h g y z (inr i) (inr j) t = g y z i j t

  -- one that some element means gets that one's name
  pub apart_twin : (x u : V × ℕ) (zs : List (V × ℕ)) → In x zs → T (same x.0 u.0) → x.1 ≡ u.1 → Apart same zs → Apart same (u ∷ zs)
  apart_twin x u zs ix s e g y z (inl a) (inl b) t = ap named a ∙ sym (ap named b)
  apart_twin x u zs ix s e g y z (inl a) (inr j) t =
      ap named a ∙ sym e ∙ g x z ix j (eqv.through x.0 u.0 z.0 s (subst (λ (v : V). T (same v z.0)) (ap value a) t))
  apart_twin x u zs ix s e g y z (inr i) (inl b) t =
      sym (ap named b ∙ sym e ∙ g x y ix i (eqv.through x.0 u.0 y.0 s (eqv.back y.0 u.0 (subst (λ (v : V). T (same y.0 v)) (ap value b) t))))
  apart_twin x u zs ix s e g y z (inr i) (inr j) t = g y z i j t

  module _ (g h : PageModel) (fg : Fits g) (fh : Fits h) where
    shaped_after : (k : PageModel) → Fits k → (l : LineModel) → In l k.lines → (vs : List V) (v : V) → Shaped k (after l vs v)
    shaped_after k f l i vs v =
        let e = length-map l.sources (value_of vs v) in
        (e ∙ (f l i).sources, subst (λ (n : ℕ). n ≤ 4) (sym e) (f l i).few)

    module _ (p : Pair) (w : Places V) (i : Sharp same g h p w) where
      abbrev n : Instance (Apart same) p w
      n = i.names

      abbrev zs : List (V × ℕ)
      zs = i.names.ls ++ i.names.rs

      few : length (map value zs) < 9
      few =
          let a = length-map zs value in
          let b = length-append n.ls n.rs in
          let c = ap length n.left_values ∙ length-map n.ls value in
          let d = ap length n.right_values ∙ length-map n.rs value in
          let e = i.left.1 in
          let f = i.right.1 in
          omega (arith, a, b, c, d)

      -- the next pair is sharp too
      next : (l m : LineModel) → In l g.lines → In m h.lines → (y z : V × ℕ) →
          moved l p.lefts (fresh p) ≡ y.1 → moved m p.rights (fresh p) ≡ z.1 → Apart same (y ∷ (z ∷ zs)) →
          Sharp same g h (after_both p l m) (record { lefts = after l w.lefts.slots y.0; rights = after m w.rights.slots z.0 })
      next l m il im y z ey ez a =
          record {
            names = step (Apart same) (apart_steady same) p w n l m y z ey ez a;
            left = shaped_after g fg l il w.lefts.slots y.0;
            right = shaped_after h fh m im w.rights.slots z.0;
          }

      module _ (v : V) (new : (u : V) → In u (map value zs) → T (same u v) → ⊥) where
        abbrev x : V × ℕ
        x = (v, fresh p)

        all_apart : Apart same (x ∷ zs)
        all_apart = apart_new v (fresh p) zs new n.good

        in_lefts : (l : LineModel) → In (moved l n.ls x) (x ∷ zs)
        in_lefts l = ⊎_elim inl (λ j. inr (in_left _ n.ls n.rs j)) (in_moved l n.ls x)

        in_rights : (m : LineModel) → In (moved m n.rs x) (x ∷ zs)
        in_rights m = ⊎_elim inl (λ j. inr (in_right _ n.ls n.rs j)) (in_moved m n.rs x)

        -- where a reply's value means the challenge's, their names are equal
        one_name : (c d : LineModel) (xs ys : List (V × ℕ)) → ((z : V × ℕ) → In z xs → In z zs) → ((z : V × ℕ) → In z ys → In z zs) → (u : V) →
            shows c.kind ≡ shows d.kind → shown_stands d.kind (length ys) ≡ true →
            T (same (moved c xs x).0 (moved d ys (u, fresh p)).0) → (moved c xs x).1 ≡ (moved d ys (u, fresh p)).1
        one_name c d xs ys inx iny u e = go c.kind d.kind e
          where
            go : (a b : LineKind) → shows a ≡ shows b → shown_stands b (length ys) ≡ true →
                T (same (moved_by a xs x).0 (moved_by b ys (u, fresh p)).0) → (moved_by a xs x).1 ≡ (moved_by b ys (u, fresh p)).1
            go Take Take q r s = refl
            go Take (Show t) q r s = absurd (false≢true q)
            go (Show t) Take q r s = absurd (false≢true (sym q))
            go (Show t) (Show o) q r s =
                all_apart _ _ (⊎_elim inl (λ j. inr (inx _ j)) (in_get_or xs t.0 x)) (inr (iny _ (in_range ys o.0 (u, fresh p) (ltb-true o.0 (length ys) r)))) s

        -- a concrete reply to a left challenge is a reply at the pair
        left_reply : (l : LineModel) → In l g.lines → l.from ≡ p.left → (w' : Places V) → w'.lefts ≡ after l w.lefts.slots (moved l w.lefts.slots v) →
            (b : Act V) → Moves h w.rights b w'.rights → Alike same (record { shows = shows l.kind; port = l.port; value = moved l w.lefts.slots v }) b →
            (p' : Pair) × In p' (replies g h p Left l) × Sharp same g h p' w'
        left_reply l il lv w' e b (m, im, leaves, kind, port, mv, to) al = (
          after_both p l m,
          in_map (λ (k : LineModel). after_both p l k) m (filter (λ (k : LineModel). meets p l k) h.lines)
              (in_kept (λ (k : LineModel). meets p l k) m h.lines im (→meets p l m met)),
          subst (Sharp same g h (after_both p l m)) (sym here) (next l m il im y z (left_name (Apart same) p w n l v) (right_name (Apart same) p w n m b.value) apart),
        )
          where
            y : V × ℕ
            y = moved l n.ls x

            z : V × ℕ
            z = moved m n.rs (b.value, fresh p)

            ey : moved l w.lefts.slots v ≡ y.0
            ey = left_moved (Apart same) p w n l v

            ez : b.value ≡ z.0
            ez = sym mv ∙ right_moved (Apart same) p w n m b.value

            means : T (same y.0 z.0)
            means = subst (λ (u : V). T (same u z.0)) ey (subst (λ (u : V). T (same (moved l w.lefts.slots v) u)) ez al.value)

            kinds : shows l.kind ≡ shows m.kind
            kinds = al.shows ∙ sym kind

            range : shown_stands m.kind (length n.rs) ≡ true
            range =
                let c = ap length n.right_values ∙ length-map n.rs value in
                let d = i.right.0 in
                let f = ap (arity h) leaves in
                let same_length : arity h m.from ≡ length n.rs = omega (arith, c, d, f) in
                subst (λ (k : ℕ). shown_stands m.kind k ≡ true) same_length (fh m im).shown

            names : y.1 ≡ z.1
            names = one_name l m n.ls n.rs (λ k j. in_left k n.ls n.rs j) (λ k j. in_right k n.ls n.rs j) b.value kinds range means

            met : Meet p l m
            met =
                record {
                  left = lv;
                  right = leaves ∙ sym n.right;
                  kind = kinds;
                  port = al.port ∙ sym port;
                  name = left_name (Apart same) p w n l v ∙ names ∙ sym (right_name (Apart same) p w n m b.value);
                }

            here : w' ≡ record { lefts = after l w.lefts.slots y.0; rights = after m w.rights.slots z.0 }
            here = λ k. record { lefts = (e ∙ ap (after l w.lefts.slots) ey) k; rights = (to ∙ ap (after m w.rights.slots) ez) k }

            apart : Apart same (y ∷ (z ∷ zs))
            apart =
                (apart_steady same).part (z ∷ (x ∷ zs)) (y ∷ (z ∷ zs)) among
                (apart_twin y z (x ∷ zs) (in_lefts l) means names all_apart)
              where
                among : (u : V × ℕ) → In u (y ∷ (z ∷ zs)) → In u (z ∷ (x ∷ zs))
                among u (inl q) = inr (subst (λ (k : V × ℕ). In k (x ∷ zs)) (sym q) (in_lefts l))
                among u (inr (inl q)) = inl q
                among u (inr (inr j)) = inr (inr j)

        right_reply : (m : LineModel) → In m h.lines → m.from ≡ p.right → (w' : Places V) → w'.rights ≡ after m w.rights.slots (moved m w.rights.slots v) →
            (b : Act V) → Moves g w.lefts b w'.lefts → Alike same (record { shows = shows m.kind; port = m.port; value = moved m w.rights.slots v }) b →
            (p' : Pair) × In p' (replies g h p Right m) × Sharp same g h p' w'
        right_reply m im mv' w' e b (l, il, leaves, kind, port, mv, to) al = (
          after_both p l m,
          in_map (λ (k : LineModel). after_both p k m) l (filter (λ (k : LineModel). meets p k m) g.lines)
              (in_kept (λ (k : LineModel). meets p k m) l g.lines il (→meets p l m met)),
          subst (Sharp same g h (after_both p l m)) (sym here) (next l m il im y z (left_name (Apart same) p w n l b.value) (right_name (Apart same) p w n m v) apart),
        )
          where
            y : V × ℕ
            y = moved l n.ls (b.value, fresh p)

            z : V × ℕ
            z = moved m n.rs x

            ey : b.value ≡ y.0
            ey = sym mv ∙ left_moved (Apart same) p w n l b.value

            ez : moved m w.rights.slots v ≡ z.0
            ez = right_moved (Apart same) p w n m v

            means : T (same z.0 y.0)
            means = subst (λ (u : V). T (same u y.0)) ez (subst (λ (u : V). T (same (moved m w.rights.slots v) u)) ey al.value)

            kinds : shows m.kind ≡ shows l.kind
            kinds = al.shows ∙ sym kind

            range : shown_stands l.kind (length n.ls) ≡ true
            range =
                let c = ap length n.left_values ∙ length-map n.ls value in
                let d = i.left.0 in
                let f = ap (arity g) leaves in
                let same_length : arity g l.from ≡ length n.ls = omega (arith, c, d, f) in
                subst (λ (k : ℕ). shown_stands l.kind k ≡ true) same_length (fg l il).shown

            names : z.1 ≡ y.1
            names = one_name m l n.rs n.ls (λ k j. in_right k n.ls n.rs j) (λ k j. in_left k n.ls n.rs j) b.value kinds range means

            met : Meet p l m
            met =
                record {
                  left = leaves ∙ sym n.left;
                  right = mv';
                  kind = sym kinds;
                  port = port ∙ sym al.port;
                  name = left_name (Apart same) p w n l b.value ∙ sym names ∙ sym (right_name (Apart same) p w n m v);
                }

            here : w' ≡ record { lefts = after l w.lefts.slots y.0; rights = after m w.rights.slots z.0 }
            here = λ k. record { lefts = (to ∙ ap (after l w.lefts.slots) ey) k; rights = (e ∙ ap (after m w.rights.slots) ez) k }

            apart : Apart same (y ∷ (z ∷ zs))
            apart =
                (apart_steady same).part (y ∷ (x ∷ zs)) (y ∷ (z ∷ zs)) among
                (apart_twin z y (x ∷ zs) (in_rights m) means names all_apart)
              where
                among : (u : V × ℕ) → In u (y ∷ (z ∷ zs)) → In u (y ∷ (x ∷ zs))
                among u (inl q) = inl q
                among u (inr (inl q)) = inr (subst (λ (k : V × ℕ). In k (x ∷ zs)) (sym q) (in_rights m))
                among u (inr (inr j)) = inr (inr j)

    module _ (r : Rule) (purse : List V) (different : Different same purse) (nine : length purse ≡ 9) where
      forces_by : (p : Pair) (w : Places V) (i : Sharp same g h p w) → (s : Side) (ok : T (asks r s)) →
          (c : (l : LineModel) × In l (lines_of (side_of g h s) (side_of p.left p.right s))) →
          (d : (PlaceMatch same r g h).Challenge w) × ((w' : Places V) → (PlaceMatch same r g h).Reply w d w' →
          (p' : Pair) × (Match r g h).Reply p (s, ok, c) p' × Sharp same g h p' w')
      forces_by p w i Left ok (l, j) =
          let q = few p w i in
          let (v, iv, new) = unused (map value (i.names.ls ++ i.names.rs)) purse different (omega (arith, nine)) in
          let (il, t) = of_kept (λ (k : LineModel). eqb k.from p.left) l g.lines j in
          let lv : l.from ≡ p.left = eqb→eq _ _ t in (
            (
              Left,
              ok,
              (
                record { shows = shows l.kind; port = l.port; value = moved l w.lefts.slots v },
                after l w.lefts.slots (moved l w.lefts.slots v),
                (l, il, lv ∙ i.names.left, refl, refl, moved_again l w.lefts.slots v, refl),
              ),
            ),
            λ w' a. left_reply p w i v new l il lv w' a.0 a.1.0 a.1.1 a.1.2,
          )
      forces_by p w i Right ok (m, j) =
          let q = few p w i in
          let (v, iv, new) = unused (map value (i.names.ls ++ i.names.rs)) purse different (omega (arith, nine)) in
          let (im, t) = of_kept (λ (k : LineModel). eqb k.from p.right) m h.lines j in
          let lv : m.from ≡ p.right = eqb→eq _ _ t in (
            (
              Right,
              ok,
              (
                record { shows = shows m.kind; port = m.port; value = moved m w.rights.slots v },
                after m w.rights.slots (moved m w.rights.slots v),
                (m, im, lv ∙ i.names.right, refl, refl, moved_again m w.rights.slots v, refl),
              ),
            ),
            λ w' a. right_reply p w i v new m im lv w' a.0 a.1.0 a.1.1 a.1.2,
          )

      pub pairs_follow : Follows (PlaceMatch same r g h) (Match r g h) (λ w p. Sharp same g h p w)
      pairs_follow w p i d = forces_by p w i d.0 d.1 d.2
