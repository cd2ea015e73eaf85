-- A pair comes back from its code.
use Rattle.std.proofs.Common.{◌≡◌, ℕ, ◌+◌, ◌*◌, ◌/◌, ◌%◌, ◌^◌, ◌<◌, ◌≤◌, Bool, cond, not, ◌&&◌, T, eqb, List, [], ◌∷◌, ◌++◌, map, length, filter, sym, refl, ap, ◌∙◌, subst, inl, inr, arith, eqb→eq, ltb→lt, lt→ltb, length-append}
use lib.ListN.{length-map}
use lib.Dec.{eqb_refl}
use Rattle.std.proofs.Math.Facts.{yes_eqb}
use Rattle.std.specs.Bool.{passes}
use Rattle.std.specs.Cmp.Lexicographic.{bytes_decides}
use Rattle.std.proofs.lemmas.Bool.{ne_eqb, cond-true}
use Rattle.games.specs.Counts.{within}
use Rattle.games.specs.Meaning.{Challenge}
use Rattle.games.specs.declared.Side.{Side}
use Rattle.games.specs.declared.Side.TheVariants.{Left, Right}
use Rattle.pages.specs.Model.{PageModel, LineModel}
use Rattle.programs.specs.Places.{In, carry, value_of, moved}
use Rattle.twins.proofs.Counts.{counted_recoded}
use Rattle.twins.proofs.Judged.{made}
use Rattle.twins.proofs.Lists.{in_left, in_right, of_map, of_kept}
use Rattle.twins.proofs.Logic.{and_both, and_make, yes}
use Rattle.twins.proofs.Names.{numbers}
use Rattle.twins.proofs.Naming.{normal_again, names_small}
use Rattle.twins.specs.Codes.{four, code, names_of, Few, Small, Decodes, same_list, usable, recoded, coded, CodesCount}
use Rattle.twins.specs.Fits.{Fits, Sized, arity}
use Rattle.twins.specs.Naming.{name}
use Rattle.twins.specs.Pairs.{Pair, Rule, after_both, meets, fresh, replies, side_of}
use Rattle.twins.specs.Positions.{meaning}

abbrev pub used : ℕ → Bool
used d = not (eqb d 15)

-- names are kept
pub kept : (ns ds : List ℕ) → ((n : ℕ) → In n ns → n < 15) → filter used (ns ++ ds) ≡ ns ++ filter used ds
kept [] ds h = refl
kept (n ∷ ns) ds h =
    let hn = h n (inl refl) in
    rw (ne_eqb n 15 (λ e. omega (arith, e))) (ap (λ (t : List ℕ). n ∷ t) (kept ns ds (λ m i. h m (inr i))))

-- the four digits of a number
abbrev digits : ℕ → List ℕ
digits m = m / 4096 ∷ (m / 256 % 16 ∷ (m / 16 % 16 ∷ (m % 16 ∷ [])))

digits_four : (a b c d : ℕ) → a < 16 → b < 16 → c < 16 → d < 16 → digits (((a * 16 + b) * 16 + c) * 16 + d) ≡ a ∷ (b ∷ (c ∷ (d ∷ [])))
digits_four a b c d ha hb hc hd =
    let n : ℕ = ((a * 16 + b) * 16 + c) * 16 + d in
    let e0 : n / 4096 ≡ a = omega arith in
    let e1 : n / 256 % 16 ≡ b = omega arith in
    let e2 : n / 16 % 16 ≡ c = omega arith in
    let e3 : n % 16 ≡ d = omega arith in
    λ i. e0 i ∷ (e1 i ∷ (e2 i ∷ (e3 i ∷ [])))

pub four_small : (ns : List ℕ) → Few ns → four ns < 2 ^ 16
four_small [] h = omega arith
four_small (a ∷ []) (l, h) = let ha = h a (inl refl) in omega arith
four_small (a ∷ (b ∷ [])) (l, h) = let ha = h a (inl refl) in let hb = h b (inr (inl refl)) in omega arith
four_small (a ∷ (b ∷ (c ∷ []))) (l, h) = let ha = h a (inl refl) in let hb = h b (inr (inl refl)) in let hc = h c (inr (inr (inl refl))) in omega arith
four_small (a ∷ (b ∷ (c ∷ (d ∷ [])))) (l, h) =
    let ha = h a (inl refl) in let hb = h b (inr (inl refl)) in let hc = h c (inr (inr (inl refl))) in let hd = h d (inr (inr (inr (inl refl)))) in omega arith
four_small (a ∷ (b ∷ (c ∷ (d ∷ (e ∷ ns))))) (l, h) = absurd (omega (arith, l))

pub names_four : (ns : List ℕ) → Few ns → names_of (four ns) ≡ ns
names_four [] h = refl
names_four (a ∷ []) (l, h) =
    let ha = h a (inl refl) in
    ap (filter used) (digits_four a 15 15 15 (omega arith) (omega arith) (omega arith) (omega arith)) ∙ kept (a ∷ []) (15 ∷ (15 ∷ (15 ∷ []))) h
names_four (a ∷ (b ∷ [])) (l, h) =
    let ha = h a (inl refl) in let hb = h b (inr (inl refl)) in
    ap (filter used) (digits_four a b 15 15 (omega arith) (omega arith) (omega arith) (omega arith)) ∙ kept (a ∷ (b ∷ [])) (15 ∷ (15 ∷ [])) h
names_four (a ∷ (b ∷ (c ∷ []))) (l, h) =
    let ha = h a (inl refl) in let hb = h b (inr (inl refl)) in let hc = h c (inr (inr (inl refl))) in
    ap (filter used) (digits_four a b c 15 (omega arith) (omega arith) (omega arith) (omega arith)) ∙ kept (a ∷ (b ∷ (c ∷ []))) (15 ∷ []) h
names_four (a ∷ (b ∷ (c ∷ (d ∷ [])))) (l, h) =
    let ha = h a (inl refl) in let hb = h b (inr (inl refl)) in let hc = h c (inr (inr (inl refl))) in let hd = h d (inr (inr (inr (inl refl)))) in
    ap (filter used) (digits_four a b c d (omega arith) (omega arith) (omega arith) (omega arith)) ∙ kept (a ∷ (b ∷ (c ∷ (d ∷ [])))) [] h
names_four (a ∷ (b ∷ (c ∷ (d ∷ (e ∷ ns))))) (l, h) = absurd (omega (arith, l))

pub decodes : Decodes
decodes p s =
    let hl = s.left in
    let hr = s.right in
    let ha = four_small p.lefts s.lefts in
    let hb = four_small p.rights s.rights in
    let el : code p / 2 ^ 37 ≡ p.left = omega arith in
    let er : code p / 2 ^ 32 % 32 ≡ p.right = omega arith in
    let ea : code p / 2 ^ 16 % 2 ^ 16 ≡ four p.lefts = omega arith in
    let eb : code p % 2 ^ 16 ≡ four p.rights = omega arith in
    λ i. record {
      left = el i;
      right = er i;
      lefts = (ap names_of ea ∙ names_four p.lefts s.lefts) i;
      rights = (ap names_of eb ∙ names_four p.rights s.rights) i;
    }

pub same_list→ : (ms ns : List ℕ) → T (same_list ms ns) → ms ≡ ns
same_list→ ms ns t = (bytes_decides ms ns).0 (yes _ t)

pub same_list_from : {ms ns : List ℕ} → ms ≡ ns → T (same_list ms ns)
same_list_from {ms} {ns} e = passes _ ((bytes_decides ms ns).1 e)

module _ (g h : PageModel) where
  -- what the test says
  pub record Usable (p : Pair) : Type 0 where
    pub left : p.left < length g.screens
    pub right : p.right < length h.screens
    pub lefts : length p.lefts ≡ arity g p.left
    pub rights : length p.rights ≡ arity h p.right
    pub left_normal : map (name eqb (p.lefts ++ p.rights)) p.lefts ≡ p.lefts
    pub right_normal : map (name eqb (p.lefts ++ p.rights)) p.rights ≡ p.rights

  pub usable→ : (p : Pair) → T (usable g h p) → Usable p
  usable→ p t =
      let (a, t1) = and_both _ _ t in
      let (b, t2) = and_both _ _ t1 in
      let (c, t3) = and_both _ _ t2 in
      let (d, t4) = and_both _ _ t3 in
      let (e, f) = and_both _ _ t4 in
      record {
        left = ltb→lt _ _ a;
        right = ltb→lt _ _ b;
        lefts = eqb→eq _ _ c;
        rights = eqb→eq _ _ d;
        left_normal = same_list→ _ _ e;
        right_normal = same_list→ _ _ f;
      }

  pub →usable : (p : Pair) → Usable p → T (usable g h p)
  →usable p u =
      and_make _ _ (lt→ltb _ _ u.left) (and_make _ _ (lt→ltb _ _ u.right)
      (and_make _ _ (yes_eqb u.lefts) (and_make _ _ (yes_eqb u.rights)
      (and_make _ _ (same_list_from u.left_normal) (same_list_from u.right_normal)))))

  module _ (fg : Fits g) (fh : Fits h) (zg : Sized g) (zh : Sized h) where
    pub usable_small : (p : Pair) → Usable p → Small p
    usable_small p u =
        record {
          left = let a = u.left in let b = zg.0 in omega arith;
          right = let a = u.right in let b = zh.0 in omega arith;
          lefts = (l4, λ n i. few n p.lefts u.left_normal (λ k j. in_left k p.lefts p.rights j) i);
          rights = (r4, λ n i. few n p.rights u.right_normal (λ k j. in_right k p.lefts p.rights j) i);
        }
      where
        l4 : length p.lefts ≤ 4
        l4 = let a = u.lefts in let b = zg.1 p.left in omega arith

        r4 : length p.rights ≤ 4
        r4 = let a = u.rights in let b = zh.1 p.right in omega arith

        few : (n : ℕ) (ns : List ℕ) → map (name eqb (p.lefts ++ p.rights)) ns ≡ ns → ((k : ℕ) → In k ns → In k (p.lefts ++ p.rights)) → In n ns → n < 15
        few n ns e sub i =
            let (k, j, q) = of_map (name eqb (p.lefts ++ p.rights)) n ns (subst (In n) (sym e) i) in
            let a = names_small (p.lefts ++ p.rights) k (sub k j) in
            let b = length-append p.lefts p.rights in
            let c = l4 in
            let d = r4 in
            omega (arith, q, a, b, c, d)

    pub usable_next : (p : Pair) (l m : LineModel) → In l g.lines → In m h.lines → Usable (after_both p l m)
    usable_next p l m il im =
        record {
          left = (fg l il).exists;
          right = (fh m im).exists;
          lefts = length-map A (name eqb (A ++ B)) ∙ length-map l.sources (value_of p.lefts (moved l p.lefts (fresh p))) ∙ (fg l il).sources;
          rights = length-map B (name eqb (A ++ B)) ∙ length-map m.sources (value_of p.rights (moved m p.rights (fresh p))) ∙ (fh m im).sources;
          left_normal = ap (λ (q : Pair). q.lefts) (normal_again ℕ eqb numbers l.next m.next A B);
          right_normal = ap (λ (q : Pair). q.rights) (normal_again ℕ eqb numbers l.next m.next A B);
        }
      where
        A : List ℕ
        A = carry p.lefts (moved l p.lefts (fresh p)) l.sources

        B : List ℕ
        B = carry p.rights (moved m p.rights (fresh p)) m.sources

    pub reply_usable : (p y : Pair) (s : Side) (l : LineModel) → In y (replies g h p s l) → In l (side_of g h s).lines → Usable y
    reply_usable p y Left l i il =
        let (m, j, e) = of_map (λ (m : LineModel). after_both p l m) y (filter (λ (m : LineModel). meets p l m) h.lines) i in
        subst Usable (sym e) (usable_next p l m il (of_kept (λ (m : LineModel). meets p l m) m h.lines j).0)
    reply_usable p y Right m i im =
        let (l, j, e) = of_map (λ (l : LineModel). after_both p l m) y (filter (λ (l : LineModel). meets p l m) g.lines) i in
        subst Usable (sym e) (usable_next p l m (of_kept (λ (l : LineModel). meets p l m) l g.lines j).0 im)

    pub codes_count : (r : Rule) (p : Pair) → T (usable g h p) → (n : ℕ) → within (coded r g h) n (code p) ≡ within (meaning r g h) n p
    codes_count r p t n = counted_recoded (meaning r g h) (coded r g h) code Usable same closed n p (usable→ p t)
      where
        same : (q : Pair) → Usable q → coded r g h (code q) ≡ map (recoded code) (meaning r g h q)
        same q u =
            subst (λ (k : Pair). cond (eqb (code k) (code q) && usable g h k) (map (recoded code) (meaning r g h k)) [] ≡ map (recoded code) (meaning r g h q))
            (sym (decodes q (usable_small q u)))
            (cond-true _ _ _ (yes _ (and_make _ _ (eqb_refl (code q)) (→usable q u))))

        closed : (q : Pair) → Usable q → (c : Challenge Pair) → In c (meaning r g h q) → (y : Pair) → In y c.replies → Usable y
        closed q u c i y j =
            let (d, e) = made g h q r c i in
            reply_usable q y d.0 d.2.0 (subst (In y) e j)
            (of_kept (λ (k : LineModel). eqb k.from (side_of q.left q.right d.0)) d.2.0 (side_of g h d.0).lines d.2.1).0

pub codes_counts : CodesCount
codes_counts r g h fg fh zg zh p t n = codes_count g h fg fh zg zh r p t n
