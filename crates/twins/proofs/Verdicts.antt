-- What the verdicts mean, from what one step of both places does.
use Rattle.std.proofs.Common.{◌≡◌, ℕ, Bool, not, ◌||◌, T, eqb, List, [], ◌∷◌, ◌++◌, map, length, sym, refl, ap, ◌∙◌, subst, eqb→eq}
use lib.ListN.{length-map}
use Rattle.std.proofs.Math.Facts.{yes_eqb}
use Rattle.std.proofs.lemmas.Slice.Zip.{firsts-zip, seconds-zip}
use Rattle.games.specs.declared.Side.TheVariants.{Left, Right}
use Rattle.lists.specs.Every.{every, any}
use Rattle.pages.specs.Model.{PageModel}
use Rattle.programs.specs.Places.{In, Place}
use Rattle.twins.proofs.Follows.{places_follow}
use Rattle.twins.proofs.Forces.{pairs_follow}
use Rattle.twins.proofs.Games.{wins_unheld, follows_survives, follows_wins, follows_held}
use Rattle.twins.proofs.Logic.{and_both, and_make, of_all, to_all, of_any, to_any, implies, implied}
use Rattle.twins.proofs.Steps.{value, named}
use Rattle.twins.specs.Games.{Held}
use Rattle.twins.specs.Pairs.{Pair, Rule, asks, Match, both, left_only}
use Rattle.twins.specs.Twins.{Places, Instance, Stands, Sharp, PlaceMatch, Equivalence, beside, agree, describes}
use Rattle.twins.specs.Verdicts.{Answers, HeldRelates, SurvivesEverywhere, WinsEverywhere, WinsUnrelates}

module _ {V : Type 0} where
  pub beside_maps : (zs : List (V × ℕ)) → zs ≡ beside (map value zs) (map named zs)
  beside_maps [] = refl
  beside_maps (z ∷ zs) = ap (λ (l : List (V × ℕ)). z ∷ l) (beside_maps zs)

module _ {V : Type 0} (same : V → V → Bool) where
  pub of_agree : (zs : List (V × ℕ)) → T (agree same zs) → Stands same zs
  of_agree zs h y z i j e =
      implies _ _ (of_all (λ (u : V × ℕ). not (eqb y.1 u.1) || same y.0 u.0) zs
      (of_all (λ (x : V × ℕ). every (λ (u : V × ℕ). not (eqb x.1 u.1) || same x.0 u.0) zs) zs h y i) z j) (yes_eqb e)

  pub to_agree : (zs : List (V × ℕ)) → Stands same zs → T (agree same zs)
  to_agree zs g =
      to_all (λ (y : V × ℕ). every (λ (z : V × ℕ). not (eqb y.1 z.1) || same y.0 z.0) zs) zs
      (λ y i. to_all (λ (z : V × ℕ). not (eqb y.1 z.1) || same y.0 z.0) zs
      (λ z j. implied (eqb y.1 z.1) (same y.0 z.0) (λ t. g y z i j (eqb→eq _ _ t))))

  pub of_describes : (p : Pair) (w : Places V) → T (describes same p w.lefts w.rights) → Instance (Stands same) p w
  of_describes p w h =
      let (a, h1) = and_both _ _ h in
      let (b, h2) = and_both _ _ h1 in
      let (c, h3) = and_both _ _ h2 in
      let (d, h4) = and_both _ _ h3 in
      let ec : length p.lefts ≡ length w.lefts.slots = eqb→eq _ _ c in
      let ed : length p.rights ≡ length w.rights.slots = eqb→eq _ _ d in
      record {
        ls = beside w.lefts.slots p.lefts;
        rs = beside w.rights.slots p.rights;
        left = eqb→eq _ _ a;
        right = eqb→eq _ _ b;
        left_names = sym (seconds-zip w.lefts.slots p.lefts ec);
        right_names = sym (seconds-zip w.rights.slots p.rights ed);
        left_values = sym (firsts-zip w.lefts.slots p.lefts ec);
        right_values = sym (firsts-zip w.rights.slots p.rights ed);
        good = of_agree _ h4;
      }

  pub to_describes : (p : Pair) (w : Places V) → Instance (Stands same) p w → T (describes same p w.lefts w.rights)
  to_describes p w i =
      and_make _ _ (yes_eqb i.left) (and_make _ _ (yes_eqb i.right)
      (and_make _ _ (yes_eqb (ap length i.left_names ∙ length-map i.ls named ∙ sym (ap length i.left_values ∙ length-map i.ls value)))
      (and_make _ _ (yes_eqb (ap length i.right_names ∙ length-map i.rs named ∙ sym (ap length i.right_values ∙ length-map i.rs value)))
      (subst (λ (zs : List (V × ℕ)). T (agree same zs)) here (to_agree (i.ls ++ i.rs) i.good)))))
    where
      here : i.ls ++ i.rs ≡ beside w.lefts.slots p.lefts ++ beside w.rights.slots p.rights
      here = λ k. (beside_maps i.ls ∙ (λ j. beside (sym i.left_values j) (sym i.left_names j))) k
          ++ (beside_maps i.rs ∙ (λ j. beside (sym i.right_values j) (sym i.right_names j))) k

  module _ (r : Rule) (g h : PageModel) where
    pub answers_held : (R : Place V → Place V → Type 0) → Answers same r g h R → Held (PlaceMatch same r g h) (λ w. R w.lefts w.rights)
    answers_held R a w j (Left, ok, (c, q, m)) =
        let (b, q', n, al, k) = a.lefts w.lefts w.rights j c q m in (record { lefts = q; rights = q' }, (refl, (b, n, al)), k)
    answers_held R a w j (Right, ok, (c, q, m)) =
        let (b, q', n, al, k) = a.rights ok w.lefts w.rights j c q m in (record { lefts = q'; rights = q }, (refl, (b, n, al)), k)

    pub held_answers : (R : Place V → Place V → Type 0) → Held (PlaceMatch same r g h) (λ w. R w.lefts w.rights) → Answers same r g h R
    held_answers R a =
        record {
          lefts = λ p q j c p' m.
              let (w', (e, (b, n, al)), k) = a (record { lefts = p; rights = q }) j (Left, ok_left r, (c, p', m)) in
              (b, w'.rights, n, al, subst (λ (x : Place V). R x w'.rights) e k);
          rights = λ ok p q j c q' m.
              let (w', (e, (b, n, al)), k) = a (record { lefts = p; rights = q }) j (Right, ok, (c, q', m)) in
              (b, w'.lefts, n, al, subst (λ (x : Place V). R w'.lefts x) e k);
        }
      where
        ok_left : (u : Rule) → T (asks u Left)
        ok_left both = tt
        ok_left left_only = tt

  module _ (eqv : Equivalence same) where
    pub held_relates : HeldRelates same
    held_relates r g h p S held here w i = (
      R,
      to_any (λ (q : Pair). describes same q w.lefts w.rights) S p here (to_describes p w i),
      held_answers r g h (λ a b. T (R a b)) (λ u j c.
          let (q, iq, d) = of_any (λ (q : Pair). describes same q u.lefts u.rights) S j in
          let (u', rep, (q', iq', i')) =
          follows_held (Match r g h) (PlaceMatch same r g h) (Instance (Stands same)) (places_follow same eqv r g h) (λ q. In q S) held
          u (q, iq, of_describes q u d) c in
          (u', rep, to_any (λ (q : Pair). describes same q u'.lefts u'.rights) S q' iq' (to_describes q' u' i'))),
    )
      where
        R : Place V → Place V → Bool
        R a b = any (λ q. describes same q a b) S

    pub survives_everywhere : SurvivesEverywhere same
    survives_everywhere r g h p n sv w i =
        follows_survives (Match r g h) (PlaceMatch same r g h) (Instance (Stands same)) (places_follow same eqv r g h) n p w i sv

    pub wins_everywhere : WinsEverywhere same
    wins_everywhere r g h fg fh p w i purse dif nine n win =
        follows_wins (PlaceMatch same r g h) (Match r g h) (λ u q. Sharp same g h q u) (pairs_follow same eqv g h fg fh r purse dif nine) n w p i win

    pub wins_unrelates : (R : Place V → Place V → Type 0) → WinsUnrelates same R
    wins_unrelates R r g h fg fh p w i purse dif nine n win joins answers =
        wins_unheld (PlaceMatch same r g h) (λ u. R u.lefts u.rights) (answers_held r g h R answers) n w
        (wins_everywhere r g h fg fh p w i purse dif nine n win) joins
