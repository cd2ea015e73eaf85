-- The match of two pages as lists is the match of their lines; so what counts say holds at places.
use Rattle.std.proofs.Common.{◌≡◌, zero, suc, Bool, not, T, ◌⊎◌, List, ◌++◌, map, filter, sym, refl, ap, subst, inl, inr, ⊎_elim}
use Rattle.pages.specs.Model.{PageModel, LineModel}
use Rattle.programs.specs.Places.{In, Place}
use Rattle.games.specs.declared.Side.TheVariants.{Left, Right}
use Rattle.games.specs.Meaning.{Challenge}
use Rattle.games.specs.Counts.{within}
use Rattle.games.specs.LeftOnly.{is_left}
use Rattle.twins.specs.Games.{Held, Follows}
use Rattle.twins.specs.Pairs.{Pair, Rule, both, left_only, Match, PairChallenge, lines_of, replies}
use Rattle.twins.specs.Positions.{game_of, meaning}
use Rattle.twins.specs.Twins.{PlaceMatch, Equivalence}
use Rattle.twins.specs.Judged.{HoldsMeans, FailsMeans, FailsUnrelates}
use Rattle.twins.proofs.Lists.{in_left, in_right, in_either, in_map, of_map, of_kept, in_kept}
use Rattle.twins.proofs.Games.{follows_survives, follows_wins, follows_held}
use Rattle.twins.proofs.Verdicts.{held_relates, survives_everywhere, wins_everywhere, wins_unrelates}
use Rattle.twins.proofs.Counts.{exactly, count_exactly, settled}

module _ (g h : PageModel) (p : Pair) where
  abbrev by_left : LineModel → Challenge Pair
  by_left l = record { side = Left; replies = replies g h p Left l }

  abbrev by_right : LineModel → Challenge Pair
  by_right l = record { side = Right; replies = replies g h p Right l }

  abbrev by_lefts : List (Challenge Pair)
  by_lefts = map by_left (lines_of g p.left)

  abbrev by_rights : List (Challenge Pair)
  by_rights = map by_right (lines_of h p.right)

  -- a line that may challenge is a challenge of the list
  listed : (r : Rule) (c : PairChallenge r g h p) → (d : Challenge Pair) × In d (meaning r g h p) × (d.replies ≡ replies g h p c.0 c.2.0)
  listed both (Left, ok, (l, i)) = (by_left l, in_left (by_left l) by_lefts by_rights (in_map by_left l (lines_of g p.left) i), refl)
  listed both (Right, ok, (l, i)) = (by_right l, in_right (by_right l) by_lefts by_rights (in_map by_right l (lines_of h p.right) i), refl)
  listed left_only (Left, ok, (l, i)) = (
    by_left l,
    in_kept (λ (c : Challenge Pair). is_left c.side) (by_left l) (by_lefts ++ by_rights) (in_left (by_left l) by_lefts by_rights (in_map by_left l (lines_of g p.left) i)) tt,
    refl,
  )
  listed left_only (Right, ok, (l, i)) = absurd ok

  -- a challenge of the list is made by a line
  unlisted : (d : Challenge Pair) → In d (by_lefts ++ by_rights) →
      ((l : LineModel) × In l (lines_of g p.left) × (d ≡ by_left l)) ⊎ ((l : LineModel) × In l (lines_of h p.right) × (d ≡ by_right l))
  unlisted d i = ⊎_elim (λ j. inl (of_map by_left d (lines_of g p.left) j)) (λ j. inr (of_map by_right d (lines_of h p.right) j)) (in_either d by_lefts by_rights i)

  pub made : (r : Rule) (d : Challenge Pair) → In d (meaning r g h p) → (c : PairChallenge r g h p) × (d.replies ≡ replies g h p c.0 c.2.0)
  made both d i =
      ⊎_elim (λ (l, j, e). ((Left, tt, (l, j)), ap (λ (c : Challenge Pair). c.replies) e))
      (λ (l, j, e). ((Right, tt, (l, j)), ap (λ (c : Challenge Pair). c.replies) e)) (unlisted d i)
  made left_only d i =
      let (j, t) = of_kept (λ (c : Challenge Pair). is_left c.side) d (by_lefts ++ by_rights) i in
      ⊎_elim (λ (l, k, e). ((Left, tt, (l, k)), ap (λ (c : Challenge Pair). c.replies) e))
      (λ (l, k, e). absurd (subst (λ (c : Challenge Pair). T (is_left c.side)) e t)) (unlisted d j)

module _ (r : Rule) (g h : PageModel) where
  pub match_follows : Follows (game_of (meaning r g h)) (Match r g h) (λ p q. p ≡ q)
  match_follows p q e d =
      let (c, i, k) = listed g h q r d in
      ((c, subst (λ (x : Pair). In c (meaning r g h x)) (sym e) i), λ x j. (x, subst (In x) k j, refl))

  pub list_follows : Follows (Match r g h) (game_of (meaning r g h)) (λ p q. p ≡ q)
  list_follows p q e d =
      let (c, k) = made g h p r d.0 (subst (λ (x : Pair). In d.0 (meaning r g h x)) (sym e) d.1) in
      (c, λ x j. (x, subst (In x) (sym k) j, refl))

module _ {V : Type 0} (same : V → V → Bool) (eqv : Equivalence same) where
  pub fails_means : FailsMeans same
  fails_means r g h fg fh p w stands sharp purse dif nine zero c = absurd c
  fails_means r g h fg fh p w stands sharp purse dif nine (suc n) c =
      let (wins, lives) = count_exactly (meaning r g h) n p c in
      exactly (PlaceMatch same r g h) n w
      (wins_everywhere same eqv r g h fg fh p w sharp purse dif nine (suc n)
      (follows_wins (Match r g h) (game_of (meaning r g h)) (λ p q. p ≡ q) (list_follows r g h) (suc n) p p refl wins))
      (survives_everywhere same eqv r g h p n
      (follows_survives (game_of (meaning r g h)) (Match r g h) (λ p q. p ≡ q) (match_follows r g h) n p p refl lives) w stands)

  pub fails_unrelates : (R : Place V → Place V → Type 0) → FailsUnrelates same R
  fails_unrelates R r g h fg fh p w sharp purse dif nine zero c = absurd c
  fails_unrelates R r g h fg fh p w sharp purse dif nine (suc n) c =
      wins_unrelates same eqv R r g h fg fh p w sharp purse dif nine (suc n)
      (follows_wins (Match r g h) (game_of (meaning r g h)) (λ p q. p ≡ q) (list_follows r g h) (suc n) p p refl
      (count_exactly (meaning r g h) n p c).0)

  pub holds_means : HoldsMeans same
  holds_means r g h p L n closed still here free-here w stands =
      held_relates same eqv r g h p (filter free L) held (in_kept free p L here free-here) w stands
    where
      free : Pair → Bool
      free q = not (within (meaning r g h) n q)

      held : Held (Match r g h) (λ q. In q (filter free L))
      held q i c =
          let (il, f) = of_kept free q L i in
          let (q', rep, (p', (il', f'), e)) =
          follows_held (game_of (meaning r g h)) (Match r g h) (λ p q. p ≡ q) (match_follows r g h) (λ p. In p L × T (free p))
          (settled (meaning r g h) L closed n still) q (q, (il, f), refl) c in
          (q', rep, subst (λ (x : Pair). In x (filter free L)) e (in_kept free p' L il' f'))
