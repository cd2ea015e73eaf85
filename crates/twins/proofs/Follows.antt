-- The match at places follows the match at pairs.
use Rattle.std.proofs.Common.{◌≡◌, ℕ, ◌<◌, Bool, T, eqb, List, ◌∷◌, ◌++◌, map, filter, sym, refl, ap, ◌∙◌, subst, inl, inr, ⊎_elim, arith, eqb→eq}
use Rattle.std.proofs.Math.Facts.{yes_eqb}
use Rattle.std.specs.Bool.{passes}
use Rattle.std.specs.Cmp.{booleans_Decides}
use Rattle.std.proofs.lemmas.List.{map-append}
use Rattle.games.specs.declared.Side.{Side}
use Rattle.games.specs.declared.Side.TheVariants.{Left, Right}
use Rattle.pages.specs.declared.Port.{Port}
use Rattle.twins.proofs.Logic.{and_both, and_make, yes}
use Rattle.pages.specs.Model.{LineModel, PageModel}
use Rattle.programs.specs.Places.{In, Place, Act, Moves, after, moved, shows}
use Rattle.twins.proofs.Lists.{in_left, in_right, in_map, of_map, in_moved, moved_map, moved_again, below_above, of_kept, in_kept}
use Rattle.twins.proofs.Steps.{value, named, Steady, stands_steady, step}
use Rattle.twins.specs.Games.{Follows}
use Rattle.twins.specs.Pairs.{Pair, after_both, fresh, above, meets, Rule, asks, Match, PairChallenge, side_of}
use Rattle.twins.specs.Twins.{Places, Instance, Stands, PlaceMatch, Equivalence, place_at}

-- what it says that two lines meet
pub record Meet (p : Pair) (l m : LineModel) : Type 0 where
  pub left : l.from ≡ p.left
  pub right : m.from ≡ p.right
  pub kind : shows l.kind ≡ shows m.kind
  pub port : l.port ≡ m.port
  pub name : moved l p.lefts (fresh p) ≡ moved m p.rights (fresh p)

pub meets→ : (p : Pair) (l m : LineModel) → T (meets p l m) → Meet p l m
meets→ p l m t =
    let a = and_both _ _ t in
    let b = and_both _ _ a.1 in
    let c = and_both _ _ b.1 in
    let d = and_both _ _ c.1 in
    record {
      left = eqb→eq _ _ a.0;
      right = eqb→eq _ _ b.0;
      kind = (booleans_Decides _ _).0 (yes _ c.0);
      port = let mk : ℕ → Port = λ n. record { 0 = n } in ap mk (eqb→eq l.port.0 m.port.0 d.0);
      name = eqb→eq _ _ d.1;
    }

pub →meets : (p : Pair) (l m : LineModel) → Meet p l m → T (meets p l m)
→meets p l m h =
    and_make _ _ (yes_eqb h.left) (and_make _ _ (yes_eqb h.right)
    (and_make _ _ (passes _ ((booleans_Decides _ _).1 h.kind))
    (and_make _ _ (yes_eqb (ap (λ (q : Port). q.0) h.port)) (yes_eqb h.name))))

module _ {V : Type 0} (Good : List (V × ℕ) → Type 0) (p : Pair) (w : Places V) (i : Instance Good p w) where
  pub names_below : (z : V × ℕ) → In z (i.ls ++ i.rs) → z.1 < fresh p
  names_below z j =
      subst (λ (ns : List ℕ). z.1 < above ns)
      (map-append named i.ls i.rs ∙ sym (λ k. i.left_names k ++ i.right_names k))
      (below_above z.1 (map named (i.ls ++ i.rs)) (in_map named z (i.ls ++ i.rs) j))

  pub left_moved : (l : LineModel) (v : V) → moved l w.lefts.slots v ≡ (moved l i.ls (v, fresh p)).0
  left_moved l v = ap (λ (s : List V). moved l s v) i.left_values ∙ moved_map l value i.ls (v, fresh p)

  pub right_moved : (m : LineModel) (v : V) → moved m w.rights.slots v ≡ (moved m i.rs (v, fresh p)).0
  right_moved m v = ap (λ (s : List V). moved m s v) i.right_values ∙ moved_map m value i.rs (v, fresh p)

  pub left_name : (l : LineModel) (v : V) → moved l p.lefts (fresh p) ≡ (moved l i.ls (v, fresh p)).1
  left_name l v = ap (λ (s : List ℕ). moved l s (fresh p)) i.left_names ∙ moved_map l named i.ls (v, fresh p)

  pub right_name : (m : LineModel) (v : V) → moved m p.rights (fresh p) ≡ (moved m i.rs (v, fresh p)).1
  right_name m v = ap (λ (s : List ℕ). moved m s (fresh p)) i.right_names ∙ moved_map m named i.rs (v, fresh p)

-- two lines that both places follow, with the value v or the values that they show
module _ {V : Type 0} (Good : List (V × ℕ) → Type 0) (steady : Steady Good) (p : Pair) (w : Places V) (i : Instance Good p w) (v : V) where
  abbrev pub new : V × ℕ
  new = (v, fresh p)

  abbrev pub then_places : (l m : LineModel) → Places V
  then_places l m =
      record { lefts = after l w.lefts.slots (moved l w.lefts.slots v); rights = after m w.rights.slots (moved m w.rights.slots v) }

  pub in_lefts : (l : LineModel) → In (moved l i.ls new) (new ∷ (i.ls ++ i.rs))
  in_lefts l = ⊎_elim inl (λ j. inr (in_left _ i.ls i.rs j)) (in_moved l i.ls new)

  pub in_rights : (m : LineModel) → In (moved m i.rs new) (new ∷ (i.ls ++ i.rs))
  in_rights m = ⊎_elim inl (λ j. inr (in_right _ i.ls i.rs j)) (in_moved m i.rs new)

  pub both_next : Good (new ∷ (i.ls ++ i.rs)) → (l m : LineModel) → Instance Good (after_both p l m) (then_places l m)
  both_next good l m =
      subst (λ (a : V). Instance Good (after_both p l m) (record { lefts = after l w.lefts.slots a; rights = after m w.rights.slots (moved m w.rights.slots v) }))
      (sym (left_moved Good p w i l v))
      (subst (λ (b : V). Instance Good (after_both p l m) (record { lefts = after l w.lefts.slots (moved l i.ls new).0; rights = after m w.rights.slots b }))
      (sym (right_moved Good p w i m v))
      (step Good steady p w i l m (moved l i.ls new) (moved m i.rs new)
      (left_name Good p w i l v) (right_name Good p w i m v)
      (steady.part (new ∷ (i.ls ++ i.rs)) (moved l i.ls new ∷ (moved m i.rs new ∷ (i.ls ++ i.rs))) among good)))
    where
      among : (z : V × ℕ) → In z (moved l i.ls new ∷ (moved m i.rs new ∷ (i.ls ++ i.rs))) → In z (new ∷ (i.ls ++ i.rs))
      among z (inl e) = subst (λ (u : V × ℕ). In u (new ∷ (i.ls ++ i.rs))) (sym e) (in_lefts l)
      among z (inr (inl e)) = subst (λ (u : V × ℕ). In u (new ∷ (i.ls ++ i.rs))) (sym e) (in_rights m)
      among z (inr (inr j)) = inr j

module _ {V : Type 0} (same : V → V → Bool) (eqv : Equivalence same) where
  -- any value may stand for a name that is above the others
  pub stands_more : (v : V) (zs : List (V × ℕ)) (n : ℕ) → ((z : V × ℕ) → In z zs → z.1 < n) → Stands same zs → Stands same ((v, n) ∷ zs)
  stands_more v zs n h g y z (inl a) (inl b) e =
      subst (λ (u : V). T (same u z.0)) (sym (ap value a)) (subst (λ (u : V). T (same v u)) (sym (ap value b)) (eqv.itself v))
  stands_more v zs n h g y z (inl a) (inr j) e = let k = h z j in let q = ap named a in absurd (omega (arith, q, e))
  stands_more v zs n h g y z (inr i) (inl b) e = let k = h y i in let q = ap named b in absurd (omega (arith, q, e))
  stands_more v zs n h g y z (inr i) (inr j) e = g y z i j e

  module _ (p : Pair) (w : Places V) (i : Instance (Stands same) p w) (v : V) where
    all_stand : Stands same ((v, fresh p) ∷ (i.ls ++ i.rs))
    all_stand = stands_more v (i.ls ++ i.rs) (fresh p) (names_below (Stands same) p w i) i.good

    -- two lines that meet move with values that mean the same
    pub meet_same : (l m : LineModel) → Meet p l m → T (same (moved l w.lefts.slots v) (moved m w.rights.slots v))
    meet_same l m h =
        subst (λ (u : V). T (same u (moved m w.rights.slots v))) (sym (left_moved (Stands same) p w i l v))
        (subst (λ (u : V). T (same (moved l i.ls (v, fresh p)).0 u)) (sym (right_moved (Stands same) p w i m v))
        (all_stand _ _ (in_lefts (Stands same) (stands_steady same) p w i v l) (in_rights (Stands same) (stands_steady same) p w i v m)
        (sym (left_name (Stands same) p w i l v) ∙ h.name ∙ right_name (Stands same) p w i m v)))

    pub meet_next : (l m : LineModel) → Instance (Stands same) (after_both p l m) (then_places (Stands same) (stands_steady same) p w i v l m)
    meet_next l m = both_next (Stands same) (stands_steady same) p w i v all_stand l m

  module _ (r : Rule) (g h : PageModel) where
    follows_by : (p : Pair) (w : Places V) → Instance (Stands same) p w → (s : Side) (ok : T (asks r s)) (c : (a : Act V) × (q : Place V) × Moves (side_of g h s) (place_at w s) a q) →
        (d : PairChallenge r g h p) × ((p' : Pair) → (Match r g h).Reply p d p' → (w' : Places V) × (PlaceMatch same r g h).Reply w (s, ok, c) w' × Instance (Stands same) p' w')
    follows_by p w i Left ok (a, q, (l, il, leaves, kind, port, mv, to)) = (
      (Left, ok, (l, in_kept (λ (k : LineModel). eqb k.from p.left) l g.lines il (yes_eqb (leaves ∙ sym i.left)))),
      λ p' j.
          let (m, jm, e) = of_map (λ (m : LineModel). after_both p l m) p' (filter (λ (m : LineModel). meets p l m) h.lines) j in
          let (im, t) = of_kept (λ (m : LineModel). meets p l m) m h.lines jm in
          let k = meets→ p l m t in (
            then_places (Stands same) (stands_steady same) p w i a.value l m,
            (
              ap (after l w.lefts.slots) mv ∙ sym to,
              (
                record { shows = shows m.kind; port = m.port; value = moved m w.rights.slots a.value },
                (m, im, k.right ∙ i.right, refl, refl, moved_again m w.rights.slots a.value, refl),
                record {
                  shows = sym kind ∙ k.kind;
                  port = sym port ∙ k.port;
                  value = subst (λ (u : V). T (same u (moved m w.rights.slots a.value))) mv (meet_same p w i a.value l m k);
                },
              ),
            ),
            subst (λ (p'' : Pair). Instance (Stands same) p'' (then_places (Stands same) (stands_steady same) p w i a.value l m)) (sym e) (meet_next p w i a.value l m),
          ),
    )
    follows_by p w i Right ok (a, q, (m, im, leaves, kind, port, mv, to)) = (
      (Right, ok, (m, in_kept (λ (k : LineModel). eqb k.from p.right) m h.lines im (yes_eqb (leaves ∙ sym i.right)))),
      λ p' j.
          let (l, jl, e) = of_map (λ (l : LineModel). after_both p l m) p' (filter (λ (l : LineModel). meets p l m) g.lines) j in
          let (il, t) = of_kept (λ (l : LineModel). meets p l m) l g.lines jl in
          let k = meets→ p l m t in (
            then_places (Stands same) (stands_steady same) p w i a.value l m,
            (
              ap (after m w.rights.slots) mv ∙ sym to,
              (
                record { shows = shows l.kind; port = l.port; value = moved l w.lefts.slots a.value },
                (l, il, k.left ∙ i.left, refl, refl, moved_again l w.lefts.slots a.value, refl),
                record {
                  shows = sym kind ∙ sym k.kind;
                  port = sym port ∙ sym k.port;
                  value = subst (λ (u : V). T (same u (moved l w.lefts.slots a.value))) mv (eqv.back _ _ (meet_same p w i a.value l m k));
                },
              ),
            ),
            subst (λ (p'' : Pair). Instance (Stands same) p'' (then_places (Stands same) (stands_steady same) p w i a.value l m)) (sym e) (meet_next p w i a.value l m),
          ),
    )

    pub places_follow : Follows (Match r g h) (PlaceMatch same r g h) (Instance (Stands same))
    places_follow p w i d = follows_by p w i d.0 d.1 d.2
