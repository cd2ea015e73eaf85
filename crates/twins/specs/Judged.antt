-- What settled counts of the match of two pages mean at places, for the values of any kind.
use Rattle.std.specs.Prelude.{◌≡◌, ℕ, suc, Bool, not, T, List, length}
use Rattle.pages.specs.Model.{PageModel}
use Rattle.programs.specs.Places.{In, Place}
use Rattle.games.specs.Counts.{within, has_count}
use Rattle.twins.specs.Games.{Exactly}
use Rattle.twins.specs.Fits.{Fits}
use Rattle.twins.specs.Pairs.{Pair, Rule}
use Rattle.twins.specs.Positions.{meaning, ClosedUnder}
use Rattle.twins.specs.Twins.{Places, PlaceMatch, Instance, Stands, Sharp, Different}
use Rattle.twins.specs.Verdicts.{Answers, Related}

-- HOLDS: the listed pairs have all replies, the round after n counts no more of them, and the pair has no count.
-- Then two places of its pattern are related.
abbrev pub HoldsMeans : {V : Type 0} → (V → V → Bool) → Type 0
HoldsMeans {V} same =
    (r : Rule) (g h : PageModel) (p : Pair) (L : List Pair) (n : ℕ) →
    ClosedUnder (meaning r g h) L → ((q : Pair) → In q L → T (within (meaning r g h) (suc n) q) → T (within (meaning r g h) n q)) →
    In p L → T (not (within (meaning r g h) n p)) →
    (w : Places V) → Instance (Stands same) p w → Related same r g h w

-- FAILS with n: at two places of exactly the pair's pattern, where nine values differ,
-- n is the least number of challenges within which some way of challenging is sure to win.
abbrev pub FailsMeans : {V : Type 0} → (V → V → Bool) → Type 0
FailsMeans {V} same =
    (r : Rule) (g h : PageModel) → Fits g → Fits h → (p : Pair) (w : Places V) → Instance (Stands same) p w → Sharp same g h p w →
    (purse : List V) → Different same purse → length purse ≡ 9 →
    (n : ℕ) → T (has_count (meaning r g h) n p) → Exactly (PlaceMatch same r g h) n w

-- ... and no relation joins the places and answers each challenge.
abbrev pub FailsUnrelates : {V : Type 0} → (V → V → Bool) → (Place V → Place V → Type 0) → Type 0
FailsUnrelates {V} same R =
    (r : Rule) (g h : PageModel) → Fits g → Fits h → (p : Pair) (w : Places V) → Sharp same g h p w →
    (purse : List V) → Different same purse → length purse ≡ 9 →
    (n : ℕ) → T (has_count (meaning r g h) n p) → R w.lefts w.rights → Answers same r g h R → ⊥
