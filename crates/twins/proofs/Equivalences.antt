-- The equality of a kind is an equivalence: it says whether two values mean the same.
use Rattle.std.proofs.Common.{◌≡◌, Bool, T, Decides, sym, refl, ◌∙◌, subst}
use Rattle.twins.proofs.Logic.{yes}
use Rattle.twins.specs.Twins.{Equivalence}

pub equivalence : {V S : Type 0} (means : V → S) (same : V → V → Bool) → ((v w : V) → Decides (same v w) (means v ≡ means w)) → Equivalence same
equivalence {V} means same exact =
    record {
      itself = λ v. holds v v refl;
      back = λ v w t. holds w v (sym (meant v w t));
      through = λ u v w s t. holds u w (meant u v s ∙ meant v w t);
    }
  where
    meant : (v w : V) → T (same v w) → means v ≡ means w
    meant v w t = (exact v w).0 (yes (same v w) t)

    holds : (v w : V) → means v ≡ means w → T (same v w)
    holds v w e = subst T (sym ((exact v w).1 e)) tt
