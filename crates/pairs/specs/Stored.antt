-- A stored pair as plain lists and numbers.
use Rattle.std.specs.Prelude.{map}
use Rattle.lists.specs.Held.{held}
use Rattle.naming.specs.Names.{number}
use Rattle.twins.specs.Pairs as model
use Rattle.pairs.specs.declared.Pair.{Pair}

abbrev pub pair_model : Pair → model.Pair
pair_model p =
    record {
      left = p.left;
      right = p.right;
      lefts = map number (held p.lefts);
      rights = map number (held p.rights);
    }
