-- What a bounded vector holds.
use Rattle.std.specs.Prelude.{ℕ, List, take}
use Rattle.lists.specs.declared.BoundedVec.{BoundedVec}

-- its first len items, in order
abbrev pub held : {T : Type 0} {N : ℕ} → BoundedVec T N → List T
held v = take v.len v.items
