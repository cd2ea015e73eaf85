use Rattle.std.proofs.Common.{◌-◌, ◌≤◌, length, take}
use Rattle.std.specs.List.{slice_get}
use Rattle.games.specs.Listing.{with_new, listing}
use Rattle.games.specs.Meaning.{replies_at, replies_of}
use Rattle.settle.specs.Grown.{Grown}
use Rattle.settle.proofs.listing.list_codes.Given as goal

abbrev pub invariant-loop-i : goal.invariant-loop-i
invariant-loop-i g l = Grown l.initial.codes l.codes l.len (listing (g.M.Match.meaning l.game) l.i) × (l.i ≤ l.len)

abbrev pub decreases-loop-i : goal.decreases-loop-i
decreases-loop-i g l = length l.initial.codes - l.i

abbrev pub invariant-loop-n : goal.invariant-loop-n
invariant-loop-n g l =
    let cs = (g.M.Match.meaning l.game).at l.code in
    Grown l.initial.codes l.codes l.len (with_new (take l.initial.len l.initial.codes) (replies_at (take l.n cs)))

abbrev pub invariant-loop-k : goal.invariant-loop-k
invariant-loop-k g l =
    let rs = replies_of (slice_get ((g.M.Match.meaning l.game).at l.code) l.n) in
    Grown l.initial.codes l.codes l.len (with_new (take l.initial.len l.initial.codes) (take l.k rs))
