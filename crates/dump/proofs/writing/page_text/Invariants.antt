use Rattle.std.proofs.Common.{◌≡◌, take}
use Rattle.lists.specs.Held.{held}
use Rattle.dump.proofs.Texts.{texts}
use Rattle.dump.proofs.writing.page_text.Given as goal

abbrev pub invariant-loop-frame : goal.invariant-loop-frame
invariant-loop-frame l = held l.text ≡ take 4096 (texts l.yielded)
