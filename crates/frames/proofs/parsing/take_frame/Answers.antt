use Rattle.std.proofs.Common.{rules}
use Rattle.lists.specs.Held.{held}
use Rattle.frames.specs.Model.{frame_model}
use Rattle.frames.proofs.Said.{frame_says}
use Rattle.frames.proofs.parsing.take_frame.Goals as goal

pub returns-clause-sound : goal.returns-clause-sound
returns-clause-sound c = (frame_says c.args.at (held c.in_ok-bytes.bytes) (frame_model c.in_ok-frame.frame) (search rules)).1
