use Rattle.std.proofs.Common.{arith}
use Rattle.space.proofs.Opening.{opened}
use Rattle.space.proofs.memory.Memory.frames_in_use.Goals as goal

pub in_use-requires : goal.in_use-requires
in_use-requires c = (omega arith, (opened c.args.self.now.space.sound).frames)
