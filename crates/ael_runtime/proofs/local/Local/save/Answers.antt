use Rattle.std.proofs.Common.{ℕ, ◌+◌, List, [], ◌∷◌}
use Rattle.mutator_asm.specs.declared.instr.Instr.TheVariants.{St}
use Rattle.mutator_asm.specs.declared.operand.Operand.TheVariants as operands
use Rattle.ael_runtime.specs.Calling.{OneCall, done}
use Rattle.ael_runtime.specs.Reading.{root_register}
use Rattle.ael_runtime.specs.declared.root.TheConstants.{FRAMES, SCRATCH}
use Rattle.ael_runtime.proofs.FrameCalls.{not_scratch, saved, within_top}
use Rattle.ael_runtime.proofs.local.Local.save.Goals as goal

abbrev made : (n what : ℕ) → List OneCall
made n what = done (St FRAMES (operands.Number (n + 1)) what) ∷ []

pub returns-clause-value : goal.returns-clause-value
returns-clause-value g c =
    saved c.args.self.now c.keep.new.self c.args.slot c.from.result c.from.ensures (made c.from.result c.register.result) SCRATCH not_scratch
    c.keep.result c.register.result (root_register c.args.from) c.register.ensures c.keep.ensures.value c.keep.ensures.effects

pub returns-clause-within : goal.returns-clause-within
returns-clause-within g c =
    within_top c.args.self.now c.keep.new.self c.args.slot c.from.result c.from.ensures (made c.from.result c.register.result) SCRATCH not_scratch
    c.keep.result c.keep.ensures.within c.keep.ensures.effects
