use Rattle.std.proofs.Common.{ℕ, ◌+◌, List, [], ◌∷◌}
use Rattle.mutator_asm.specs.declared.instr.Instr.TheVariants.{Ld}
use Rattle.mutator_asm.specs.declared.operand.Operand.TheVariants as operands
use Rattle.ael_runtime.specs.Calling.{OneCall, done}
use Rattle.ael_runtime.specs.Reading.{root_register}
use Rattle.ael_runtime.specs.declared.root.TheConstants.{FRAMES}
use Rattle.ael_runtime.proofs.FrameCalls.{not_frames, restored, within_top}
use Rattle.ael_runtime.proofs.local.Local.restore.Goals as goal

abbrev made : (d n : ℕ) → List OneCall
made d n = done (Ld d FRAMES (operands.Number (n + 1))) ∷ []

pub returns-clause-value : goal.returns-clause-value
returns-clause-value g c =
    restored c.args.self.now c.fetch.new.self c.args.slot c.from.result c.from.ensures (made c.register.result c.from.result) c.register.result
    (not_frames c.args.to c.register.result c.register.ensures) c.fetch.result (root_register c.args.to) c.register.ensures c.fetch.ensures.value c.fetch.ensures.effects

pub returns-clause-within : goal.returns-clause-within
returns-clause-within g c =
    within_top c.args.self.now c.fetch.new.self c.args.slot c.from.result c.from.ensures (made c.register.result c.from.result) c.register.result
    (not_frames c.args.to c.register.result c.register.ensures) c.fetch.result c.fetch.ensures.within c.fetch.ensures.effects
