use Rattle.std.proofs.Common.{◌≡◌, ◌≤◌, true, Option, sym, subst, ◌∙◌, arith}
use Rattle.std.specs.Prelude.{IsTrue, IfSome}
use Rattle.mutator_asm.specs.declared.instr.Instr.{Instr}
use Rattle.mutator_asm.specs.Program.{is_valid}
use Rattle.mutator_asm.proofs.Programs.Instructions.{valid_at}
use Rattle.gc_worker.specs.Workers.Held.{Held}
use Rattle.gc_worker.specs.Steps.Stepped.{IsSound, awaits}
use Rattle.gc_core.proofs.Events.Tasks.{idle_by, call_by, sound_apart}
use Rattle.gc_core.proofs.slot.Slot.ready.Goals as goal

pub begin_end-requires-clause-idle : goal.begin_end-requires-clause-idle
begin_end-requires-clause-idle c =
    idle_by c.self.inside.worker (sound_apart c.self.inside.count c.self.inside.worker (subst IsSound (sym c.self.view_is) c.requires.sound)) (sym c.awaits.ensures ∙ c.if-awaits.true)

pub begin-requires-clause-idle : goal.begin-requires-clause-idle
begin-requires-clause-idle c =
    idle_by c.self.inside.worker (sound_apart c.self.inside.count c.self.inside.worker (subst IsSound (sym c.self.view_is) c.requires.sound)) (sym c.awaits.ensures ∙ c.if-awaits.true)

pub begin-requires-clause-may_begin : goal.begin-requires-clause-may_begin
begin-requires-clause-may_begin c =
    let few = subst (λ (x : Held). awaits x ≡ true → x.account.serial ≤ x.account.executed) (sym c.self.view_is) c.requires.counted (sym c.awaits.ensures ∙ c.if-awaits.true) in
    call_by c.self.inside.worker.account c.self.inside.worker.registers c.in-Some.instr
    (subst (λ (o : Option Instr). IfSome o (λ i. IsTrue (is_valid i))) (sym c.instr.ensures ∙ c.in-Some.is) (valid_at c.args.program.now.code c.args.m c.pc.result c.requires.valid))
    (omega arith)

pub begin_end-requires-in-None-clause-idle : goal.begin_end-requires-in-None-clause-idle
begin_end-requires-in-None-clause-idle c =
    idle_by c.self.inside.worker (sound_apart c.self.inside.count c.self.inside.worker (subst IsSound (sym c.self.view_is) c.requires.sound)) (sym c.awaits.ensures ∙ c.if-awaits.true)
