use Rattle.std.proofs.Common.{refl, subst}
use Rattle.std.proofs.lemmas.Bool.{lt-ltb}
use Rattle.ael_threads.specs.declared.mutator.Reg.TheVariants as regs
use Rattle.ael_threads.specs.Seats.{Seated}
use Rattle.ael_c.specs.declared.answer.Answer.TheVariants as answers
use Rattle.ael_c.specs.Calls.{ReadsRegister}
use Rattle.ael_c.proofs.Cases.{reads_register}
use Rattle.ael_c.proofs.mutator_seat.MutatorSeat.reg.Goals as goal

pub returns-in-Number : goal.returns-in-Number
returns-in-Number c =
    let m = c.self.inside.mutator in
    subst (λ (a : Seated). ReadsRegister c.args.i c.args.value.now c.in-Number.n a answers.Number a) c.self.view_is
    (reads_register c.args.i c.args.value.now c.in-Number.n m answers.Number (lt-ltb c.args.i 8 c.if-i-ge-REGISTERS.false)
    (record { reg = regs.Number c.in-Number.n; is = c.in-Number.ensures.reg; told = refl; value_is = refl; shows = c.reg.ensures.shows }))

pub returns-in-Pointer : goal.returns-in-Pointer
returns-in-Pointer c =
    let m = c.self.inside.mutator in
    subst (λ (a : Seated). ReadsRegister c.args.i c.args.value.now c.from.result a answers.Pointer a) c.self.view_is
    (reads_register c.args.i c.args.value.now c.from.result m answers.Pointer (lt-ltb c.args.i 8 c.if-i-ge-REGISTERS.false)
    (record { reg = regs.Pointer c.in-Pointer.address; is = c.in-Pointer.ensures.reg; told = refl; value_is = c.from.ensures; shows = c.reg.ensures.shows }))
