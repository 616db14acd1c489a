use Rattle.std.proofs.Common.{ap, sym}
use Rattle.ael_runtime.specs.Reading.{value_number}
use Rattle.ael_runtime.proofs.ShownRegisters.{number_shown, pointer_shown}
use Rattle.ael_runtime.proofs.local.Local.number_in.Goals as goal

pub returns-in-Number : goal.returns-in-Number
returns-in-Number c =
    let s = c.self.inside.mutator in
    rw (← c.self.view_is) (ap value_number (sym (number_shown s c.reg.ensures.shows c.reg.ensures.there c.args.register c.in-Number.n c.requires c.in-Number.ensures.reg)))

pub returns-in-Pointer : goal.returns-in-Pointer
returns-in-Pointer c =
    let s = c.self.inside.mutator in
    rw (← c.self.view_is) (ap value_number (sym (pointer_shown s c.reg.ensures.shows c.reg.ensures.there c.args.register c.in-Pointer.field-0 c.requires c.in-Pointer.ensures.reg).1))
