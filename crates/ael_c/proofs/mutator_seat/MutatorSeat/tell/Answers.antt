use Rattle.std.proofs.Common.{ap, refl, subst}
use Rattle.ael_threads.specs.Seats.{Seated}
use Rattle.ael_c.specs.declared.answer.Answer.TheVariants.{Done, Ended}
use Rattle.ael_c.specs.Calls.{Tells, answer_of_end}
use Rattle.ael_c.proofs.mutator_seat.MutatorSeat.tell.Goals as goal

pub returns-in-Some : goal.returns-in-Some
returns-in-Some c = subst (λ (a : Seated). Tells c.serial.result c.epoch.result a (Ended c.in-Some.end) a) c.self.view_is (record {
  told = ap answer_of_end c.in-Some.ensures.ended;
  serial_is = c.serial.ensures.serial;
  epoch_is = c.epoch.ensures;
  shows = c.ended.ensures.shows;
  same = refl;
})

pub returns-in-None : goal.returns-in-None
returns-in-None c = subst (λ (a : Seated). Tells c.serial.result c.epoch.result a Done a) c.self.view_is (record {
  told = ap answer_of_end c.in-None.ensures.ended;
  serial_is = c.serial.ensures.serial;
  epoch_is = c.epoch.ensures;
  shows = c.ended.ensures.shows;
  same = refl;
})
