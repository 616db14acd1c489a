use Rattle.std.proofs.Common.{◌∙◌, Bool, refl, sym, subst}
use Rattle.ael_threads.specs.ActsInRow.{MakesSome, is_rest}
use Rattle.ael_threads.specs.Seats.{Acts, Seated}
use Rattle.ael_threads.proofs.WholeCalls.AtRest.{same_end_silent}
use Rattle.ael_threads.proofs.WholeCalls.FromActs.{quiet_first}
use Rattle.ael_c.specs.declared.answer.Answer.{Answer}
use Rattle.ael_c.specs.declared.answer.Answer.TheVariants.{Done, Again, Ended}
use Rattle.ael_c.specs.Calls.{Polls}
use Rattle.ael_c.proofs.Cases.{is_idle, polls_calling, polls_ended, polls_resting}
use Rattle.ael_c.proofs.mutator_seat.MutatorSeat.poll.Goals as goal
use Rattle.ael_c.proofs.mutator_seat.MutatorSeat.poll.Goals.{then-comes_to_rest, else-comes_to_rest}

pub returns-in-Some : goal.returns-in-Some
returns-in-Some c =
    let m = c.self.inside.mutator in
    let b = c.departs.new.mutator in
    let none = c.in-Some.ensures.no_task c.in-Some.end refl in
    subst (λ (a : Seated). Polls a (Ended c.in-Some.end) b) c.self.view_is
    (polls_ended m b (Ended c.in-Some.end) c.in-Some.end (sym c.in-Some.ensures.ended) c.departs.result (record { quiet = c.departs.ensures.quiet m (quiet_first m none); acts = c.departs.ensures.acts }) refl)

pub returns-then-is_calling : goal.returns-then-is_calling
returns-then-is_calling c =
    let m = c.self.inside.mutator in
    let b = c.tries.new.self in
    subst (λ (a : Seated). Polls a c.by.result b) c.self.view_is
    (polls_calling m b c.by.result (sym c.ended.ensures.ended ∙ c.in_default.is) (sym c.is_calling.ensures ∙ c.if-is_calling.true)
    (record { did = c.tries.result; told = c.by.ensures; tries = c.tries.ensures.tries; acts = c.tries.ensures.acts }))

pub returns : goal.returns
returns c =
    let m = c.self.inside.mutator in
    let b = c.comes_to_rest.new.self in
    let none = sym c.ended.ensures.ended ∙ c.in_default.is in
    let idle = is_idle m.worker.task (sym c.is_calling.ensures ∙ c.if-is_calling.false) in
    let quiet = c.comes_to_rest.ensures.quiet m (quiet_first m idle) in
    subst (λ (a : Seated). Polls a c.if-comes_to_rest.result b) c.self.view_is
    (elim c.if-comes_to_rest.branch [
      | then-comes_to_rest w ↦
          let at_rest = w.if-comes_to_rest.true in
          let shows = c.comes_to_rest.ensures.shows at_rest in
          let no_end = same_end_silent m b c.ended.ensures.there c.ended.ensures.shows shows quiet ∙ none in
          subst (λ (x : Answer). Polls m x b) (sym w.result-is)
          (polls_resting m b Done none idle (record {
            quiet = quiet;
            acts = subst (λ (r : Bool). MakesSome Acts is_rest r m b) at_rest c.comes_to_rest.ensures.acts;
            done = (c.comes_to_rest.ensures.rests at_rest, shows, c.comes_to_rest.ensures.stand at_rest no_end);
          }))
      | else-comes_to_rest w ↦ subst (λ (x : Answer). Polls m x b) (sym w.result-is)
          (polls_resting m b Again none idle (record { quiet = quiet; acts = subst (λ (r : Bool). MakesSome Acts is_rest r m b) w.if-comes_to_rest.false c.comes_to_rest.ensures.acts; done = tt }))
    ])
