use Rattle.std.proofs.Common.{map, subst, sym}
use Rattle.std.specs.Prelude.{string_bytes}
use Rattle.ael_jobs.specs.Calls.Answer.{IsAsked}
use Rattle.ael_jobs.specs.Arguments.Words.{job_of}
use Rattle.ael_jobs.proofs.still_call.ael_still.Given as given
use Rattle.ael_jobs.proofs.still_call.ael_still.Goals as goal
use Rattle.ael_jobs.proofs.still_call.ael_still.Goals.{in_default-via-in-Ok+else-waits, in_default-via-in-Err-1}

-- what is answered was read of the words
asked : (g : given.Over) (c : goal.Joined-answer_still g) → IsAsked (job_of (map string_bytes c.args.words.now)) c.in_default-1.asked
asked g c = elim c.in_default-1.branch [
  | in_default-via-in-Ok+else-waits w ↦ subst (IsAsked (job_of (map string_bytes c.args.words.now))) (sym w.asked-is) w.in-Ok.ensures.asked
  | in_default-via-in-Err-1 w ↦ subst (IsAsked (job_of (map string_bytes c.args.words.now))) (sym w.asked-is) c.read_words.ensures.asked
]

pub returns-in_default-clause-holds : goal.returns-in_default-clause-holds
returns-in_default-clause-holds g c = c.finish.ensures.holds _ _ (record {
  drawn = c.answer_still.ensures.drawn _ (asked g c);
  steady = c.answer_still.ensures.counted;
  answer = c.answer_still.ensures.answer _ (asked g c);
})

pub returns-in_default-clause-some_for_what_waits_only_without_memory : goal.returns-in_default-clause-some_for_what_waits_only_without_memory
returns-in_default-clause-some_for_what_waits_only_without_memory g c = λ waits.
    let wanting = c.answer_still.ensures.wanting _ (asked g c) waits in
    record {
      unread = rw wanting.2;
      steady = rw wanting.2;
      emitted = rw (wanting.0, wanting.1) at c.finish.ensures.emitted;
    }
