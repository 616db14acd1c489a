use Rattle.std.proofs.Common.{◌≡◌, ◌∙◌, ap}
use Rattle.ael_threads.specs.Seats.{Seated}
use Rattle.embedding.proofs.Departures.{left_rests}
use Rattle.embedding.proofs.Outcomes.{on_err, on_ok_of_err}
use Rattle.embedding.proofs.actors.acts.Goals as goal
use Rattle.embedding.proofs.actors.acts.Goals.{in-Sender, in-Receiver}

pub returns-in-Err : goal.returns-in-Err
returns-in-Err g c =
    let begins = ap (λ (s : Seated). s.table) c.new-local.ensures ∙ c.requires.mutator.of_heap in
    let local : c.match-role.local.table ≡ c.args.heap.now.table.shared.table_id =
    elim c.match-role.branch [
      | in-Sender w ↦ ap (λ (s : Seated). s.table) w.local-is ∙ (w.send-outcome.ensures ∙ begins)
      | in-Receiver w ↦ ap (λ (s : Seated). s.table) w.local-is ∙ (w.receive-outcome.ensures ∙ begins)
    ] in record {
      of_heap = (c.leave-mutator.ensures.of_heap ∙ local, c.announce.ensures.of_heap ∙ (ap (λ (s : Seated). s.table) c.new.ensures ∙ c.requires.spare.of_heap));
      rest = (left_rests _ _ c.leave-mutator.ensures.ended c.leave-mutator.ensures.halts, c.announce.ensures.rests);
      gone = c.leave-mutator.ensures.left;
      quiet = on_ok_of_err c.match-role.outcome _ _ c.in-Err.is;
      says = on_err c.match-role.outcome _ c.announce.ensures.signed;
    }
