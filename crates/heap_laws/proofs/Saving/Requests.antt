-- Who begins a checkpoint: it alone holds the request, nobody runs once the gate counts nobody, and the gate stands still until it
-- clears the request.
use Rattle.std.proofs.Common.{◌≡◌, false, Some, None, refl, sym, ◌∙◌, arith}
use Rattle.heap_state.specs.Functions.{count_one, put}
use Rattle.heap_state.specs.Memory.Entries.{GateIs}
use Rattle.heap_state.specs.Saving.Savers.{Saver}
use Rattle.heap_state.specs.Known.{is_running, is_asking}
use Rattle.heap_state.proofs.Puts.{team_put, true_false, none≢some, some_same}
use Rattle.heap_laws.specs.Saving.Rows.{SparesGate}
use Rattle.heap_laws.specs.Saving.Snapping.{RunnersAreCounted, AskersAreAlone, RequestsAreSpared, saver_still, GatesAreFoundStill, saver_after_clear, ClearsAreSpared, RunnersAreSpared}
use Rattle.heap_laws.proofs.Flipping.Sums.{sum_below-term, sum_below-two, one_of, at_most_one}
use Rattle.heap_laws.proofs.Flipping.FlippedWorkers.{none_true}
use Rattle.heap_laws.proofs.Saving.Forgotten.{runs_keep_saving}
use Rattle.heap_laws.proofs.Saving.SparedRows.{rows_are_spared}
use Rattle.heap_laws.proofs.Saving.SavingWorkers.{none_if, has_won_as, asker_knows, saver_changes}

-- ---- who runs and who holds the request

pub runners_are_counted : RunnersAreCounted
runners_are_counted gate count worker saver counted follow none j in_team = none_true (saver j).runs (λ runs.
    let term = sum_below-term count (λ i. count_one (is_running (worker i).post)) j in_team in
    let one = one_of (is_running (worker j).post) (sym (follow.runs j in_team) ∙ runs) in
    let sum = counted.running in
    absurd (omega (arith, term, one, sum, none)))

pub askers_are_alone : AskersAreAlone
askers_are_alone gate count worker saver k counted follow in_team asks j j_in other = none_true (saver j).asks (λ both.
    let two = sum_below-two count (λ i. count_one (is_asking (worker i).post)) j k j_in in_team other in
    let one = one_of (is_asking (worker j).post) (sym (follow.asks j j_in) ∙ both) in
    let own = one_of (is_asking (worker k).post) (sym (follow.asks k in_team) ∙ asks) in
    let sum = counted.request in
    let most = at_most_one gate.request in
    absurd (omega (arith, two, one, own, sum, most)))

-- ---- passages of others

pub requests_are_spared : RequestsAreSpared
requests_are_spared t s z count saver k gate stands in_team same nobody =
    runs_keep_saving.asking t s z count saver k (Some (GateIs gate)) stands in_team (SparesGate gate same nobody)

pub runners_are_spared : RunnersAreSpared
runners_are_spared t s z count saver k gate stands in_team same nobody =
    runs_keep_saving.begun t s z count saver k (Some (GateIs gate)) stands in_team (SparesGate gate same nobody)

-- ---- who is still

pub gates_are_found_still : GatesAreFoundStill
gates_are_found_still t s z count saver k stands in_team asks none =
    let knows = stands.workers.each k in_team in
    let after = saver_still (saver k) t.gate in
    saver_changes t s z count saver k after stands in_team
    (asker_knows t s z k (saver k) knows (saver k).asks (saver k).settled (Some t.gate)
    (λ is. let was = knows.settles is in record { alive = was.alive; snap = was.snap; rests = was.rests; traced = was.traced })
    (λ gate is. let same = some_same is in (asks, same, rw (← same) none)))
    (λ page c is. has_won_as (saver k) after page c refl (stands.workers.savers page c k is).1)

pub clears_are_spared : ClearsAreSpared
clears_are_spared t s z count saver k gate stands in_team same alone =
    let after = saver_after_clear (saver k) in
    let knows = asker_knows t s z k (saver k) (stands.workers.each k in_team) false false None (λ is. true_false refl is) (λ g is. none≢some is) in
    rows_are_spared t s z count (put saver k after) (Some (GateIs gate))
    (saver_changes t s z count saver k after stands in_team knows (λ page c is. has_won_as (saver k) after page c refl (stands.workers.savers page c k is).1))
    (SparesGate gate same (team_put count (λ j (x : Saver). x.still ≡ None) saver k after
    (λ j j_in other. none_if (saver j).still (λ g is. true_false (alone j j_in other) ((stands.workers.each j j_in).still g is).0)) refl))
