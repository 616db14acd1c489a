-- What an access comes to: the effect of its instruction, or the end of its mutator.
use Rattle.std.proofs.Common.{◌≡◌, ℕ, ◌<◌, Option, None, Ok, slice_set, false, refl, ap, sym}
use Rattle.plain_state.specs.declared.end.End.{End}
use Rattle.plain_state.specs.declared.value.Value.{Value}
use Rattle.plain_state.specs.State.{Plain}
use Rattle.plain_heap.specs.declared.action.Action.{Action}
use Rattle.plain_heap.specs.Call as plain
use Rattle.plain_heap.specs.Call.{performed}
use Rattle.atom_store.specs.declared.reply.Reply.{Reply}
use Rattle.heap_state.specs.Configuration.{Configuration, Stands, era, memory, team}
use Rattle.heap_state.specs.Memory.Entries.{Entry}
use Rattle.heap_laws.specs.Fields.Held.{HoldsValue}
use Rattle.heap_laws.proofs.Fields.Laws.{mutators_step}
use Rattle.record_access.specs.declared.access_stage.AccessStage.{AccessStage}
use Rattle.record_access.specs.declared.accessed.Accessed.TheVariants.{Brings, Stored, Fails}
use Rattle.record_access.specs.Access.{Answered, Comes, answered, is_at_target, turn_by, goes_by}
use Rattle.record_access.specs.Access as access
use Rattle.gc_worker.specs.Plain.Answer.{MayEnd}
use Rattle.gc_worker.specs.Workers.Fits.{ExecutesAction}
use Rattle.gc_worker.specs.Plain.Full.{FullByEnd}
use Rattle.gc_worker.specs.Steps.Goes.{Is, Goes}
use Rattle.gc_worker.specs.Workers.Held.{Held}
use Rattle.gc_worker.specs.Workers.Knows.{knows}
use Rattle.record_access.specs.Seen.{IsValueWord}
use Rattle.gc_worker.specs.Steps.Turned.{turned_access, told_access, ended, loads, went_on}
use Rattle.gc_worker.proofs.Plain.Actions.{plain_action}
use Rattle.gc_worker.proofs.Plain.AnswerSteps.{LawTo}
use Rattle.gc_worker.proofs.Plain.Effects.{loaded_goes, loaded_as, effect, ends, went_on_fits, loads_fits}
use Rattle.gc_worker.proofs.Workers.Answered.{ended_fits}
use Rattle.gc_worker.proofs.Stages.Access.Acting.{q, its, calls}
use Rattle.gc_worker.proofs.Stages.Access.NextAccessStage.{own, at, ready, running, no_end}

module _ (c : Configuration) (p : Plain) (s : Stands c p) (k : ℕ) (y : Held) (stage : AccessStage) (is : Is c k (at c p s k y stage)) (act : Action) (executes : ExecutesAction y.account y.registers y.task act) where
  abbrev x : Held
  x = at c p s k y stage

  abbrev plain_act : Action
  plain_act = plain_action s.ghost.identity act

  -- a register gets a word
  pub goes_bringing : (e : Option Entry) (reply : Reply) (into word : ℕ) (after : plain.After) → answered (own c p s k y stage) reply ≡ Comes (Brings into word) → into < 8 → IsValueWord word
      → performed k p.heap (q c p s k y stage is) plain_act ≡ Ok after → LawTo c p s k x e (knows (loads x into word)) s.ghost (record { heap = after.heap; mutators = slice_set p.mutators k after.mutator })
      → access.AccessTakes stage reply → Goes c p s k e x reply
  goes_bringing e reply into word after comes small value acts law takes =
      effect c p s k x is refl (no_end c p s k y stage is) (q c p s k y stage is) (its c p s k y stage is) e reply (loads x into word) executes.instr after executes.task_is
      (ap (λ (r : Answered). turned_access x (goes_by (own c p s k y stage) r) (turn_by r)) comes) (ap (λ (r : Answered). told_access y.task (turn_by r)) comes) refl
      (calls c p s k y stage is act executes (Ok after) acts) law takes (loads_fits c p s k x is refl (no_end c p s k y stage is) is.fits.side into word small value)

  -- the heap stays
  pub goes_loading : (reply : Reply) (into word : ℕ) (v : Value) → answered (own c p s k y stage) reply ≡ Comes (Brings into word) → into < 8 → IsValueWord word → HoldsValue (era c) s.ghost word v
      → performed k p.heap (q c p s k y stage is) plain_act ≡ Ok (plain.loads p.heap (q c p s k y stage is) into v) → access.AccessTakes stage reply → Goes c p s k None x reply
  goes_loading reply into word v comes small value holds acts takes =
      goes_bringing None reply into word (plain.loads p.heap (q c p s k y stage is) into v) comes small value acts
      (mutators_step (era c) (memory c) (team c) s.ghost p k (knows (loads x into word)) (plain.went_on (plain.set_register (q c p s k y stage is) into v)) (ready c p s k y stage is) (running c p s k y stage is) s.shown
      (loaded_goes c p s k x is refl (no_end c p s k y stage is) (q c p s k y stage is) (its c p s k y stage is) into word v small holds)
      (loaded_as c p s k x is refl (no_end c p s k y stage is) (q c p s k y stage is) (its c p s k y stage is) into word v small holds)) takes

  -- a word is stored
  pub goes_storing : (e : Option Entry) (reply : Reply) (after : plain.After) → answered (own c p s k y stage) reply ≡ Comes Stored → performed k p.heap (q c p s k y stage is) plain_act ≡ Ok after
      → LawTo c p s k x e (knows (went_on x)) s.ghost (record { heap = after.heap; mutators = slice_set p.mutators k after.mutator }) → access.AccessTakes stage reply → Goes c p s k e x reply
  goes_storing e reply after comes acts law takes =
      effect c p s k x is refl (no_end c p s k y stage is) (q c p s k y stage is) (its c p s k y stage is) e reply (went_on x) executes.instr after executes.task_is
      (ap (λ (r : Answered). turned_access x (goes_by (own c p s k y stage) r) (turn_by r)) comes) (ap (λ (r : Answered). told_access y.task (turn_by r)) comes) refl
      (calls c p s k y stage is act executes (Ok after) acts) law takes (went_on_fits c p s k x is refl (no_end c p s k y stage is) is.fits.side)

  -- it is the mutator's end
  pub goes_ending : (reply : Reply) (why : End) → answered (own c p s k y stage) reply ≡ Comes (Fails why) → is_at_target stage ≡ false → MayEnd k p.heap (q c p s k y stage is) executes.instr why → FullByEnd c.pages c.words x why
      → access.AccessTakes stage reply → Goes c p s k None x reply
  goes_ending reply why comes other may full takes =
      ends c p s k x is refl (no_end c p s k y stage is) (q c p s k y stage is) (its c p s k y stage is) reply executes.instr why executes.task_is
      (ap (λ (r : Answered). turned_access x (goes_by (own c p s k y stage) r) (turn_by r)) comes) (ap (λ (r : Answered). told_access y.task (turn_by r)) comes) refl may full (λ i. record (knows (ended x why)) { traced_seen = sym other i }) takes
      (ended_fits c.pages c.mutators k x is.fits is.fits.side why)
