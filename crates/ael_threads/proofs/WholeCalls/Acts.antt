-- What an act tells.
use Rattle.std.proofs.Common.{Option, None, ◌≡◌, ℕ, ◌<◌, List, [], ◌∷◌, Some, sym, ◌∙◌, subst, arith, length}
use Rattle.std.proofs.lemmas.List.{length-replicate}
use Rattle.atom_store.specs.declared.reply.Reply.{Reply}
use Rattle.atom_store.specs.declared.step.Step.{Step}
use Rattle.std.specs.Option.{is_some}
use Rattle.heap_laws.specs.Opening.{opening_mutator}
use Rattle.plain_state.specs.declared.end.End.{End}
use Rattle.gate_core.specs.declared.passage.Passage.{Passage}
use Rattle.gc_worker.specs.declared.steps.stepped.Stepped.{Stepped}
use Rattle.gc_worker.specs.declared.steps.stepped.Stepped.TheVariants as stepped
use Rattle.gc_worker.specs.Workers.Fits.{Fits, FitsEnd, FitsTask, FitsTaskBefore}
use Rattle.gc_worker.specs.Workers.Held.{Held}
use Rattle.gc_worker.specs.Steps.Stepped.{stepped_by, uncounted}
use Rattle.gc_worker.specs.declared.calls.did.Did.TheVariants.{Done}
use Rattle.gc_worker.specs.Steps.Turned.{Told, Answers, told, turned}
use Rattle.gc_worker.specs.Steps.Wanted.{wanted}
use Rattle.gc_worker.proofs.Between.KeptTasks.{workers_go_on}
use Rattle.ael_threads.specs.declared.view.Hand.{Hand}
use Rattle.ael_threads.specs.declared.view.Plan.{Plan}
use Rattle.ael_threads.specs.Histories.{first_plain}
use Rattle.ael_threads.specs.Readers.{IsThere}
use Rattle.ael_threads.specs.Seats.{Acts, ActsBy, Heads, Moves, Seated, first_number, plain_after_seen}
use Rattle.gc_worker.proofs.History.Extensions.{as_many}
use Rattle.ael_threads.proofs.WholeCalls.Ended.{ended_at}

pub heads_fit : (plan : Plan) (x : Held) (hs : List Hand) → Heads plan x hs → Fits plan.spaces.pages plan.mutators (first_number hs) x
heads_fit plan x [] h = absurd h
heads_fit plan x (was ∷ others) h = h.fits

pub heads_of : (a b : Seated) → a ≡ b → Heads a.knows.plan a.worker a.knows.hands → Heads b.knows.plan b.worker b.knows.hands
heads_of a b same h = subst (λ (z : Seated). Heads z.knows.plan z.worker z.knows.hands) same h

pub is_there : (a : Seated) → Heads a.knows.plan a.worker a.knows.hands → a.worker.number < a.worker.mutators → IsThere a
is_there a heads below =
    let f = heads_fit a.knows.plan a.worker a.knows.hands heads in
    let beside : a.worker.mutators ≡ a.knows.plan.mutators = f.beside in
    let many : length (plain_after_seen a.knows).mutators ≡ a.knows.plan.mutators = as_many (first_plain a.knows.plan) a.knows.seen ∙ length-replicate a.knows.plan.mutators opening_mutator in (
      sym f.number,
      omega (arith, below, beside, many),
    )

-- who has an end has no task
pub no_task : (plan : Plan) (x : Held) (hs : List Hand) (end : End) → Heads plan x hs → x.account.end ≡ Some end → x.task ≡ None
no_task plan x hs end heads is =
    let f = heads_fit plan x hs heads in
    ended_at (λ stage. FitsTask x stage → x.task ≡ None) (λ g after e. subst (λ (p : Passage). FitsTaskBefore x p after → x.task ≡ None) (sym e) (λ none. none)) (λ none. none)
    x.stage (subst (λ (o : Option End). FitsEnd x.stage (is_some o)) is f.end) f.task

-- who makes a step is not idle
not_idle : (k : ℕ) (t : Told) → stepped.Idle ≡ stepped_by k t → ⊥
not_idle k (Answers _ Done) e = cc
not_idle k _ e = cc

by_stepped : (a : Seated) (r : Reply) (s : Stepped) (b : Seated) → ActsBy a r s b → Acts a s b
by_stepped a r stepped.Idle b h = absurd (not_idle a.worker.number (told a.worker r) h.stepped)
by_stepped a r _ b h = (r, h)

pub acts : (a : Seated) (r : Reply) (s : Stepped) (b : Seated) (q : Step) → Heads a.knows.plan a.worker a.knows.hands → wanted a.worker ≡ Some q → s ≡ stepped_by a.worker.number (told a.worker r)
    → b.worker ≡ uncounted (turned a.worker r) → Moves a.knows (first_number a.knows.hands) a.worker r b.knows → Acts a s b
acts a r s b q heads wants is worker moves = by_stepped a r s b (record {
  wants = (q, wants);
  stepped = is;
  worker = worker;
  knows = moves;
  goes_on = workers_go_on a.knows.plan.spaces.pages a.knows.plan.mutators (first_number a.knows.hands) a.worker r (heads_fit a.knows.plan a.worker a.knows.hands heads);
})
