-- A caller that rests: it looks at the gate and has no task, or is gone.
use Rattle.std.proofs.Common.{◌≡◌, ◌<◌, Bool, true, false, Option, Some, None, List, slice_get, refl, sym, ◌∙◌, ap, arith, nat_lt, lt-ltb}
use Rattle.std.specs.Option.{is_some}
use Rattle.gc_worker.specs.declared.stage.Stage.{Stage}
use Rattle.gc_worker.specs.declared.stage.Stage.TheVariants.{Gone, Looks, Serves}
use Rattle.gc_worker.specs.declared.stage.back.Back.TheVariants.{ToScanner}
use Rattle.gc_worker.specs.declared.steps.stepped.Stepped.{Stepped}
use Rattle.gc_worker.specs.declared.steps.stepped.Stepped.TheVariants as stepped
use Rattle.gc_worker.specs.declared.task.Task.{Task}
use Rattle.gc_worker.specs.History.Legal.{after_all}
use Rattle.gc_worker.specs.Laws.Between.{is_present}
use Rattle.gc_worker.specs.Steps.AtRest.{is_at_rest, is_at_rest_by}
use Rattle.gc_worker.specs.Workers.Fits.{FitsTask, IsGoneBy, IsOnSide}
use Rattle.gc_worker.specs.Workers.Held.{Held}
use Rattle.gc_worker.specs.Workers.Knows.{post_in}
use Rattle.ael_threads.specs.declared.view.Hand.{Hand}
use Rattle.ael_threads.specs.declared.view.Plan.{Plan}
use Rattle.ael_threads.specs.Calls.{RegistersStand, StaysSilent}
use Rattle.ael_threads.specs.Histories.{first_plain}
use Rattle.ael_threads.specs.Readers.{IsThere}
use Rattle.ael_threads.specs.Seats.{Acts, Heads, IsPresent, Seated, ShowsSeen, first_number, plain_after_seen}
use Rattle.ael_threads.proofs.WholeCalls.Acts.{heads_fit}
use Rattle.ael_threads.proofs.WholeCalls.AfterSnap.{stand_by}
use Rattle.ael_threads.proofs.WorkerSeats.Shown.{mutator_at}

-- ---- what it has

none_by : (x : Held) (stage : Stage) (task : Option Task) → x.task ≡ task → FitsTask x stage → is_at_rest_by stage task ≡ true → x.task ≡ None
none_by x Looks None is fits rests = is
none_by x Looks (Some task) is fits rests = absurd (cc)
none_by x (Serves d ToScanner) task is fits rests = fits
none_by x Gone task is fits rests = fits
none_by x _ task is fits rests = absurd (cc)

-- it has no task
pub none_at_rest : (plan : Plan) (x : Held) (hs : List Hand) → Heads plan x hs → is_at_rest x ≡ true → x.task ≡ None
none_at_rest plan x hs heads rests = none_by x x.stage x.task refl (heads_fit plan x hs heads).task rests

gone_ended : (b ended : Bool) → b ≡ true → IsGoneBy b ended → ended ≡ true
gone_ended true ended is gone = gone
gone_ended false ended is gone = absurd (cc)

looks_by : (x : Held) (stage : Stage) (task : Option Task) → IsOnSide stage (nat_lt x.number x.mutators) (is_some x.account.end) → nat_lt x.number x.mutators ≡ true → is_some x.account.end ≡ false
    → is_at_rest_by stage task ≡ true → stage ≡ Looks
looks_by x Looks task side less none rests = refl
looks_by x (Serves d ToScanner) task side less none rests = absurd (let e : true ≡ false = sym less ∙ side in cc)
looks_by x Gone task side less none rests = absurd (let e : true ≡ false = sym (gone_ended (nat_lt x.number x.mutators) (is_some x.account.end) less side) ∙ none in cc)
looks_by x _ task side less none rests = absurd (cc)

-- a mutator without an end looks
pub looks_at_rest : (plan : Plan) (x : Held) (hs : List Hand) → Heads plan x hs → x.number < x.mutators → is_at_rest x ≡ true → x.account.end ≡ None → x.stage ≡ Looks
looks_at_rest plan x hs heads less rests none =
    looks_by x x.stage x.task (heads_fit plan x hs heads).side (lt-ltb x.number x.mutators less) (ap is_some none) rests

-- who is gone rests
pub gone_rests : (x : Held) → x.stage ≡ Gone → is_at_rest x ≡ true
gone_rests x gone = ap (λ (stage : Stage). is_at_rest_by stage x.task) gone

-- ---- how it came to rest

-- nothing was heard of it, so it has the end that it had
pub same_end_silent : (a b : Seated) → IsThere a → ShowsSeen a.worker a.knows → ShowsSeen b.worker b.knows → StaysSilent a b → b.worker.account.end ≡ a.worker.account.end
same_end_silent a b there before after q =
    let number = there.0 in
    let below = there.1 in
    let w = mutator_at (plain_after_seen a.knows).mutators (first_number a.knows.hands) (omega (arith, number, below)) in
    let seen : plain_after_seen b.knows ≡ plain_after_seen a.knows = (λ i. after_all (first_plain (q.rests.plan i)) (q.rests.seen i)) in
    let later : slice_get (plain_after_seen b.knows).mutators (first_number b.knows.hands) ≡ Some w.0 = (λ i. slice_get (seen i).mutators (q.rests.number i)) ∙ w.1 in
    (after w.0 later).end ∙ sym (before w.0 w.1).end

-- after an act by which it looks at the gate its registers stand
pub stands_looking : (b c : Seated) (s : Stepped) → Acts b s c → c.worker.account.end ≡ None → c.worker.stage ≡ Looks → RegistersStand c
stands_looking b c s h none looks = by_step s h
  where
    present : IsPresent c.worker
    present = (none, ap (λ (stage : Stage). is_present (post_in c.worker stage)) looks)

    by_step : (s : Stepped) → Acts b s c → RegistersStand c
    by_step stepped.Idle h = absurd (let e : Looks ≡ Gone = sym looks ∙ (ap (λ (z : Seated). z.worker.stage) h.0 ∙ h.1) in cc)
    by_step stepped.Moved h = stand_by b c h.0 stepped.Moved h.1 present
    by_step stepped.Traced h = stand_by b c h.0 stepped.Traced h.1 present
    by_step (stepped.Effect m) h = stand_by b c h.0 (stepped.Effect m) h.1 present
    by_step (stepped.Flipped n) h = stand_by b c h.0 (stepped.Flipped n) h.1 present
    by_step (stepped.Ended m end) h = stand_by b c h.0 (stepped.Ended m end) h.1 present
