-- A lone mutator that begins to run reads which checkpoint is in progress, and goes on.
use Rattle.std.proofs.Common.{◌≡◌, ℕ, ◌<◌, ◌^◌, Option, Some, nat_lt, true, refl, sym, ap, subst, ◌∙◌, arith, ⊎_elim}
use Rattle.std.proofs.lemmas.Bool.{lt-ltb}
use Rattle.plain_state.specs.State.{Plain}
use Rattle.atom_store.specs.declared.step.Step.TheVariants.{Load}
use Rattle.space_map.specs.Spaces.{Layout}
use Rattle.space_map.specs.Table.{SnapNumber, LastSaved, place_of}
use Rattle.gate_core.specs.declared.recall.recall_stage.RecallStage.{RecallStage}
use Rattle.gate_core.specs.declared.recall.recall_stage.RecallStage.TheVariants.{LoadsSnap, LoadsDone, Ended}
use Rattle.gate_core.specs.Recall.{Recalling, read_done, read_snap, running_of, told_at}
use Rattle.heap_state.specs.Configuration.{Configuration, Stands, table}
use Rattle.heap_state.specs.Memory.Table.{word_in}
use Rattle.heap_state.specs.Saving.Words.{saves_of}
use Rattle.gc_worker.specs.declared.stage.after.After.{After}
use Rattle.gc_worker.specs.declared.stage.after.After.TheVariants as afters
use Rattle.gc_worker.specs.declared.stage.Stage.TheVariants.{Recalls}
use Rattle.gc_worker.specs.Workers.Fits.{FitsTaskAfter}
use Rattle.gc_worker.specs.Workers.Held.{Held, at_stage}
use Rattle.gc_worker.specs.Steps.Turned.{goes_on, recalled, turned_recall}
use Rattle.lone_mutator.specs.Bound.{flips_cost, growths}
use Rattle.lone_mutator.specs.Law.{IsAlone, Lowers, SavesStand, StepsLower, saves}
use Rattle.lone_mutator.specs.Lone.{GoesOnPlacing}
use Rattle.lone_mutator.specs.Potential.{after_left, due_in, flips_left, growing_left, size_in}
use Rattle.lone_mutator.proofs.Stages.Gate.LoneGateCounts.{present}
use Rattle.lone_mutator.proofs.Steps.ResumedCosts.{GoesAt, goes_placing}
use Rattle.lone_mutator.proofs.Steps.Owed.{loads, wants}
use Rattle.lone_mutator.proofs.Stages.Checkpoints.SaveRoundLoads.{is_number}

module _ (c : Configuration) (p : Plain) (s : Stands c p) (y : Held) (l : Layout) (after : After) where
  abbrev reading : RecallStage → Recalling
  reading stage = record { layout = l; stage = stage }

  abbrev at : RecallStage → Held
  at stage = at_stage y (Recalls (reading stage) after)

  module _ (stage : RecallStage) (a : IsAlone c (at stage)) where
    stands : SavesStand c (at stage)
    stands = a.stands a.is.fits.stage.room

    pages : l.pages ≡ c.pages
    pages = ap (λ (m : Layout). m.pages) a.is.fits.stage.layout ∙ a.is.fits.pages

    -- SNAP and DONE are numbers of checkpoints
    snap_fits : word_in c.pages c.words SnapNumber < 2 ^ 32
    unfolding saves_of
    snap_fits = stands.words.order.2

    done_fits : word_in c.pages c.words LastSaved < 2 ^ 32
    unfolding saves_of
    done_fits = let order = stands.words.order in omega (arith, order)

    abbrev Reads : RecallStage → Type 0
    Reads next = Lowers c.pages (saves c) (table c) (table c) (at stage) (turned_recall (at stage) (reading next) after (told_at next))

  loads_snap : IsAlone c (at LoadsSnap) → StepsLower c (at LoadsSnap)
  loads_snap a =
      wants c p s (at LoadsSnap) (Load (place_of c.pages SnapNumber)) (ap (λ n. Some (Load (place_of n SnapNumber))) (pages LoadsSnap a))
      (loads c p s (at LoadsSnap) SnapNumber tt
      (subst (λ (o : Option ℕ). Reads LoadsSnap a (read_snap o)) (sym (is_number _ (snap_fits LoadsSnap a)))
      (record { remembers = record { began = a.remembers.began; quiet = a.remembers.quiet; stands = a.remembers.stands }; falls = omega arith })))

  module _ (number : ℕ) (a : IsAlone c (at (LoadsDone number))) where
    abbrev x : Held
    x = at (LoadsDone number)

    -- the mutator that has read them
    abbrev done : ℕ
    done = word_in c.pages c.words LastSaved

    abbrev z : Held
    z = recalled x (record { number = number; running = running_of number done })

    now : y.epoch ≡ (table c).gate.epoch
    now = present c p s x a refl

    abbrev Goes : After → Type 0
    Goes goes = GoesAt c.pages (saves c) (table c) (at_stage z (goes_on z goes)) (after_left c.pages (growing_left c.pages (size_in (table c))) (due_in c.pages (table c)) goes)

    placing : (stops : GoesOnPlacing (table c).gate.epoch y.begun after) → Goes afters.Places
    placing stops =
        let seen : nat_lt y.begun y.epoch ≡ true = lt-ltb y.begun y.epoch (let e = stops.earlier in omega (arith, e, now)) in
        let none : flips_left c.pages (size_in (table c)) z ≡ growths c.pages (size_in (table c)) = rw seen (omega arith) in
        let flips = ap (flips_cost c.pages) none in
        let goes = goes_placing c.pages (saves c) (table c) z a.is.fits.pages (let e = stops.earlier in omega (arith, e, now)) a.remembers.quiet (subst (FitsTaskAfter x) stops.places a.is.fits.task) in
        let within = goes.within in
        record { remembers = goes.remembers; within = omega (arith, within, flips) }

    looking : Goes afters.Looks
    looking = record { remembers = record { began = λ past. absurd past; quiet = a.remembers.quiet; stands = tt }; within = omega arith }

    goes : Goes after
    goes = ⊎_elim
        (λ (stops : GoesOnPlacing (table c).gate.epoch y.begun after). subst Goes (sym stops.places) (placing stops))
        (λ (looks : after ≡ afters.Looks). subst Goes (sym looks) looking)
        a.remembers.stands

    loads_done : StepsLower c x
    loads_done =
        wants c p s x (Load (place_of c.pages LastSaved)) (ap (λ n. Some (Load (place_of n LastSaved))) (pages (LoadsDone number) a))
        (loads c p s x LastSaved tt
        (subst (λ (o : Option ℕ). Reads (LoadsDone number) a (read_done number o)) (sym (is_number done (done_fits (LoadsDone number) a)))
        (record { remembers = goes.remembers; falls = (let within = goes.within in omega (arith, within)) })))

  by_stage : (stage : RecallStage) → IsAlone c (at stage) → StepsLower c (at stage)
  by_stage LoadsSnap a = loads_snap a
  by_stage (LoadsDone number) a = loads_done number a
  by_stage (Ended result) a = absurd a.is.fits.stage.going

pub recalls : (c : Configuration) (p : Plain) (s : Stands c p) (y : Held) (r : Recalling) (after : After) → IsAlone c (at_stage y (Recalls r after)) → StepsLower c (at_stage y (Recalls r after))
recalls c p s y r after a = by_stage c p s y r.layout after r.stage a
