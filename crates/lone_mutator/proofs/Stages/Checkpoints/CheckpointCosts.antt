-- A save round of a lone mutator, at each stage of which what is still to be paid falls: also where it finishes the checkpoint.
use Rattle.std.proofs.Common.{◌≡◌, ◌+◌, ◌-◌, ◌<◌, ◌≤◌, Some, sym, ap, subst, ◌∙◌, arith}
use Rattle.plain_state.specs.State.{Plain}
use Rattle.atom_store.specs.declared.reply.Reply.TheVariants.{Won}
use Rattle.atom_store.specs.declared.step.Step.TheVariants.{Exchange}
use Rattle.space_map.specs.Table.{LastSaved}
use Rattle.space_map.specs.WholeTable.{Within, whole_place_of}
use Rattle.heap_state.specs.Configuration.{Configuration, Stands, table}
use Rattle.heap_state.specs.Memory.Entries.{Entry, LastSavedIs}
use Rattle.heap_state.specs.Memory.Table.{word_in}
use Rattle.heap_state.specs.Saving.Written.{saves_with}
use Rattle.page_saves.specs.declared.save_round_stage.SaveRoundStage.{SaveRoundStage}
use Rattle.page_saves.specs.declared.save_round_stage.SaveRoundStage.TheVariants.{LoadsGate, LoadsSnap, LoadsDone, LoadsGateAgain, Saves, ExchangesDone, Ended}
use Rattle.page_saves.specs.SaveRound.{SavingRound}
use Rattle.gc_worker.specs.declared.stage.goal.Goal.{Goal}
use Rattle.gc_worker.specs.declared.stage.Stage.{Stage}
use Rattle.gc_worker.specs.declared.stage.Stage.TheVariants.{Checkpoints}
use Rattle.gc_worker.specs.Workers.Held.{Held, at_stage}
use Rattle.gc_worker.proofs.Saving.Frame.Read.{done_now}
use Rattle.gc_worker.proofs.Stages.Checkpoints.NextCheckpointStage.{round}
use Rattle.gc_worker.proofs.Stages.Checkpoints.Rounded.{at}
use Rattle.lone_mutator.specs.Bound.{save_round_cost}
use Rattle.lone_mutator.specs.Law.{IsAlone, Pays, Said, StepsLower, said, saves}
use Rattle.lone_mutator.specs.Saving.{saving_in}
use Rattle.lone_mutator.proofs.Epochs.CheckpointDebt.{saving-some, saving_rests}
use Rattle.lone_mutator.proofs.Steps.Owed.{OwesAll, exchanges_any, wants}
use Rattle.lone_mutator.proofs.Stages.Checkpoints.NextCheckpointCost.{marked_so, mutates, of_mutator, own_snap, pages, stands}
use Rattle.lone_mutator.proofs.Stages.Checkpoints.SaveRoundLoads.{loads_done, loads_snap, looks}
use Rattle.lone_mutator.proofs.Stages.Checkpoints.RoundSaves.{saves_it}

module _ (c : Configuration) (p : Plain) (s : Stands c p) (y : Held) (r : SavingRound) (goal : Goal) where
  abbrev on : SaveRoundStage → Held
  on stage = at y (round r stage) goal

  -- ---- DONE is exchanged, and no checkpoint is in progress any more

  module _ (a : IsAlone c (on ExchangesDone)) where
    abbrev x : Held
    x = on ExchangesDone

    abbrev entry : Entry
    entry = LastSavedIs r.number

    abbrev then : Said
    then = record { table = table c; saves = saves_with entry (saves c) }

    number : r.number ≡ (saves c).snap
    number = (of_mutator c p s y r goal ExchangesDone a).number ∙ own_snap c p s y r goal ExchangesDone a

    runs : (saves c).done < (saves c).snap
    runs = a.remembers.stands.0

    stood : word_in c.pages c.words LastSaved ≡ r.number - 1
    stood =
        let order = (stands c p s y r goal ExchangesDone a).words.order in
        let same = done_now c in
        let own = number in
        let some = runs in
        omega (arith, order, same, own, some)

    -- the save round that is left pays for the next one
    paid : saving_in y.layout.checkpoints c.pages (saves_with entry (saves c)) + save_round_cost c.pages ≤ saving_in y.layout.checkpoints c.pages (saves c)
    paid =
        let room = a.is.fits.stage.room in
        let rests = saving_rests c.pages (saves_with entry (saves c)) number in
        let before = saving-some c.pages (saves c) (λ same. let some = runs in absurd (omega (arith, same, some))) in
        rw room (omega (arith, rests, before))

    goes_again : OwesAll c p s x (table c) (saves_with entry (saves c)) Won
    goes_again =
        subst (λ (z : Stage). Pays c.pages y.layout.checkpoints (said c.pages c.words) then x (at_stage x z)) (sym (marked_so x goal (mutates c p s y r goal ExchangesDone a)))
        (record {
          remembers = record { began = a.remembers.began; quiet = a.remembers.quiet; stands = (tt, mutates c p s y r goal ExchangesDone a) };
          falls = (let less = paid in let n = a.is.fits.pages in omega (arith, less, n));
        })

    exchanges_done : StepsLower c x
    exchanges_done =
        wants c p s x (Exchange (whole_place_of c.pages (Within LastSaved)) (r.number - 1) r.number)
        (ap (λ n. Some (Exchange (whole_place_of n (Within LastSaved)) (r.number - 1) r.number)) (pages c p s y r goal ExchangesDone a))
        (exchanges_any c p s x (stands c p s y r goal ExchangesDone a).formed entry (r.number - 1) tt stood goes_again)

  -- ---- all

  by_stage : (stage : SaveRoundStage) → IsAlone c (on stage) → StepsLower c (on stage)
  by_stage LoadsGate a = absurd (of_mutator c p s y r goal LoadsGate a).number
  by_stage LoadsSnap a = loads_snap c p s y r goal a
  by_stage LoadsDone a = loads_done c p s y r goal a
  by_stage LoadsGateAgain a = absurd (of_mutator c p s y r goal LoadsGateAgain a).number
  by_stage (Saves v) a = saves_it c p s y r goal v v.stage a
  by_stage ExchangesDone a = exchanges_done a
  by_stage (Ended result) a = absurd a.is.fits.stage.going
  by_stage stage a = looks c p s y r goal stage tt a

  pub saves_pages : IsAlone c (at_stage y (Checkpoints r goal)) → StepsLower c (at_stage y (Checkpoints r goal))
  saves_pages a = by_stage r.stage a
