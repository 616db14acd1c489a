-- The beginning of a checkpoint by a lone mutator: nobody runs, and the exchange of SNAP is won.
use Rattle.std.proofs.Common.{◌≡◌, ◌+◌, ◌==◌, cond, Option, Some, refl, sym, ap, subst, arith}
use Rattle.std.proofs.lemmas.Bool.{eq-eqb}
use Rattle.plain_state.specs.State.{Plain}
use Rattle.atom_store.specs.declared.reply.Reply.TheVariants.{Won}
use Rattle.atom_store.specs.declared.step.Step.TheVariants.{Load, Exchange}
use Rattle.space_map.specs.declared.gate_word.GateWord.{GateWord}
use Rattle.space_map.specs.Table.{Gate, SnapNumber, place_of}
use Rattle.gate_core.specs.declared.snap.snap_stage.SnapStage.{SnapStage}
use Rattle.gate_core.specs.declared.snap.snap_stage.SnapStage.TheVariants.{LoadsGate, ExchangesSnap, Ended}
use Rattle.gate_core.specs.declared.snap.snapped.Snapped.TheVariants.{NotYet}
use Rattle.gate_core.specs.Snap.{Snapping, looked, told_at}
use Rattle.heap_state.specs.Configuration.{Configuration, Stands, table}
use Rattle.heap_state.specs.Memory.Entries.{SnapIs}
use Rattle.heap_state.specs.Memory.Table.{word_in}
use Rattle.heap_state.specs.Saving.Words.{saves_of}
use Rattle.gc_worker.specs.declared.stage.Stage.TheVariants.{BeginsCheckpoint}
use Rattle.gc_worker.specs.declared.task.Task.{Task}
use Rattle.gc_worker.specs.Workers.Held.{Held, at_stage}
use Rattle.gc_worker.specs.Steps.Turned.{told_effect, told_snap, turned, turned_snap}
use Rattle.gc_worker.proofs.Stages.Gate.GateWords.{gate_now, gate_says}
use Rattle.gc_worker.proofs.Workers.KeptParts.{has_room}
use Rattle.lone_mutator.specs.Law.{IsAlone, LowersWhereTold, PaysWhereTold, SavesStand, StepsLower, said, saves}
use Rattle.lone_mutator.proofs.Stages.Gate.LoneGateCounts.{running_is}
use Rattle.lone_mutator.proofs.Steps.Owed.{exchanges_any, loads, wants}

module _ (c : Configuration) (p : Plain) (s : Stands c p) (y : Held) where
  abbrev snapping : SnapStage → Snapping
  snapping stage = record { layout = y.layout; number = y.snap; stage = stage }

  abbrev at : SnapStage → Held
  at stage = at_stage y (BeginsCheckpoint (snapping stage))

  module _ (a : IsAlone c (at LoadsGate)) where
    abbrev g : GateWord
    g = (table c).gate

    abbrev Gates : SnapStage → Type 0
    Gates stage = LowersWhereTold c.pages (saves c) (table c) (table c) (at LoadsGate) (turned_snap (at LoadsGate) (snapping stage) (told_at stage)) (told_snap y.task (told_at stage))

    read : Gates (cond (g.running == 0) (ExchangesSnap g) (Ended (NotYet (gate_now c))))
    read = rw (eq-eqb g.running 0 (running_is c p s (at LoadsGate) a))
        (record { remembers = record { began = a.remembers.began; quiet = a.remembers.quiet; stands = tt }; falls = omega arith })

    loads_gate : StepsLower c (at LoadsGate)
    loads_gate =
        wants c p s (at LoadsGate) (Load (place_of c.pages Gate)) (ap (λ n. Some (Load (place_of n Gate))) a.is.fits.pages)
        (loads c p s (at LoadsGate) Gate tt (subst (λ (o : Option GateWord). Gates (looked (gate_now c) o)) (sym (gate_says c p s)) read))

  module _ (gate : GateWord) (a : IsAlone c (at (ExchangesSnap gate))) where
    abbrev x : Held
    x = at (ExchangesSnap gate)

    stands : SavesStand c x
    stands = a.stands (has_room y.layout.checkpoints y.snap a.is.fits.stage.may)

    -- SNAP is as the mutator has read it
    snap_is : word_in c.pages c.words SnapNumber ≡ y.snap
    unfolding saves_of
    snap_is = sym (stands.knows.settles refl).snap

    -- its task is done
    exchanges_snap : StepsLower c x
    exchanges_snap =
        wants c p s x (Exchange (place_of c.pages SnapNumber) y.snap (y.snap + 1)) (ap (λ n. Some (Exchange (place_of n SnapNumber) y.snap (y.snap + 1))) a.is.fits.pages)
        (exchanges_any c p s x stands.formed (SnapIs (y.snap + 1)) y.snap tt snap_is
        (subst (λ (task : Option Task). PaysWhereTold c.pages y.layout.checkpoints (said c.pages c.words) (record { table = table c; saves = record (saves c) { snap = y.snap + 1 } }) x (turned x Won) (told_effect task))
        (sym a.is.fits.task.task_is) a.remembers.quiet))

  by_stage : (stage : SnapStage) → IsAlone c (at stage) → StepsLower c (at stage)
  by_stage LoadsGate a = loads_gate a
  by_stage (ExchangesSnap gate) a = exchanges_snap gate a
  by_stage (Ended result) a = absurd a.is.fits.stage.going

  pub snaps : (z : Snapping) → IsAlone c (at_stage y (BeginsCheckpoint z)) → StepsLower c (at_stage y (BeginsCheckpoint z))
  snaps z a =
      let same : z ≡ snapping z.stage = (λ i. record { layout = a.is.fits.stage.layout i; number = a.is.fits.stage.number i; stage = z.stage }) in
      subst (λ (w : Snapping). StepsLower c (at_stage y (BeginsCheckpoint w))) (sym same)
      (by_stage z.stage (subst (λ (w : Snapping). IsAlone c (at_stage y (BeginsCheckpoint w))) same a))
