-- The beginning of a checkpoint: the gate is loaded until nobody runs, which teaches nothing more, and SNAP is exchanged. By that the
-- mutator's task is answered, and the plain heap keeps its board and its records.
use Rattle.std.proofs.Common.{◌≡◌, ℕ, ◌+◌, ◌%◌, ◌==◌, Bool, true, false, cond, Some, None, Ok, refl, ap, sym, subst, ◌∙◌}
use Rattle.std.proofs.lemmas.Bool.{eqb-true}
use Rattle.plain_state.specs.declared.sizes.TheConstants.{NUMBERS}
use Rattle.plain_state.specs.State.{Mutator, Plain}
use Rattle.plain_state.specs.Writing.{took, with_heap}
use Rattle.mutator_asm.specs.declared.instr.Instr.{Instr}
use Rattle.mutator_asm.specs.declared.instr.Instr.TheVariants.{Snap}
use Rattle.plain_heap.specs.declared.action.Action.TheVariants.{Snaps}
use Rattle.plain_heap.specs.Call as plain
use Rattle.plain_heap.specs.Call.{call}
use Rattle.atom_store.specs.declared.step.Step.TheVariants.{Load, Exchange}
use Rattle.atom_store.specs.declared.reply.Reply.TheVariants.{Value, Won, Lost}
use Rattle.space_map.specs.declared.gate_word.GateWord.{GateWord}
use Rattle.space_map.specs.GateWord.{decode_gate}
use Rattle.space_map.specs.Table.{Gate, SnapNumber, place_of}
use Rattle.gate_core.specs.declared.snap.snap_stage.SnapStage.{SnapStage}
use Rattle.gate_core.specs.declared.snap.snap_stage.SnapStage.TheVariants.{LoadsGate, ExchangesSnap, Ended}
use Rattle.gate_core.specs.declared.snap.snapped.Snapped.TheVariants.{NotYet}
use Rattle.gate_core.specs.Snap.{Snapping, looked, told_at}
use Rattle.heap_state.specs.Configuration.{Configuration, Stands, table, era, memory, team}
use Rattle.heap_state.specs.Memory.Entries.{SnapIs}
use Rattle.heap_state.specs.Known.{Known}
use Rattle.heap_laws.specs.Fields.Held.{with_mutator}
use Rattle.heap_laws.specs.Fields.Stores.{IsAs}
use Rattle.heap_laws.specs.Saving.Snapping.{about_to_clear}
use Rattle.heap_laws.proofs.Gate.GateCounts as counts
use Rattle.heap_laws.proofs.Saving.Snappers.{snappers_step}
use Rattle.gc_worker.specs.declared.stage.Stage.TheVariants.{BeginsCheckpoint}
use Rattle.gc_worker.specs.Plain.Seen.{seen}
use Rattle.gc_worker.specs.Steps.Goes.{Is, Goes, StepsSo}
use Rattle.gc_worker.specs.Steps.Turned.{Silent, begins_checkpoint, next_of, told_snap, turned_snap}
use Rattle.gc_worker.specs.Workers.Fits.{Fits, ExecutesAction}
use Rattle.gc_worker.specs.Workers.Held.{Held, at_stage}
use Rattle.gc_worker.specs.Workers.Knows.{knows}
use Rattle.gc_worker.proofs.Plain.AnswerSteps.{LawTo, IsIts, next_as, own_mutator}
use Rattle.gc_worker.proofs.Plain.Effects.{call_answers}
use Rattle.gc_worker.proofs.Plain.OnlySnap.{snap_takes, snaps_alone}
use Rattle.gc_worker.proofs.Stages.Gate.Resuming.{end_none}
use Rattle.gc_worker.proofs.Stages.Gate.GateWords.{wants, gate_now, gate_says}
use Rattle.gc_worker.proofs.Words.RowSteps.{becomes, exchanges, loads, nothing, prepared}
use Rattle.gc_worker.proofs.Workers.KeptParts.{has_room, refit}

module _ (c : Configuration) (p : Plain) (s : Stands c p) (k : ℕ) (y : Held) where
  abbrev snapping : SnapStage → Snapping
  snapping stage = record { layout = y.layout; number = y.snap; stage = stage }

  abbrev at : SnapStage → Held
  at stage = at_stage y (BeginsCheckpoint (snapping stage))

  -- ---- the gate

  module _ (is : Is c k (at LoadsGate)) where
    abbrev gate : GateWord
    gate = (table c).gate

    -- once it is loaded
    abbrev next : SnapStage → Held
    next stage = turned_snap (at LoadsGate) (snapping stage) (told_at stage)

    finds : (stage : SnapStage) → looked (gate_now c) (decode_gate (gate_now c)) ≡ stage → knows (at LoadsGate) ≡ knows (next stage) → told_snap y.task (told_at stage) ≡ Silent
        → Fits c.pages c.mutators k (next stage) → Goes c p s k None (at LoadsGate) (Value (gate_now c))
    finds stage reads same silent fits =
        becomes c p s k (at LoadsGate) None (Value (gate_now c)) (next stage) s.ghost (ap next reads) is.below (nothing c p s k (at LoadsGate) is (knows (next stage)) same)
        (ap (λ (t : SnapStage). told_snap y.task (told_at t)) reads ∙ silent) refl tt fits

    abbrev by_test : Bool → SnapStage
    by_test b = cond b (ExchangesSnap gate) (Ended (NotYet (gate_now c)))

    reads : (b : Bool) → (gate.running == 0) ≡ b → looked (gate_now c) (decode_gate (gate_now c)) ≡ by_test b
    reads b test = ap (looked (gate_now c)) (gate_says c p s) ∙ ap by_test test

    still : (gate.running == 0) ≡ true → Fits c.pages c.mutators k (at (ExchangesSnap gate))
    still none =
        let own = is.fits.stage in
        refit c.pages c.mutators k (at LoadsGate) is.fits (BeginsCheckpoint (snapping (ExchangesSnap gate))) is.fits.end is.fits.side is.fits.task
        (record {
          layout = refl;
          number = refl;
          may = own.may;
          going = tt;
          sound = record {
            pages = own.sound.pages;
            number = own.sound.number;
            stage = record { fits = counts.fits (era c) (memory c) (team c) s.ghost s.invariant; none_runs = eqb-true gate.running 0 none };
          };
        })

    goes : (b : Bool) → (gate.running == 0) ≡ b → Goes c p s k None (at LoadsGate) (Value (gate_now c))
    goes true test = finds (ExchangesSnap gate) (reads true test) refl refl (still test)
    goes false test = finds (Ended (NotYet (gate_now c))) (reads false test) refl refl is.fits

    loads_gate : StepsSo c p s k (at LoadsGate)
    loads_gate =
        wants c p s k (at LoadsGate) (Load (place_of c.pages Gate)) (ap (λ n. Some (Load (place_of n Gate))) is.fits.pages)
        (loads c p s k (at LoadsGate) Gate tt (goes (gate.running == 0) refl))

  -- ---- SNAP

  module _ (gate : GateWord) (is : Is c k (at (ExchangesSnap gate))) where
    abbrev x : Held
    x = at (ExchangesSnap gate)

    abbrev z : Held
    z = begins_checkpoint x gate

    unended : x.account.end ≡ None
    unended = end_none x.account.end is.fits.end

    -- its mutator in the plain machine, and its task
    own : (q : Mutator) × IsIts c p s k x q
    own = own_mutator c p s k x is unended refl

    abbrev q : Mutator
    q = own.0

    calls : (instr : Instr) → instr ≡ Snap → call k p.heap q instr ≡ Ok (record { heap = took p.heap; mutator = plain.went_on q })
    calls instr is_snap = subst (λ (i : Instr). call k p.heap q i ≡ Ok (record { heap = took p.heap; mutator = plain.went_on q })) (sym is_snap) (snap_takes k p.heap q)

    as_plain : IsAs s.ghost p.heap k (about_to_clear (knows x) z.account gate) (plain.went_on q)
    as_plain =
        let same = own.1.same in
        let counter : next_of x ≡ (q.counter + 1) % NUMBERS = ap (λ (n : ℕ). (n + 1) % NUMBERS) same.account.counter in
        let a = next_as c p s k x q own.1 (next_of x) ((q.counter + 1) % NUMBERS) x.account.printed q.printed counter same.account.printed in
        record { account = a.account; registers = a.registers }

    law : LawTo c p s k x (Some (SnapIs (y.snap + 1))) (knows z) s.ghost (with_mutator (with_heap p (took p.heap)) k (plain.went_on q))
    law =
        subst (λ (w : Known). LawTo c p s k x (Some (SnapIs (y.snap + 1))) (about_to_clear w z.account gate) s.ghost (with_mutator (with_heap p (took p.heap)) k (plain.went_on q))) is.as_known
        (snappers_step (era c) (memory c) (team c) s.ghost p k (y.snap + 1) z.account gate (plain.went_on q) (prepared c p s k x is) (ap (λ (w : Known). w.post) is.as_known) s.shown
        (sym (ap (λ (w : Known). w.account.serial) is.as_known)) unended
        (subst (λ (w : Known). IsAs s.ghost p.heap k (about_to_clear w z.account gate) (plain.went_on q)) (sym is.as_known) as_plain))

    fits : Fits c.pages c.mutators k z
    fits = record {
      worker = is.fits.worker;
      end = is.fits.end;
      side = is.fits.side;
      task = (tt, refl);
      stage = record {
        layout = refl;
        passage = has_room y.layout.checkpoints y.snap is.fits.stage.may;
        going = tt;
        sound = record { pages = is.fits.stage.sound.pages; stage = record { fits = is.fits.stage.sound.stage.fits; allowed = refl; counts = tt } };
      };
    }

    wins : Goes c p s k (Some (SnapIs (y.snap + 1))) x Won
    wins =
        let task : ExecutesAction x.account x.registers x.task Snaps = is.fits.task in
        call_answers c p s k x is q own.1 (Some (SnapIs (y.snap + 1))) Won z task.instr (record { heap = took p.heap; mutator = plain.went_on q }) task.task_is refl refl refl
        (calls task.instr (snaps_alone (seen x.account x.registers) task.instr task.acts)) law tt fits

    loses : (word : ℕ) → Goes c p s k None x (Lost word)
    loses word = becomes c p s k x None (Lost word) x s.ghost refl is.below (nothing c p s k x is (knows x) refl) refl refl tt is.fits

    exchanges_snap : StepsSo c p s k x
    exchanges_snap =
        wants c p s k x (Exchange (place_of c.pages SnapNumber) y.snap (y.snap + 1)) (ap (λ n. Some (Exchange (place_of n SnapNumber) y.snap (y.snap + 1))) is.fits.pages)
        (exchanges c p s k x (SnapIs (y.snap + 1)) y.snap tt (λ same. wins) (λ other. loses _))

  -- ---- each stage

  by_stage : (stage : SnapStage) → Is c k (at stage) → StepsSo c p s k (at stage)
  by_stage LoadsGate is = loads_gate is
  by_stage (ExchangesSnap gate) is = exchanges_snap gate is
  by_stage (Ended result) is = absurd is.fits.stage.going

  pub snaps : (z : Snapping) → Is c k (at_stage y (BeginsCheckpoint z)) → StepsSo c p s k (at_stage y (BeginsCheckpoint z))
  snaps z is =
      let same : z ≡ snapping z.stage = (λ i. record { layout = is.fits.stage.layout i; number = is.fits.stage.number i; stage = z.stage }) in
      subst (λ (w : Snapping). StepsSo c p s k (at_stage y (BeginsCheckpoint w))) (sym same)
      (by_stage z.stage (subst (λ (w : Snapping). Is c k (at_stage y (BeginsCheckpoint w))) same is))
