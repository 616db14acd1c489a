-- The first reads of a round for the checkpoint in progress: a scanner's of the gate, SNAP, DONE, and the gate again; a mutator's of SNAP
-- and DONE.
use Rattle.std.proofs.Common.{◌≡◌, ◌≢◌, ℕ, ◌+◌, ◌^◌, ◌==◌, Bool, true, false, cond, nat_lt, Some, refl, sym, ap, ◌∙◌}
use Rattle.std.specs.Prelude.{◌&&◌, not}
use Rattle.std.proofs.lemmas.Bool.{eq-eqb, eqb-false, eqb-true}
use Rattle.plain_state.specs.State.{Plain}
use Rattle.atom_store.specs.declared.reply.Reply.TheVariants.{Value}
use Rattle.atom_store.specs.declared.step.Step.{Step}
use Rattle.space_map.specs.declared.gate_word.GateWord.{GateWord}
use Rattle.space_map.specs.GateWord.{decode_gate}
use Rattle.space_map.specs.Spaces.{board_page}
use Rattle.space_map.specs.Table.{Gate, SnapNumber, LastSaved}
use Rattle.space_map.specs.WholeTable.{Within}
use Rattle.heap_state.specs.Configuration.{Configuration, table}
use Rattle.heap_state.specs.Memory.Table.{word_in}
use Rattle.heap_state.specs.Saving.Frozen.{Frozen}
use Rattle.heap_state.specs.Saving.Savers.{Saver, NoReads, GateRead, DoneRead}
use Rattle.heap_state.specs.Known.{Known, is_running}
use Rattle.heap_laws.specs.Saving.Rounds.{BeginsRound, FindsRest, ReadsDone, ReadsGate, ReadsGateAgain, ReadsSnap, round_begun, saver_after_reads}
use Rattle.page_saves.specs.declared.save_caller.SaveCaller.{SaveCaller}
use Rattle.page_saves.specs.declared.save_caller.SaveCaller.TheVariants.{Mutates, Scans}
use Rattle.page_saves.specs.declared.save_round_end.SaveRoundEnd.TheVariants.{NoneRuns, NothingNow}
use Rattle.page_saves.specs.declared.save_round_stage.SaveRoundStage.{SaveRoundStage}
use Rattle.page_saves.specs.declared.save_round_stage.SaveRoundStage.TheVariants.{LoadsGate, LoadsSnap, LoadsDone, LoadsGateAgain, Ended}
use Rattle.page_saves.specs.SaveRound as save_round
use Rattle.page_saves.specs.SaveRound.{SavingRound, all_left, first_page, looked_at_gate, number_in}
use Rattle.gc_worker.specs.declared.stage.goal.Goal.{Goal}
use Rattle.gc_worker.specs.declared.stage.goal.Goal.TheVariants.{ForFlip, ForSnap, ForScanner}
use Rattle.gc_worker.specs.Steps.Turned.{turned_save_round}
use Rattle.gc_worker.specs.Steps.Wanted.{wanted}
use Rattle.gc_worker.specs.Workers.Fits.{IsRoundOfMutator}
use Rattle.gc_worker.specs.Workers.Held.{Held}
use Rattle.gc_worker.specs.Workers.Knows.{knows}
use Rattle.gc_worker.specs.Workers.Saves.{reads_for, round_to, saver_of}
use Rattle.gc_worker.proofs.Saving.Checkpoints.CheckpointRoundEnds.{By, WithIt, comes_to, ends_reads, learnt, loads_it, table_pages, without_reads}
use Rattle.gc_worker.proofs.Saving.Frame.Read.{done_now, own_stands, snap_now}
use Rattle.gc_worker.proofs.Saving.Frame.Step.{Before, SavesStep, saves}
use Rattle.gc_worker.proofs.Stages.Checkpoints.NextCheckpointStage.{round}
use Rattle.gc_worker.proofs.Stages.Checkpoints.Rounded.{at}
use Rattle.gc_worker.proofs.Stages.Gate.GateWords.{gate_now, gate_says}

-- a round begins with the board
pub round_first : (r : SavingRound) → round_to r (board_page r.layout.pages) false ≡ round_begun r.layout.pages r.number r.epoch
round_first r = rw (eq-eqb (board_page r.layout.pages) (board_page r.layout.pages) refl) refl

module _ (c : Configuration) (p : Plain) (z : Frozen) (saver : ℕ → Saver) (k : ℕ) (y : Held) (r : SavingRound) where
  abbrev Stage : Goal → SaveRoundStage → Held
  Stage goal stage = at y (round r stage) goal

  abbrev Kept : Goal → SaveRoundStage → Type 0
  Kept goal stage = (q : Step) → wanted (Stage goal stage) ≡ Some q → SavesStep c p saver k (Stage goal stage) q

  abbrev Begins : Goal → SaveRoundStage → Type 0
  Begins goal stage = Before c p z saver k (Stage goal stage)

  -- ---- the gate, by a scanner

  module _ (b : Begins ForScanner LoadsGate) where
    abbrev gate : GateWord
    gate = (table c).gate

    scans_by : (left : Bool) → all_left r.caller gate ≡ left → By c p z saver k y (round r LoadsGate) ForScanner b (Value (gate_now c))
    scans_by true all =
        comes_to c p z saver k y (round r LoadsGate) ForScanner b (Value (gate_now c)) (round r (Ended (NothingNow (gate_now c)))) (saver_of (Stage ForScanner LoadsGate))
        (ap (looked_at_gate (round r LoadsGate) (gate_now c)) (gate_says c p b.stands)
        ∙ ap (λ (t : Bool). cond t (round r (Ended (NothingNow (gate_now c)))) (record r { epoch = gate.epoch; stage = LoadsSnap })) all) refl
        (own_stands c p z saver k (Stage ForScanner LoadsGate) b)
    scans_by false some =
        let w : Saver = record (saver_of (Stage ForScanner LoadsGate)) { reads = GateRead gate.epoch } in
        comes_to c p z saver k y (round r LoadsGate) ForScanner b (Value (gate_now c)) (record r { epoch = gate.epoch; stage = LoadsSnap }) w
        (ap (looked_at_gate (round r LoadsGate) (gate_now c)) (gate_says c p b.stands)
        ∙ ap (λ (t : Bool). cond t (round r (Ended (NothingNow (gate_now c)))) (record r { epoch = gate.epoch; stage = LoadsSnap })) some) refl
        (learnt c p z saver k y (round r LoadsGate) ForScanner b w (ReadsGate gate.epoch refl))

    scans_gate : Kept ForScanner LoadsGate
    scans_gate = loads_it c p z saver k y (round r LoadsGate) ForScanner b (Within Gate) tt refl (scans_by (all_left r.caller gate) refl)

  pub loads_gate : (goal : Goal) → Begins goal LoadsGate → Kept goal LoadsGate
  loads_gate ForScanner b = scans_gate b
  loads_gate ForFlip b = absurd b.is.fits.stage.caller.0.number
  loads_gate ForSnap b = absurd b.is.fits.stage.caller.0.number

  -- ---- SNAP

  abbrev snap : ℕ
  snap = word_in c.pages c.words SnapNumber

  abbrev numbered : Bool → SavingRound
  numbered fits = cond fits (record r { number = snap; stage = LoadsDone }) (round r LoadsSnap)

  found : (fits : Bool) → nat_lt snap (2 ^ 32) ≡ fits → save_round.found_snap (round r LoadsSnap) (number_in snap) ≡ numbered fits
  found true test = rw test refl
  found false test = rw test refl

  module _ (goal : Goal) (b : Begins goal LoadsSnap) where
    abbrev next : Saver
    next = record (saver_of (Stage goal LoadsSnap)) { reads = reads_for goal (record r { number = snap; stage = LoadsDone }) }

    snap_by : WithIt c p z saver k y (round r LoadsSnap) goal b next → (fits : Bool) → nat_lt snap (2 ^ 32) ≡ fits → By c p z saver k y (round r LoadsSnap) goal b (Value snap)
    snap_by stands true test = comes_to c p z saver k y (round r LoadsSnap) goal b (Value snap) (numbered true) next (found true test) refl stands
    snap_by stands false test =
        comes_to c p z saver k y (round r LoadsSnap) goal b (Value snap) (numbered false) (saver_of (Stage goal LoadsSnap)) (found false test) refl
        (own_stands c p z saver k (Stage goal LoadsSnap) b)

  snap_known : (goal : Goal) (b : Begins goal LoadsSnap) → WithIt c p z saver k y (round r LoadsSnap) goal b (next goal b)
  snap_known ForScanner b = learnt c p z saver k y (round r LoadsSnap) ForScanner b (next ForScanner b) (ReadsSnap r.epoch snap refl (snap_now c))
  snap_known ForFlip b = own_stands c p z saver k (Stage ForFlip LoadsSnap) b
  snap_known ForSnap b = own_stands c p z saver k (Stage ForSnap LoadsSnap) b

  pub loads_snap : (goal : Goal) → Begins goal LoadsSnap → Kept goal LoadsSnap
  loads_snap goal b = loads_it c p z saver k y (round r LoadsSnap) goal b (Within SnapNumber) tt refl (snap_by goal b (snap_known goal b) (nat_lt snap (2 ^ 32)) refl)

  -- ---- DONE

  abbrev done : ℕ
  done = word_in c.pages c.words LastSaved

  abbrev after_done : (fits none : Bool) → SaveCaller → SaveRoundStage
  after_done fits none caller = cond fits (cond none (Ended (NoneRuns done)) (save_round.when_one_runs r caller)) LoadsDone

  found_done : (fits none : Bool) (caller : SaveCaller) → nat_lt done (2 ^ 32) ≡ fits → (done == r.number) ≡ none → r.caller ≡ caller
      → save_round.found_done (round r LoadsDone) (number_in done) ≡ after_done fits none caller
  found_done true true caller test is by = rw (test, is) refl
  found_done true false caller test is by = rw (test, is, by) refl
  found_done false none caller test is by = rw test refl

  module _ (goal : Goal) (b : Begins goal LoadsDone) where
    abbrev now : Held
    now = Stage goal LoadsDone

    abbrev Goes : Type 0
    Goes = By c p z saver k y (round r LoadsDone) goal b (Value done)

    done_by : (caller : SaveCaller) → r.caller ≡ caller → (w : Saver) (fits none : Bool) → nat_lt done (2 ^ 32) ≡ fits → (done == r.number) ≡ none
        → saver_of (turned_save_round now (round r (after_done fits none caller)) goal (save_round.told_at (after_done fits none caller))) ≡ w
        → WithIt c p z saver k y (round r LoadsDone) goal b w → Goes
    done_by caller by w fits none test is same stands =
        comes_to c p z saver k y (round r LoadsDone) goal b (Value done) (round r (after_done fits none caller)) w (ap (round r) (found_done fits none caller test is by)) same stands

    other : (done == r.number) ≡ false → (saves c).done ≢ r.number
    other test same = eqb-false done r.number test (sym (done_now c) ∙ same)

    again : (caller : SaveCaller) → r.caller ≡ caller → nat_lt done (2 ^ 32) ≡ false → Goes
    again caller by test = done_by caller by (saver_of now) false (done == r.number) test refl refl (own_stands c p z saver k now b)

  -- a mutator's
  module _ (goal : Goal) (b : Begins goal LoadsDone) (own : IsRoundOfMutator (Stage goal LoadsDone) (round r LoadsDone)) (running : is_running (knows (Stage goal LoadsDone)).post ≡ true)
      (recalled : (saver_of (Stage goal LoadsDone)).recalled ≡ true) (seen : (knows (Stage goal LoadsDone)).traced_seen ≡ true) (none_reads : reads_for goal (round r (first_page r)) ≡ reads_for goal (round r LoadsDone))
      (epoch_is : (knows (Stage goal LoadsDone)).epoch ≡ y.epoch)
      (asks : saver_of (turned_save_round (Stage goal LoadsDone) (round r (Ended (NoneRuns done))) goal (save_round.told_at (Ended (NoneRuns done)))) ≡ record (saver_of (Stage goal LoadsDone)) { settled = true }) where
    present : (table c).gate.epoch ≡ y.epoch
    present =
        let timely = (b.stands.invariant.workers k b.is.below).timely.running (ap (λ (w : Known). is_running w.post) b.is.as_known ∙ running) in
        sym timely ∙ (ap (λ (w : Known). w.epoch) b.is.as_known ∙ epoch_is)

    traced : (table c).traced ≡ (table c).gate.epoch + 1
    traced = ((b.stands.invariant.workers k b.is.below).seen_traced (ap (λ (w : Known). w.traced_seen) b.is.as_known ∙ seen)).1

    mutates_by : (fits none : Bool) → nat_lt done (2 ^ 32) ≡ fits → (done == r.number) ≡ none → By c p z saver k y (round r LoadsDone) goal b (Value done)
    mutates_by false none test is = again goal b Mutates own.caller test
    mutates_by true true test is =
        done_by goal b Mutates own.caller (record (saver_of (Stage goal LoadsDone)) { settled = true }) true true test is asks
        (learnt c p z saver k y (round r LoadsDone) goal b (record (saver_of (Stage goal LoadsDone)) { settled = true })
        (FindsRest recalled (done_now c ∙ (eqb-true done r.number is ∙ own.number)) traced))
    mutates_by true false test is =
        let w : Saver = record (saver_of (Stage goal LoadsDone)) { round = Some (round_begun (table c).pages r.number r.epoch) } in
        done_by goal b Mutates own.caller w true false test is
        (λ i. record (saver_of (Stage goal LoadsDone)) { reads = none_reads i; round = Some ((round_first r ∙ ap (λ (n : ℕ). round_begun n r.number r.epoch) (table_pages c p z saver k y (round r LoadsDone) goal b)) i) })
        (learnt c p z saver k y (round r LoadsDone) goal b w
        (BeginsRound r.number r.epoch recalled (sym own.number) (other goal b is) (present ∙ sym own.epoch)))

  -- a scanner's
  module _ (b : Begins ForScanner LoadsDone) where
    scans_done : (fits none : Bool) → nat_lt done (2 ^ 32) ≡ fits → (done == r.number) ≡ none → By c p z saver k y (round r LoadsDone) ForScanner b (Value done)
    scans_done false none test is = again ForScanner b (Scans y.mutators) b.is.fits.stage.caller.caller test
    scans_done true true test is =
        done_by ForScanner b (Scans y.mutators) b.is.fits.stage.caller.caller (saver_after_reads (saver_of (Stage ForScanner LoadsDone))) true true test is
        (ends_reads y (round r LoadsDone) ForScanner (NoneRuns done) tt refl refl) (without_reads c p z saver k y (round r LoadsDone) ForScanner b)
    scans_done true false test is =
        let w : Saver = record (saver_of (Stage ForScanner LoadsDone)) { reads = DoneRead r.epoch r.number } in
        done_by ForScanner b (Scans y.mutators) b.is.fits.stage.caller.caller w true false test is refl
        (learnt c p z saver k y (round r LoadsDone) ForScanner b w (ReadsDone r.epoch r.number refl (other ForScanner b is)))

  recalls : (room : Bool) → room ≡ true → (room && true && not false) ≡ true
  recalls room is = ap (λ (t : Bool). t && true && not false) is

  done_goes : (goal : Goal) (b : Begins goal LoadsDone) → By c p z saver k y (round r LoadsDone) goal b (Value done)
  done_goes ForScanner b = scans_done b (nat_lt done (2 ^ 32)) (done == r.number) refl refl
  done_goes ForFlip b =
      mutates_by ForFlip b b.is.fits.stage.caller.0 refl (recalls y.layout.checkpoints b.room) refl refl refl refl (nat_lt done (2 ^ 32)) (done == r.number) refl refl
  done_goes ForSnap b =
      mutates_by ForSnap b b.is.fits.stage.caller.0 refl (recalls y.layout.checkpoints b.room) refl refl refl refl (nat_lt done (2 ^ 32)) (done == r.number) refl refl

  pub loads_done : (goal : Goal) → Begins goal LoadsDone → Kept goal LoadsDone
  loads_done goal b = loads_it c p z saver k y (round r LoadsDone) goal b (Within LastSaved) tt refl (done_goes goal b)

  -- ---- the gate again, by a scanner

  module _ (b : Begins ForScanner LoadsGateAgain) where
    abbrev looks_again : Bool → SaveRoundStage
    looks_again same = cond same (first_page r) (Ended (NothingNow (gate_now c)))

    found_again : (same : Bool) → ((table c).gate.epoch == r.epoch) ≡ same → save_round.looked_at_gate_again (round r LoadsGateAgain) (gate_now c) (decode_gate (gate_now c)) ≡ looks_again same
    found_again same test = ap (save_round.looked_at_gate_again (round r LoadsGateAgain) (gate_now c)) (gate_says c p b.stands) ∙ ap looks_again test

    again_by : (same : Bool) → ((table c).gate.epoch == r.epoch) ≡ same → By c p z saver k y (round r LoadsGateAgain) ForScanner b (Value (gate_now c))
    again_by true test =
        let w : Saver = record (saver_of (Stage ForScanner LoadsGateAgain)) { reads = NoReads; round = Some (round_begun (table c).pages r.number r.epoch) } in
        comes_to c p z saver k y (round r LoadsGateAgain) ForScanner b (Value (gate_now c)) (round r (first_page r)) w (ap (round r) (found_again true test))
        (λ i. record (saver_of (Stage ForScanner LoadsGateAgain)) { reads = NoReads; round = Some ((round_first r ∙ ap (λ (n : ℕ). round_begun n r.number r.epoch) (table_pages c p z saver k y (round r LoadsGateAgain) ForScanner b)) i) })
        (learnt c p z saver k y (round r LoadsGateAgain) ForScanner b w (ReadsGateAgain r.epoch r.number refl (eqb-true (table c).gate.epoch r.epoch test)))
    again_by false test =
        comes_to c p z saver k y (round r LoadsGateAgain) ForScanner b (Value (gate_now c)) (round r (Ended (NothingNow (gate_now c)))) (saver_after_reads (saver_of (Stage ForScanner LoadsGateAgain)))
        (ap (round r) (found_again false test)) (ends_reads y (round r LoadsGateAgain) ForScanner (NothingNow (gate_now c)) tt refl refl)
        (without_reads c p z saver k y (round r LoadsGateAgain) ForScanner b)

    scans_again : Kept ForScanner LoadsGateAgain
    scans_again = loads_it c p z saver k y (round r LoadsGateAgain) ForScanner b (Within Gate) tt refl (again_by ((table c).gate.epoch == r.epoch) refl)

  pub loads_gate_again : (goal : Goal) → Begins goal LoadsGateAgain → Kept goal LoadsGateAgain
  loads_gate_again ForScanner b = scans_again b
  loads_gate_again ForFlip b = absurd b.is.fits.stage.caller.0.number
  loads_gate_again ForSnap b = absurd b.is.fits.stage.caller.0.number
