-- A machine that has come to its end: another one is at work then, but for a worker that waits for others.
use Rattle.std.proofs.Common.{◌≡◌, ℕ, ◌+◌, ◌-◌, ◌==◌, Bool, true, false, cond, Option, Some, None, refl, sym, ap, subst, ◌∙◌, arith}
use Rattle.std.specs.Prelude.{⊤}
use Rattle.atom_store.specs.declared.reply.Reply.{Reply}
use Rattle.atom_store.specs.declared.reply.Reply.TheVariants.{Value, Won}
use Rattle.atom_store.specs.declared.turn.Turn.TheVariants.{Finished}
use Rattle.record_layout.specs.declared.header.Header.{Header}
use Rattle.alloc_end.specs.declared.allocated.Allocated.{Allocated}
use Rattle.alloc_end.specs.declared.allocated.Allocated.TheVariants.{Placed, Full}
use Rattle.alloc_end.specs.declared.run.Run.{Run}
use Rattle.alloc_end.specs.declared.shortage.Shortage.{Shortage}
use Rattle.alloc_end.specs.Place as place
use Rattle.fault_duty.specs.declared.round_end.RoundEnd.{RoundEnd}
use Rattle.fault_duty.specs.declared.round_end.RoundEnd.TheVariants.{Marked, Traced, NothingNow}
use Rattle.fault_duty.specs.Duty as duty
use Rattle.forwarding.specs.declared.to.To.{To}
use Rattle.gate_core.specs.declared.flipped.Flipped.{Flipped}
use Rattle.gate_core.specs.declared.flipped.Flipped.TheVariants as flipped
use Rattle.space_map.specs.declared.gate_word.GateWord.{GateWord}
use Rattle.space_map.specs.GateWord.{decode_gate}
use Rattle.gate_core.specs.declared.gate_stage.GateStage.{GateStage}
use Rattle.gate_core.specs.declared.gate_stage.GateStage.TheVariants as gate_stage
use Rattle.gate_core.specs.declared.passage.Passage.{Passage}
use Rattle.gate_core.specs.declared.passage.Passage.TheVariants.{Look, Attach, Park, Request, Resume, Forwarded, Leave, Clear}
use Rattle.gate_core.specs.declared.passed.Passed.{Passed}
use Rattle.gate_core.specs.declared.passed.Passed.TheVariants as passed
use Rattle.gate_core.specs.Flip as flip
use Rattle.gate_core.specs.Gate as gate
use Rattle.gate_core.specs.Soundness.{IsPassingGoing}
use Rattle.gate_core.specs.declared.snap.snapped.Snapped.{Snapped}
use Rattle.gate_core.specs.declared.snap.snapped.Snapped.TheVariants as snapped
use Rattle.gate_core.specs.Recall as recall
use Rattle.gate_core.specs.Snap as snap
use Rattle.page_saves.specs.Guard as guard
use Rattle.page_scan.specs.declared.scanned.Scanned.{Scanned}
use Rattle.page_scan.specs.declared.scanned.Scanned.TheVariants as scanned
use Rattle.page_scan.specs.Scanning as scan
use Rattle.page_slots.specs.Open as open_page
use Rattle.record_access.specs.declared.access.Access.{Access}
use Rattle.record_access.specs.declared.accessed.Accessed.{Accessed}
use Rattle.record_access.specs.declared.accessed.Accessed.TheVariants.{Faults}
use Rattle.gc_worker.specs.declared.stage.after.After.{After}
use Rattle.gc_worker.specs.declared.stage.after.After.TheVariants as afters
use Rattle.gc_worker.specs.declared.stage.back.Back.{Back}
use Rattle.gc_worker.specs.declared.stage.back.Back.TheVariants.{ToAccess, ToPlace}
use Rattle.gc_worker.specs.declared.stage.goal.Goal.TheVariants.{ForFlip}
use Rattle.gc_worker.specs.declared.stage.write.Write.{Write}
use Rattle.gc_worker.specs.declared.stage.write.Write.TheVariants.{OfAccess, OfPlace}
use Rattle.gc_worker.specs.declared.stage.forwarding_register.ForwardingRegister.{ForwardingRegister}
use Rattle.gc_worker.specs.declared.stage.Stage.{Stage}
use Rattle.gc_worker.specs.declared.stage.Stage.TheVariants.{Looks, Passes, Flips, Forwards, Accesses, Places, Serves, Scans, Opens, Recalls, Guards, BeginsCheckpoint}
use Rattle.gc_worker.specs.Workers.Fits.{IsMaking}
use Rattle.gc_worker.specs.Workers.Held.{Held, at_stage, fields_for, header_for, making_for, may_snap, run_held, target_for}
use Rattle.gc_worker.specs.Laws.MachineEnds.{IsSameMachine, MayWait}
use Rattle.gc_worker.specs.Plain.Seen.{Making}
use Rattle.gc_worker.specs.Steps.Turned.{Pointed, accessed_by, allocated_by, after_request, asks_flip, checkpoints, end_by_shortage, ended, epoch_said, first_pointer, flipped_by, forwarded_to, forwards_it, full_by, goes_back, goes_on, guards, in_epoch, is_full, passed_by, passes, places, runs_on, scanned_by, served_by, serves_snap, snapped_by, traced_by, with_copy, with_record, writes}
use Rattle.gc_worker.proofs.Plain.NewRecords.{made_is}
use Rattle.gc_worker.proofs.Words.Pointers.{FirstPointer, There, Nowhere, found}

-- ---- where a mutator goes on

module _ (P : Stage → Type 0) where
  -- what is so of this stage, and of a look before a write, is so of whichever comes
  pub either_so : (b : Bool) (s t : Stage) → P s → P t → P (cond b s t)
  either_so true s t is other = is
  either_so false s t is other = other

  pub guards_so : (y : Held) (write : Write) (page : Option ℕ) (stage : Stage) → P stage → ((g : guard.Guarding) → P (Guards g write)) → P (guards y write page stage)
  guards_so y write None stage is looks = is
  guards_so y write (Some page) stage is looks = let g = guard.begun y.layout page y.running y.number in either_so (y.running == 0) stage (Guards g write) is (looks g)

  module _ (y : Held) (places_is : (p : place.Placing) → P (Places p)) (guards_is : (g : guard.Guarding) (write : Write) → P (Guards g write)) where
    pub places_so : (o : Option Header) → P Looks → P (places y o)
    places_so (Some header) looks =
        let p = place.begun y.layout (run_held y) header y.epoch (fields_for y) y.snap (target_for y) in
        guards_so y (OfPlace p) (place.writes_on p p.stage) (Places p) (places_is p) (λ g. guards_is g (OfPlace p))
    places_so None looks = looks

    pub goes_on_so : (after : After) → P Looks → P (serves_snap y) → P (goes_on y after)
    goes_on_so afters.Looks looks serves = looks
    goes_on_so afters.Places looks serves = places_so (header_for y) looks
    goes_on_so afters.Snaps looks serves = either_so (may_snap y) (serves_snap y) Looks serves looks

-- ---- passages

no_passing_on : (g : gate.Passing) (before : After) (y : Held) (after : After) → IsSameMachine (Passes g before) (goes_on y after) → ⊥
no_passing_on g before y after = goes_on_so (λ (t : Stage). IsSameMachine (Passes g before) t → ⊥) y (λ p same. same) (λ v write same. same) after (λ same. same) (λ same. same)

no_running_on : (g : gate.Passing) (before : After) (y : Held) (after : After) → IsSameMachine (Passes g before) (runs_on y after) → ⊥
no_running_on g before y after =
    either_so (λ (t : Stage). IsSameMachine (Passes g before) t → ⊥) y.layout.checkpoints (Recalls (recall.begun y.layout) after) (goes_on y after) (λ same. same) (no_passing_on g before y after)

no_asking : (g : gate.Passing) (before : After) (y : Held) (after : After) → IsSameMachine (Passes g before) (after_request y after) → ⊥
no_asking g before y afters.Looks same = same
no_asking g before y _ same = same

-- who leaves, clears a request or says that its registers are forwarded is let through by any gate
always_passes : (passage : Passage) → ((read : GateWord) → gate.allows passage read ≡ true) → ((word : ℕ) (read : GateWord) → gate.allowed passage word read ≡ gate_stage.Exchanges read) → (stage : GateStage) (reply : Reply)
    → IsPassingGoing stage → (word : ℕ) → gate.told_at (gate.next_stage passage stage reply) ≡ Finished (passed.NotYet word) → ⊥
always_passes passage allows exchanges gate_stage.Loads (Value loaded) going word ends = by_gate (decode_gate loaded) ends
  where
    by_gate : (o : Option GateWord) → gate.told_at (gate.looked passage loaded o) ≡ Finished (passed.NotYet word) → ⊥
    by_gate (Some read) ends =
        let e : gate.looked passage loaded (Some read) ≡ gate_stage.Exchanges read = ap (λ (b : Bool). cond b (gate.allowed passage loaded read) (gate_stage.Ended (passed.NotYet loaded))) (allows read) ∙ exchanges loaded read in
        let f = sym (ap gate.told_at e) ∙ ends in cc
    by_gate None ends = cc
always_passes passage allows exchanges (gate_stage.Ended result) reply going word ends = absurd going
always_passes passage allows exchanges _ Won going word ends = cc
always_passes passage allows exchanges _ _ going word ends = cc

-- the gate doesn't let it in or run on yet
pub passages_end : (x : Held) (g : gate.Passing) (before after : After) (reply : Reply) (passage : Passage) (result : Passed) → g.passage ≡ passage → (passage ≡ Look → ⊥) → IsPassingGoing g.stage
    → gate.told_at (gate.next_stage passage g.stage reply) ≡ Finished result → IsSameMachine (Passes g before) (passed_by x after passage result).stage
    → MayWait passage × ((word : ℕ) × (result ≡ passed.NotYet word))
passages_end x g before after reply Attach (passed.NotYet word) is look going ends same = (tt, (word, refl))
passages_end x g before after reply (Resume epoch) (passed.NotYet word) is look going ends same = (tt, (word, refl))
passages_end x g before after reply Park (passed.NotYet word) is look going ends same = absurd (no_passing_on g before x after same)
passages_end x g before after reply Forwarded (passed.NotYet word) is look going ends same = absurd (always_passes Forwarded (λ read. refl) (λ loaded read. refl) g.stage reply going word ends)
passages_end x g before after reply Leave (passed.NotYet word) is look going ends same = absurd (always_passes Leave (λ read. refl) (λ loaded read. refl) g.stage reply going word ends)
passages_end x g before after reply Attach (passed.Went word) is look going ends same = absurd (no_running_on g before (in_epoch x (epoch_said x.epoch word)) afters.Looks same)
passages_end x g before after reply Request (passed.Went word) is look going ends same = absurd (no_asking g before x after same)
passages_end x g before after reply (Resume epoch) (passed.Went word) is look going ends same = absurd (no_running_on g before x after same)
passages_end x g before after reply Leave (passed.Went word) is look going ends same = absurd same
passages_end x g before after reply Look result is look going ends same = absurd (look refl)
passages_end x g before after reply Clear (passed.NotYet word) is look going ends same = absurd (always_passes Clear (λ read. refl) (λ loaded read. refl) g.stage reply going word ends)
passages_end x g before after reply _ _ is look going ends same = absurd (let e = sym is ∙ sym same in cc)

-- ---- flips

pub flips_end : (x : Held) (f was : flip.Flipping) (result : Flipped) → IsSameMachine (Flips was) (flipped_by x f result).stage → (word : ℕ) × (result ≡ flipped.NotYet word)
flips_end x f was (flipped.NotYet word) same = (word, refl)
flips_end x f was (flipped.Went asked) same = absurd same

-- ---- checkpoints

pub recalls_end : (r : recall.Recalling) (before : After) (y : Held) (after : After) → IsSameMachine (Recalls r before) (goes_on y after) → ⊥
recalls_end r before y after = goes_on_so (λ (t : Stage). IsSameMachine (Recalls r before) t → ⊥) y (λ p same. same) (λ v write same. same) after (λ same. same) (λ same. same)

pub guards_end : (g : guard.Guarding) (before after : Write) → IsSameMachine (Guards g before) (writes after) → ⊥
guards_end g before (OfAccess a) same = same
guards_end g before (OfPlace p) same = same

pub snaps_end : (x : Held) (was : snap.Snapping) (result : Snapped) → IsSameMachine (BeginsCheckpoint was) (snapped_by x result).stage → (word : ℕ) × (result ≡ snapped.NotYet word)
snaps_end x was (snapped.NotYet word) same = (word, refl)
snaps_end x was (snapped.Begun seen) same = absurd same

-- ---- registers: the next one is forwarded

next_register : (y : Held) (was : ForwardingRegister) (after : After) (n : ℕ) (o : Option Pointed) → FirstPointer y.registers n (was.register + 1) o → IsSameMachine (Forwards was) (forwards_it y after o) → ⊥
next_register y was after n (Some q) (There r a l u at before) same = omega (arith, l, same)
next_register y was after n None (Nowhere all) same = same

pub registers_end : (x : Held) (was w : ForwardingRegister) (to : To) → w.register ≡ was.register → IsSameMachine (Forwards was) (forwarded_to x w to).stage → ⊥
registers_end x was w to is same =
    let y = with_copy x w.register to.0 in
    let n = 8 - (w.register + 1) in
    next_register y was w.after n (first_pointer y.registers n (w.register + 1)) (subst (λ (j : ℕ). FirstPointer y.registers n j (first_pointer y.registers n (w.register + 1))) (ap (λ (j : ℕ). j + 1) is) (found y.registers n (w.register + 1))) same

-- ---- accesses, allocations

pub accesses_end : (x : Held) (was a : Access) (result : Accessed) → IsSameMachine (Accesses was) (accessed_by x a result).stage → ⊥
accesses_end x was a (Faults _) same = same
accesses_end x was a _ same = same

no_placing : (x : Held) (was : place.Placing) (s : Shortage) (b : Bool) → IsSameMachine (Places was) (cond b (ended x (end_by_shortage s)) (at_stage x (asks_flip x))).stage → ⊥
no_placing x was s true same = same
no_placing x was s false same =
    either_so (λ (t : Stage). IsSameMachine (Places was) t → ⊥) x.layout.checkpoints (checkpoints x ForFlip) (passes x Request afters.Places) (λ same. same) (λ same. same) same

short_end : (x : Held) (was : place.Placing) (s : Shortage) (traced : Bool) → IsSameMachine (Places was) (full_by x s traced).stage → ⊥
short_end x was s false same = same
short_end x was s true same = no_placing x was s (is_full x s) same

record_end : (x : Held) (was : place.Placing) (run : Run) (at : ℕ) (o : Option Making) → IsMaking x.account x.registers x.task → making_for x x.task ≡ o → IsSameMachine (Places was) (with_record x run at o).stage → ⊥
record_end x was run at (Some m) making is same = same
record_end x was run at None making is same = absurd (let e = sym is ∙ made_is x making in cc)

pub allocations_end : (x : Held) (was p : place.Placing) (result : Allocated) → IsMaking x.account x.registers x.task → IsSameMachine (Places was) (allocated_by x p result).stage → ⊥
allocations_end x was p (Placed at) making same = record_end x was p.run at (making_for x x.task) making refl same
allocations_end x was p (Full s) making same = short_end x was s s.traced same

-- ---- rounds, scans

-- a scanner, and who is to load a target or begins a checkpoint, make another round at once
abbrev pub RoundsAgain : Back → Type 0
RoundsAgain (ToAccess a) = ⊥
RoundsAgain ToPlace = ⊥
RoundsAgain _ = ⊤

no_round : (y : Held) (was : duty.Round) (o : Option Header) → IsSameMachine (Serves was ToPlace) (places y o) → ⊥
no_round y was o = places_so (λ (t : Stage). IsSameMachine (Serves was ToPlace) t → ⊥) y (λ p same. same) (λ v write same. same) o (λ same. same)

round_back : (y : Held) (was : duty.Round) (back : Back) → IsSameMachine (Serves was back) (goes_back y back) → RoundsAgain back
round_back y was (ToAccess a) same = same
round_back y was ToPlace same = absurd (no_round y was (header_for y) same)
round_back y was _ same = tt

traced_back : (y : Held) (was : duty.Round) (back : Back) → IsSameMachine (Serves was back) (traced_by y back).stage → RoundsAgain back
traced_back y was (ToAccess a) same = same
traced_back y was ToPlace same = absurd (no_round y was (header_for y) same)
traced_back y was _ same = tt

pub rounds_end : (x : Held) (was d : duty.Round) (back : Back) (result : RoundEnd) → IsSameMachine (Serves was back) (served_by x d back result).stage → RoundsAgain back
rounds_end x was d back Marked same = round_back (record x { epoch = d.epoch }) was back same
rounds_end x was d back Traced same = traced_back (record x { epoch = d.epoch }) was back same
rounds_end x was d back (NothingNow word) same = round_back (record x { epoch = d.epoch }) was back same
rounds_end x was d back _ same = absurd same

pub scans_end : (x : Held) (was s : scan.Scanning) (back : Back) (result : Scanned) → IsSameMachine (Scans was back) (scanned_by x s back result).stage → ⊥
scans_end x was s back (scanned.Ask old) same = same
scans_end x was s back (scanned.Ended at_front) same = same

opening_back : (y : Held) (was : open_page.Opening) (s : scan.Scanning) (back : Back) → IsSameMachine (Opens was s back) (goes_back y back) → ⊥
opening_back y was s ToPlace same =
    places_so (λ (t : Stage). IsSameMachine (Opens was s ToPlace) t → ⊥) y (λ p same. same) (λ v write same. same) (header_for y) (λ same. same) same
opening_back y was s _ same = same

pub openings_end : (x : Held) (was : open_page.Opening) (s : scan.Scanning) (back : Back) → IsSameMachine (Opens was s back) (goes_back x back) → ⊥
openings_end x was s back same = opening_back x was s back same
