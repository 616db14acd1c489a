-- A round for the checkpoint in progress goes on: it is its worker's own, in a mutator's epoch, and for the number that the mutator knows.
use Rattle.std.proofs.Common.{◌≡◌, ℕ, ◌^◌, Bool, true, false, cond, nat_lt, Option, Some, None, refl, sym, subst}
use Rattle.atom_store.specs.declared.reply.Reply.{Reply}
use Rattle.atom_store.specs.declared.reply.Reply.TheVariants.{Value}
use Rattle.space_map.specs.declared.gate_word.GateWord.{GateWord}
use Rattle.space_map.specs.GateWord.{decode_gate}
use Rattle.page_saves.specs.declared.save_caller.SaveCaller.{SaveCaller}
use Rattle.page_saves.specs.declared.save_caller.SaveCaller.TheVariants.{Mutates, Scans}
use Rattle.page_saves.specs.declared.save_round_end.SaveRoundEnd.TheVariants.{NoneRuns, NothingNow}
use Rattle.page_saves.specs.declared.save_round_stage.SaveRoundStage.{SaveRoundStage}
use Rattle.page_saves.specs.declared.save_round_stage.SaveRoundStage.TheVariants.{LoadsGate, LoadsSnap, LoadsDone, LoadsGateAgain, Ended}
use Rattle.page_saves.specs.SaveRound as save_round
use Rattle.page_saves.specs.SaveRound.{SavingRound, all_left, taken_at}
use Rattle.page_saves.proofs.PageLooks.{IsPastReads, goes_past}
use Rattle.gc_worker.specs.Workers.Fits.{HasReadNumber, IsRoundOfMutator}
use Rattle.gc_worker.specs.Workers.Held.{Held}

-- ---- the same round

-- of this layout, by this worker, for this caller
pub record IsSameRound (r q : SavingRound) : Type 0 where
  pub layout : q.layout ≡ r.layout
  pub worker : q.worker ≡ r.worker
  pub caller : q.caller ≡ r.caller

module _ (r : SavingRound) where
  abbrev pub round : SaveRoundStage → SavingRound
  round stage = record r { stage = stage }

  -- the round after a reply at this stage
  abbrev pub after : SaveRoundStage → Reply → SavingRound
  after stage reply = taken_at (round stage) stage reply

  same_by_gate : (word : ℕ) (gate : GateWord) (left : Bool)
      → IsSameRound r (cond left (round (Ended (NothingNow word))) (record r { epoch = gate.epoch; stage = LoadsSnap }))
  same_by_gate word gate true = record { layout = refl; worker = refl; caller = refl }
  same_by_gate word gate false = record { layout = refl; worker = refl; caller = refl }

  same_at_gate : (word : ℕ) (o : Option GateWord) → IsSameRound r (save_round.looked_at_gate (round LoadsGate) word o)
  same_at_gate word (Some gate) = same_by_gate word gate (all_left r.caller gate)
  same_at_gate word None = record { layout = refl; worker = refl; caller = refl }

  same_at_snap : (o : Option ℕ) → IsSameRound r (save_round.found_snap (round LoadsSnap) o)
  same_at_snap (Some number) = record { layout = refl; worker = refl; caller = refl }
  same_at_snap None = record { layout = refl; worker = refl; caller = refl }

  pub stays_same : (stage : SaveRoundStage) (reply : Reply) → IsSameRound r (after stage reply)
  stays_same LoadsGate (Value word) = same_at_gate word (decode_gate word)
  stays_same LoadsSnap (Value word) = same_at_snap (save_round.number_in word)
  stays_same _ (Value _) = record { layout = refl; worker = refl; caller = refl }
  stays_same _ _ = record { layout = refl; worker = refl; caller = refl }

-- ---- a mutator's

-- what a mutator's round reads in SNAP is the number that it knows
abbrev pub ReadsOwn : Held → SaveRoundStage → Reply → Type 0
ReadsOwn x LoadsSnap (Value word) = word ≡ x.snap
ReadsOwn x stage reply = Unit {0}

-- it is at no look at the gate
abbrev IsApart : SaveRoundStage → Type 0
IsApart LoadsGate = ⊥
IsApart LoadsGateAgain = ⊥
IsApart stage = Unit {0}

module _ (x : Held) (r : SavingRound) where
  -- once SNAP was read
  at_number : r.number ≡ x.snap → (stage : SaveRoundStage) → IsApart stage → HasReadNumber x stage r.number
  at_number same LoadsGate apart = absurd apart
  at_number same LoadsGateAgain apart = absurd apart
  at_number same LoadsSnap apart = tt
  at_number same _ apart = same

  -- ---- where it goes on

  -- no more looks at the gate come behind the first loads
  apart_past : (stage : SaveRoundStage) → IsPastReads stage → IsApart stage
  apart_past LoadsGate past = absurd past
  apart_past LoadsGateAgain past = absurd past
  apart_past _ past = tt

  -- a mutator's begins with its pages
  apart_begun : (own : SaveCaller) → own ≡ Mutates → IsApart (save_round.when_one_runs r own)
  apart_begun Mutates is = tt
  apart_begun (Scans mutators) is = absurd (cc)

  module _ (caller : r.caller ≡ Mutates) (epoch : r.epoch ≡ x.epoch) where
    apart_by_done : (done : ℕ) (none : Bool) → IsApart (cond none (Ended (NoneRuns done)) (save_round.when_one_runs r r.caller))
    apart_by_done done true = tt
    apart_by_done done false = apart_begun r.caller caller

    apart_at_done : (o : Option ℕ) → IsApart (save_round.found_done r o)
    apart_at_done (Some done) = apart_by_done done _
    apart_at_done None = tt

    goes_to : (stage : SaveRoundStage) → HasReadNumber x stage r.number → IsRoundOfMutator x (round r stage)
    goes_to stage number = record { caller = caller; epoch = epoch; number = number }

    goes_on : r.number ≡ x.snap → (stage : SaveRoundStage) → IsApart stage → IsRoundOfMutator x (round r stage)
    goes_on same stage apart = goes_to stage (at_number same stage apart)

    at_snap : (word : ℕ) (b : Bool) → word ≡ x.snap → IsRoundOfMutator x (save_round.found_snap (round r LoadsSnap) (cond b (Some word) None))
    at_snap word true same = record { caller = caller; epoch = epoch; number = same }
    at_snap word false same = goes_to LoadsSnap tt

    past_own : r.number ≡ x.snap → (stage : SaveRoundStage) (reply : Reply) → IsPastReads stage → IsRoundOfMutator x (after r stage reply)
    past_own same stage reply past =
        let goes = goes_past r stage reply past in
        subst (IsRoundOfMutator x) (sym goes.is) (goes_on same goes.next (apart_past goes.next goes.past))

    pub stays_own : (stage : SaveRoundStage) (reply : Reply) → HasReadNumber x stage r.number → ReadsOwn x stage reply → IsRoundOfMutator x (after r stage reply)
    stays_own LoadsGate reply number reads = absurd number
    stays_own LoadsGateAgain reply number reads = absurd number
    stays_own LoadsSnap (Value word) number reads = at_snap word (nat_lt word (2 ^ 32)) reads
    stays_own LoadsSnap _ number reads = goes_to LoadsSnap tt
    stays_own LoadsDone (Value word) number reads = goes_on number _ (apart_at_done (save_round.number_in word))
    stays_own LoadsDone _ number reads = goes_to LoadsDone number
    stays_own stage reply number reads = past_own number stage reply tt
