-- The step after which a worker is gone: a mutator's last exchange of the gate, or a scanner's look at one that all mutators have left.
use Rattle.std.proofs.Common.{◌≡◌, ℕ, ◌⊎◌, Bool, true, false, cond, List, Option, Some, None, nat_lt, is_some, inl, inr, refl, sym, ap, subst, ◌∙◌, ltb-true, ltb-false}
use Rattle.std.specs.Prelude.{IsSome, ⊤}
use Rattle.std.proofs.lemmas.Option.{same_Some}
use Rattle.atom_store.specs.declared.reply.Reply.{Reply}
use Rattle.atom_store.specs.declared.reply.Reply.TheVariants as replies
use Rattle.atom_store.specs.declared.step.Step.{Step}
use Rattle.atom_store.specs.declared.step.Step.TheVariants.{Load, Exchange}
use Rattle.atom_store.specs.declared.turn.Turn.{Turn}
use Rattle.atom_store.specs.declared.turn.Turn.TheVariants.{More, Finished}
use Rattle.atom_store.specs.Acts.{MakesStep}
use Rattle.atom_store.specs.Runs.{after_step, words_then}
use Rattle.atom_store.specs.Step.{reply_of}
use Rattle.space_map.specs.declared.gate_word.GateWord.{GateWord}
use Rattle.space_map.specs.GateWord.{decode_gate, encode_gate}
use Rattle.space_map.specs.Spaces.{Layout}
use Rattle.space_map.specs.Table.{Gate, place_of}
use Rattle.space_map.specs.TableWords.{row_word}
use Rattle.alloc_end.specs.declared.allocated.Allocated.{Allocated}
use Rattle.alloc_end.specs.declared.allocated.Allocated.TheVariants.{Placed, Full}
use Rattle.alloc_end.specs.declared.run.Run.{Run}
use Rattle.alloc_end.specs.declared.shortage.Shortage.{Shortage}
use Rattle.alloc_end.specs.Place as place
use Rattle.fault_duty.specs.declared.caller.Caller.{Caller}
use Rattle.fault_duty.specs.declared.caller.Caller.TheVariants.{Scans as ScansFor}
use Rattle.fault_duty.specs.declared.duty_stage.DutyStage.{DutyStage}
use Rattle.fault_duty.specs.declared.round_end.RoundEnd.{RoundEnd}
use Rattle.fault_duty.specs.declared.round_end.RoundEnd.TheVariants.{ScanPage, ScanInPlace, Marked, Traced, AllLeft, NothingNow}
use Rattle.fault_duty.specs.Duty as duty
use Rattle.fault_duty.specs.Theorems.{SeesAllLeft}
use Rattle.fault_duty.proofs.RoundEffects.{sees_left}
use Rattle.gate_core.specs.declared.flipped.Flipped.{Flipped}
use Rattle.gate_core.specs.declared.flipped.Flipped.TheVariants as flipped
use Rattle.gate_core.specs.declared.gate_stage.GateStage.{GateStage}
use Rattle.gate_core.specs.declared.gate_stage.GateStage.TheVariants as gate_stage
use Rattle.gate_core.specs.declared.passage.Passage.{Passage}
use Rattle.gate_core.specs.declared.passage.Passage.TheVariants.{Attach, Park, Request, Resume, Forwarded, Leave, Clear}
use Rattle.gate_core.specs.declared.passed.Passed.{Passed}
use Rattle.gate_core.specs.declared.passed.Passed.TheVariants as passed
use Rattle.gate_core.specs.Flip as flip
use Rattle.gate_core.specs.Gate as gate
use Rattle.gate_core.specs.Soundness.{IsPassingGoing}
use Rattle.page_saves.specs.declared.save_round_end.SaveRoundEnd.{SaveRoundEnd}
use Rattle.page_saves.specs.declared.save_round_end.SaveRoundEnd.TheVariants as save_round_end
use Rattle.page_saves.specs.SaveRound as save_round
use Rattle.gc_worker.specs.declared.stage.after.After.{After}
use Rattle.gc_worker.specs.declared.stage.after.After.TheVariants as afters
use Rattle.gc_worker.specs.declared.stage.back.Back.{Back}
use Rattle.gc_worker.specs.declared.stage.back.Back.TheVariants.{ToAccess, ToTarget, ToPlace, ToSnap, ToScanner}
use Rattle.gc_worker.specs.declared.stage.goal.Goal.{Goal}
use Rattle.gc_worker.specs.declared.stage.goal.Goal.TheVariants.{ForFlip, ForSnap, ForScanner}
use Rattle.gc_worker.specs.declared.stage.Stage.{Stage}
use Rattle.gc_worker.specs.declared.stage.Stage.TheVariants.{Passes, Flips, Places, Serves, Checkpoints, Gone}
use Rattle.gc_worker.specs.Workers.Fits.{FitsStage, IsCallerOf, IsOnSide, IsOnSideBack}
use Rattle.gc_worker.specs.Laws.Gone.{HasLeft, SawAllLeave, WhoIsGoneSawWhy}
use Rattle.gc_worker.specs.Workers.Held.{Held, at_stage, making_for}
use Rattle.gc_worker.specs.Plain.Seen.{Making}
use Rattle.gc_worker.specs.Steps.Turned.{after_request, asks_flip, checkpoints, end_by_shortage, ended, epoch_said, first_pointer, forwards_from, full_by, goes_back, goes_on, guards_place, in_epoch, is_full, of_round, passed_by, passes, rounded, rounded_by, runs_on, served_by, turned_at, turned_flip, turned_gate, turned_place, turned_round, turned_save_round, with_record}
use Rattle.gc_worker.specs.Steps.Wanted.{wanted_at}
use Rattle.gc_worker.proofs.Between.NextStages.{AsksNothing, asks_nothing, forwarding, going_back, going_on, placing_on, running_on, tracing}
use Rattle.gc_worker.proofs.MachineEnds.Each.{either_so}

-- any stage but the last
abbrev IsHere : Stage → Type 0
IsHere Gone = ⊥
IsHere stage = ⊤

not_gone : {A : Type 0} (stage : Stage) → IsHere stage → stage ≡ Gone → A
not_gone stage here gone = absurd (subst IsHere gone here)

here_so : (stage : Stage) → AsksNothing stage → IsHere stage
here_so Gone nothing = nothing
here_so stage nothing = tt

either_here : (b : Bool) (y z : Held) → IsHere y.stage → IsHere z.stage → IsHere (cond b y z).stage
either_here true y z is other = is
either_here false y z is other = other

module _ (x : Held) (here : IsHere x.stage) where
  -- ---- at the gate: but for the last passage

  asking : (after : After) → IsHere (after_request x after)
  asking afters.Looks = tt
  asking _ = tt

  abbrev PassedLeave : Passage → Passed → Type 0
  PassedLeave passage result = (passage ≡ Leave) × (word : ℕ) × (result ≡ passed.Went word)

  passed_here : (after : After) (passage : Passage) (result : Passed) → (passed_by x after passage result).stage ≡ Gone → PassedLeave passage result
  passed_here after Attach (passed.Went word) gone =
      not_gone (passed_by x after Attach (passed.Went word)).stage
      (let y = in_epoch x (epoch_said x.epoch word) in here_so (runs_on y afters.Looks) (running_on y afters.Looks)) gone
  passed_here after Attach (passed.NotYet word) gone = not_gone (passes x Attach after) tt gone
  passed_here after Park (passed.Went word) gone = not_gone (passes x (Resume x.epoch) after) tt gone
  passed_here after Park (passed.NotYet word) gone = not_gone (goes_on x after) (here_so (goes_on x after) (going_on x after)) gone
  passed_here after Request (passed.Went word) gone = not_gone (after_request x after) (asking after) gone
  passed_here after Request (passed.NotYet word) gone = not_gone (passes x Park after) tt gone
  passed_here after (Resume epoch) (passed.Went word) gone = not_gone (runs_on x after) (here_so (runs_on x after) (running_on x after)) gone
  passed_here after (Resume epoch) (passed.NotYet word) gone =
      not_gone (passed_by x after (Resume epoch) (passed.NotYet word)).stage
      (either_so IsHere (nat_lt x.epoch (epoch_said x.epoch word)) (forwards_from x after 0) (passes x (Resume x.epoch) after)
      (here_so (forwards_from x after 0) (forwarding x after (first_pointer x.registers 8 0))) tt) gone
  passed_here after Forwarded (passed.Went word) gone = not_gone (passed_by x after Forwarded (passed.Went word)).stage tt gone
  passed_here after Leave (passed.Went word) gone = (refl, word, refl)
  passed_here after Clear (passed.Went word) gone = not_gone (passes x (Resume x.epoch) after) tt gone
  passed_here after _ _ gone = not_gone x.stage here gone

  flip_here : (f : flip.Flipping) (turn : Turn Flipped) → IsHere (turned_flip x f turn).stage
  flip_here f More = tt
  flip_here f (Finished (flipped.Went asked)) = tt
  flip_here f (Finished (flipped.NotYet word)) = tt

  -- ---- an allocation

  full_here : (s : Shortage) (traced : Bool) → IsHere (full_by x s traced).stage
  full_here s false = tt
  full_here s true = either_here (is_full x s) (ended x (end_by_shortage s)) (at_stage x (asks_flip x)) tt (either_so IsHere x.layout.checkpoints (checkpoints x ForFlip) (passes x Request afters.Places) tt tt)

  record_here : (run : Run) (at : ℕ) (made : Option Making) → IsHere (with_record x run at made).stage
  record_here run at (Some m) = tt
  record_here run at None = here

  place_here : (p : place.Placing) (turn : Turn Allocated) → IsHere (turned_place x p turn).stage
  place_here p More = here_so (guards_place x p) (placing_on x p)
  place_here p (Finished (Placed at)) = record_here p.run at (making_for x x.task)
  place_here p (Finished (Full s)) = full_here s s.traced

  -- ---- rounds, but for the last one

  back_here : (y : Held) (back : Back) → IsHere (goes_back y back)
  back_here y back = here_so (goes_back y back) (going_back y back)

  served_here : (d : duty.Round) (back : Back) (result : RoundEnd) → (served_by x d back result).stage ≡ Gone → (word : ℕ) × (result ≡ AllLeft word)
  served_here d back (ScanPage page) gone = not_gone (served_by x d back (ScanPage page)).stage tt gone
  served_here d back (ScanInPlace page) gone = not_gone (served_by x d back (ScanInPlace page)).stage tt gone
  served_here d back Marked gone = not_gone (served_by x d back Marked).stage (back_here (of_round x d) back) gone
  served_here d back Traced gone = not_gone (served_by x d back Traced).stage (here_so (served_by x d back Traced).stage (tracing (of_round x d) back)) gone
  served_here d back (NothingNow word) gone = not_gone (served_by x d back (NothingNow word)).stage (back_here (of_round x d) back) gone
  served_here d back (AllLeft word) gone = (word, refl)

  -- ---- checkpoints

  checkpointing : (goal : Goal) → IsHere (checkpoints x goal)
  checkpointing ForFlip = tt
  checkpointing _ = tt

  rounding_by : (goal : Goal) (result : SaveRoundEnd) → IsHere (rounded_by x goal result)
  rounding_by goal (save_round_end.NoneRuns number) = tt
  rounding_by goal _ = checkpointing goal

  rounding : (goal : Goal) (result : SaveRoundEnd) → IsHere (rounded x goal result)
  rounding ForFlip result = rounding_by ForFlip result
  rounding ForSnap result = rounding_by ForSnap result
  rounding ForScanner result = tt

  save_round_here : (r : save_round.SavingRound) (goal : Goal) (turn : Turn SaveRoundEnd) → IsHere (turned_save_round x r goal turn).stage
  save_round_here r goal More = tt
  save_round_here r goal (Finished result) = rounding goal result

-- ---- the last passage

module _ (l : Layout) (q : Step) (words : List ℕ) where
  -- the exchange that it won
  abbrev WonLeave : Type 0
  WonLeave = (read : GateWord) × (q ≡ Exchange (place_of l.pages Gate) (encode_gate read) (encode_gate (gate.gate_after Leave read))) × (reply_of q words ≡ replies.Won)

  abbrev leave_at : GateStage → gate.Passing
  leave_at stage = record { layout = l; passage = Leave; stage = stage }

  loaded : (o : Option GateWord) (word value : ℕ) → gate.told_at (gate.looked Leave value o) ≡ Finished (passed.Went word) → WonLeave
  loaded (Some read) word value ends = absurd (cc)
  loaded None word value ends = absurd (cc)

  exchanged : (read : GateWord) (word : ℕ) (reply : Reply) → reply_of q words ≡ reply → gate.wanted (leave_at (gate_stage.Exchanges read)) ≡ Some q
      → gate.told_at (gate.next_stage Leave (gate_stage.Exchanges read) reply) ≡ Finished (passed.Went word) → WonLeave
  exchanged read word replies.Won is asked ends =
      (read, sym (same_Some (Exchange (place_of l.pages Gate) (encode_gate read) (encode_gate (gate.gate_after Leave read))) q asked), is)
  exchanged read word _ is asked ends = absurd (cc)

  looking : (word : ℕ) (reply : Reply) → gate.told_at (gate.next_stage Leave gate_stage.Loads reply) ≡ Finished (passed.Went word) → WonLeave
  looking word (replies.Value value) ends = loaded (decode_gate value) word value ends
  looking word _ ends = absurd (cc)

  leaving : (stage : GateStage) (word : ℕ) → IsPassingGoing stage → gate.wanted (leave_at stage) ≡ Some q
      → gate.told_at (gate.next_stage Leave stage (reply_of q words)) ≡ Finished (passed.Went word) → WonLeave
  leaving gate_stage.Loads word going asked ends = looking word (reply_of q words) ends
  leaving (gate_stage.Exchanges read) word going asked ends = exchanged read word (reply_of q words) refl asked ends
  leaving (gate_stage.Ended result) word going asked ends = absurd going

-- ---- the law

module _ (x : Held) (q : Step) (words : List ℕ) (here : IsHere x.stage) where
  abbrev r : Reply
  r = reply_of q words

  abbrev Why : Type 0
  Why = HasLeft x q words ⊎ SawAllLeave x q words

  by_passage : (g : gate.Passing) (turn : Turn Passed) → gate.told (gate.taken g r) ≡ turn → (after : After)
      → FitsStage x (Passes g after) → nat_lt x.number x.mutators ≡ true → gate.wanted g ≡ Some q → (turned_gate x (gate.taken g r) after turn).stage ≡ Gone → Why
  by_passage g More told after fits side asked gone = not_gone (Passes (gate.taken g r) after) tt gone
  by_passage g (Finished result) told after fits side asked gone =
      let left = passed_here x here after g.passage result gone in
      let at : g ≡ leave_at x.layout q words g.stage = (λ i. record { layout = fits.layout i; passage = left.0 i; stage = g.stage }) in
      let won = leaving x.layout q words g.stage left.1 fits.going (subst (λ (p : gate.Passing). gate.wanted p ≡ Some q) at asked)
      (subst (λ (p : gate.Passing). gate.told (gate.taken p r) ≡ Finished (passed.Went left.1)) at (told ∙ ap (λ (y : Passed). Finished y) left.2)) in
      inl (record { is_mutator = ltb-true x.number x.mutators side; gate = won.0; leaves = won.1; won = won.2 })

  -- a round that a scanner makes
  scans_for : (back : Back) (caller : Caller) (mutators : ℕ) (b : Bool) → caller ≡ ScansFor mutators → IsCallerOf x back caller → IsOnSideBack back b → (b ≡ false) × (mutators ≡ x.mutators)
  scans_for (ToAccess a) caller mutators b is own side = absurd (subst (IsCallerOf x (ToAccess a)) is own)
  scans_for (ToTarget a) caller mutators b is own side = absurd (subst (IsCallerOf x (ToTarget a)) is own)
  scans_for ToPlace caller mutators b is own side = absurd (subst (IsCallerOf x ToPlace) is own)
  scans_for ToSnap caller mutators b is own side = absurd (subst (IsCallerOf x ToSnap) is own)
  scans_for ToScanner caller mutators b is own side = (side, subst (IsCallerOf x ToScanner) is own)

  by_round : (d : duty.Round) (back : Back) (turn : Turn RoundEnd) → duty.told (duty.taken d r) ≡ turn → FitsStage x (Serves d back)
      → IsOnSideBack back (nat_lt x.number x.mutators) → duty.wanted d ≡ Some q → (turned_round x (duty.taken d r) back turn).stage ≡ Gone → Why
  by_round d back More told fits side asked gone = not_gone (Serves (duty.taken d r) back) tt gone
  by_round d back (Finished result) told fits side asked gone =
      let all = served_here x here (duty.taken d r) back result gone in
      let acts : MakesStep duty.duty_machine d words (words_then (duty.wanted d) words) (Finished (AllLeft all.0)) = record {
        has_step = subst IsSome (sym asked) refl;
        makes = refl;
        tells = ap (λ (o : Option Step). duty.told (after_step duty.duty_machine d o words)) asked ∙ (told ∙ ap (λ (e : RoundEnd). Finished e) all.1);
      } in
      let sees : SeesAllLeft d words (words_then (duty.wanted d) words) all.0 = sees_left d d.stage words (words_then (duty.wanted d) words) all.0 acts in
      let own = scans_for back d.caller sees.mutators (nat_lt x.number x.mutators) sees.scanner fits.0.caller side in
      let pages = ap (λ (l : Layout). l.pages) fits.0.layout in
      let loads : duty.wanted d ≡ Some (Load (place_of d.layout.pages Gate)) = ap (λ (s : DutyStage). duty.wanted (record d { stage = s })) sees.first in
      inr (record {
        is_scanner = ltb-false x.number x.mutators own.0;
        reads = sym (same_Some (Load (place_of d.layout.pages Gate)) q (sym loads ∙ asked)) ∙ ap (λ (n : ℕ). Load (place_of n Gate)) pages;
        gate = sees.gate;
        says = ap (λ (n : ℕ). decode_gate (row_word n Gate words)) (sym pages) ∙ (ap decode_gate (sym sees.read) ∙ sees.says);
        all = sees.left ∙ own.1;
      })

  by_stage : (stage : Stage) → x.stage ≡ stage → (b : Bool) (ended : Bool) → nat_lt x.number x.mutators ≡ b → FitsStage x stage → IsOnSide stage b ended → wanted_at x stage ≡ Some q
      → (turned_at x stage r).stage ≡ Gone → Why
  by_stage (Passes g after) at b ended is fits side asked gone = by_passage g (gate.told (gate.taken g r)) refl after fits (is ∙ side) asked gone
  by_stage (Flips f) at b ended is fits side asked gone = not_gone (turned_at x (Flips f) r).stage (flip_here x here (flip.taken f r) (flip.told (flip.taken f r))) gone
  by_stage (Places p) at b ended is fits side asked gone = not_gone (turned_at x (Places p) r).stage (place_here x here (place.taken p r) (place.told (place.taken p r))) gone
  by_stage (Serves d back) at b ended is fits side asked gone =
      by_round d back (duty.told (duty.taken d r)) refl fits (subst (IsOnSideBack back) (sym is) side) asked gone
  by_stage (Checkpoints z goal) at b ended is fits side asked gone =
      not_gone (turned_at x (Checkpoints z goal) r).stage (save_round_here x here (save_round.taken z r) goal (save_round.told (save_round.taken z r))) gone
  by_stage Gone at b ended is fits side asked gone = absurd (cc)
  by_stage stage at b ended is fits side asked gone = not_gone (turned_at x stage r).stage (here_so (turned_at x stage r).stage (asks_nothing x r stage tt at)) gone

-- who wants a step is here
wants_here : (x : Held) (q : Step) (stage : Stage) → wanted_at x stage ≡ Some q → IsHere stage
wants_here x q Gone asked = absurd (cc)
wants_here x q _ asked = tt

pub who_is_gone_saw_why : WhoIsGoneSawWhy
who_is_gone_saw_why n mutators k x q words f asked gone =
    by_stage x q words (wants_here x q x.stage asked) x.stage refl (nat_lt x.number x.mutators) (is_some x.account.end) refl f.stage f.side asked gone
