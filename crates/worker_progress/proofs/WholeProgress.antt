-- What a step has brought after which the same machine is at work, from what each stage may read and what that leaves it to do.
use Rattle.std.proofs.Common.{◌≡◌, ℕ, ◌+◌, ◌<◌, Bool, true, length, Option, Some, None, is_some, refl, sym, ap, subst, ◌∙◌, arith}
use Rattle.std.proofs.lemmas.Bool.{le-leb}
use Rattle.std.proofs.lemmas.Option.{same_Some}
use Rattle.plain_state.specs.State.{Plain}
use Rattle.atom_store.specs.declared.reply.Reply.{Reply}
use Rattle.atom_store.specs.declared.reply.Reply.TheVariants.{Lost}
use Rattle.atom_store.specs.declared.step.Step.{Step}
use Rattle.atom_store.specs.declared.step.Step.TheVariants.{Load}
use Rattle.atom_store.specs.declared.turn.Turn.{Turn}
use Rattle.atom_store.specs.declared.turn.Turn.TheVariants.{More, Finished}
use Rattle.atom_store.specs.Step.{reply_of}
use Rattle.heap_words.specs.Decoded.{decode, number_in}
use Rattle.heap_words.specs.FirstWords.{is_header}
use Rattle.space_map.specs.Spaces.{Layout}
use Rattle.space_map.specs.Table.{Gate, HeapWord, place_of}
use Rattle.alloc_end.specs.declared.allocated.Allocated.{Allocated}
use Rattle.alloc_end.specs.Place as place
use Rattle.fault_duty.specs.declared.round_end.RoundEnd.{RoundEnd}
use Rattle.fault_duty.specs.Duty as duty
use Rattle.fault_duty.proofs.RoundMeasure as duty_lowering
use Rattle.forwarding.specs.declared.evac_stage.EvacStage.{EvacStage}
use Rattle.forwarding.specs.declared.to.To.{To}
use Rattle.forwarding.specs.Evacuation as evac
use Rattle.forwarding.specs.Left as evac_left
use Rattle.forwarding.specs.Taken as evac_taken
use Rattle.gate_core.specs.declared.flipped.Flipped.{Flipped}
use Rattle.gate_core.specs.declared.passed.Passed.{Passed}
use Rattle.gate_core.specs.Flip as flip
use Rattle.gate_core.specs.Gate as gate
use Rattle.gate_core.specs.declared.recall.recalled.Recalled.{Recalled}
use Rattle.gate_core.specs.declared.snap.snapped.Snapped.{Snapped}
use Rattle.gate_core.specs.Recall as recall
use Rattle.gate_core.specs.Snap as snap
use Rattle.gate_core.proofs.Recalling.{recalls_lower}
use Rattle.gate_core.proofs.Snapping.{snaps_lower}
use Rattle.page_saves.specs.declared.may_write.MayWrite.{MayWrite}
use Rattle.page_saves.specs.declared.save_round_end.SaveRoundEnd.{SaveRoundEnd}
use Rattle.page_saves.specs.Guard as guard
use Rattle.page_saves.specs.SaveRound as save_round
use Rattle.page_saves.proofs.SaveMeasure.{guard_lowers, round_lowers}
use Rattle.page_scan.specs.declared.headed_record.HeadedRecord.{HeadedRecord}
use Rattle.page_scan.specs.declared.scan_stage.ScanStage.{ScanStage}
use Rattle.page_scan.specs.declared.scan_stage.ScanStage.TheVariants as scan_stage
use Rattle.page_scan.specs.declared.scanned.Scanned.{Scanned}
use Rattle.page_scan.specs.declared.scanned_record.ScannedRecord.{ScannedRecord}
use Rattle.page_scan.specs.Left as scan_left
use Rattle.page_scan.specs.Scanning as scan
use Rattle.page_scan.specs.Taken.{is_count}
use Rattle.page_scan.specs.Taken as scan_taken
use Rattle.page_slots.specs.declared.opened.Opened.{Opened}
use Rattle.page_slots.specs.Open as open_page
use Rattle.heap_state.specs.Configuration.{Configuration, Stands}
use Rattle.record_access.specs.declared.access.Access.{Access}
use Rattle.record_access.specs.declared.access_stage.AccessStage.{AccessStage}
use Rattle.record_access.specs.declared.access_stage.AccessStage.TheVariants.{LoadsHeader, LoadsCount}
use Rattle.record_access.specs.declared.accessed.Accessed.{Accessed}
use Rattle.gc_worker.specs.declared.stage.after.After.{After}
use Rattle.gc_worker.specs.declared.stage.back.Back.{Back}
use Rattle.gc_worker.specs.declared.stage.back.Back.TheVariants.{ToAccess, ToTarget, ToPlace, ToSnap, ToScanner}
use Rattle.gc_worker.specs.declared.stage.goal.Goal.{Goal}
use Rattle.gc_worker.specs.declared.stage.write.Write.{Write}
use Rattle.gc_worker.specs.declared.stage.write.Write.TheVariants.{OfAccess, OfPlace}
use Rattle.gc_worker.specs.declared.stage.forwarding_register.ForwardingRegister.{ForwardingRegister}
use Rattle.record_access.specs.declared.mixed_access.MixedAccess.{MixedAccess}
use Rattle.record_access.specs.declared.record_access.RecordAccess.{RecordAccess}
use Rattle.gc_worker.specs.declared.stage.Stage.{Stage}
use Rattle.gc_worker.specs.declared.stage.Stage.TheVariants.{Looks, Passes, Flips, Forwards, Accesses, Places, Serves, Scans, Evacuates, Opens, Recalls, Guards, Checkpoints, BeginsCheckpoint, Gone}
use Rattle.gc_worker.specs.declared.calls.did.Did.TheVariants.{Done}
use Rattle.gc_worker.specs.declared.task.Task.{Task}
use Rattle.record_access.specs.Access as access
use Rattle.gc_worker.specs.Workers.Fits.{IsOwnPassage}
use Rattle.gc_worker.specs.Steps.Goes.{Is}
use Rattle.gc_worker.specs.Workers.Held.{Held, at_stage}
use Rattle.gc_worker.specs.Workers.Saves.{saver_of}
use Rattle.gc_worker.specs.Laws.Step.{CheckpointsStand, Heap, StandIf, WorkersStand, held_at, read}
use Rattle.gc_worker.specs.Laws.MachineEnds.{IsRoundOver, IsSameMachine, IsWaiting}
use Rattle.worker_progress.specs.Progress.{Progress, LessIsLeft, ExchangeWasLost, AnotherCopies, AnotherSaves, RoundIsOver, OthersGoFirst, NothingIsAsked, TaskIsDone, MachinesGoOn, left_at}
use Rattle.gc_worker.specs.Steps.Turned.{Answers, guards_access, guards_place, recalled, told_at, told_look, turned_look, turned_access, turned_at, turned_copy, turned_flip, turned_gate, turned_guard, turned_opening, turned_place, turned_recall, turned_register, turned_round, turned_save_round, turned_scan, turned_snap, with_evac}
use Rattle.gc_worker.specs.Steps.Wanted.{wanted_at}
use Rattle.gc_worker.proofs.Stages.Access.NextAccessStage as accessing_going
use Rattle.gc_worker.proofs.Stages.Access.AccessStages.{header_there, number_there}
use Rattle.gc_worker.proofs.Stages.Copies.Finding.{answers}
use Rattle.gc_worker.proofs.Stages.Copies.Hosts.{Host, ForScan, ForRegister}
use Rattle.gc_worker.proofs.Stages.Copies.Hosts as hosts
use Rattle.gc_worker.proofs.Workers.Members.{member}
use Rattle.alloc_end.proofs.NextStages.{lowers as allocations_lower}
use Rattle.page_scan.proofs.ScanMeasure.{lowers as scans_lower}
use Rattle.record_access.proofs.AccessMeasure.{accesses_lower}
use Rattle.worker_progress.proofs.Replies.{TakesOn, Advances, Loses, Waits, MeetsBusy, On, accessing, copying, flipping, loads_header, opening, passing, placing, says_gate, scanning, serving, IsThere, word_at, word_is}
use Rattle.worker_progress.proofs.CopyProgress.{copies_lower}
use Rattle.gc_worker.proofs.MachineEnds.Each.{RoundsAgain, accesses_end, allocations_end, flips_end, guards_end, guards_so, openings_end, passages_end, recalls_end, registers_end, rounds_end, scans_end, snaps_end}
use Rattle.worker_progress.proofs.CheckpointReads.{MeetsSaving, SavesAre, looking, recalling, rounding, snapping}
use Rattle.worker_progress.proofs.LooksAgain.{IsDone, looks_done}
use Rattle.worker_progress.proofs.ProgressMeasure.{flips_lower, openings_lower, passages_lower}
use Rattle.gc_worker.proofs.Stages.Scan.ScannedCounts.{count_there}
use Rattle.gc_worker.proofs.Stages.Scan.ScannedHeaders.{answer2, first_header, heap_word}
use Rattle.gc_worker.proofs.Stages.Scan.ScanStages.{scans}

module _ (c : Configuration) (p : Plain) (s : Stands c p) (k : ℕ) (x : Held) (q : Step) where
  abbrev r : Reply
  r = reply_of q c.words

  -- what a step at a stage has brought
  data Result (stage : Stage) : Type 0 where
    Less : left_at (turned_at (at_stage x stage) stage r).stage < left_at stage → Result stage
    Was_lost : (word : ℕ) → r ≡ Lost word → Result stage
    Meets : MeetsBusy c k q → Result stage
    Meets_save : MeetsSaving c k q → Result stage
    Rounds_on : IsRoundOver stage r → Result stage
    Awaits : IsWaiting stage r → Result stage
    Idles : stage ≡ Looks → x.task ≡ None → Result stage
    Has_done : stage ≡ Looks → (task : Task) → x.task ≡ Some task → told_at (at_stage x stage) stage r ≡ Answers task Done → Result stage

  by_meeting : (stage : Stage) (kept : Type 0) (advances : Reply → Bool) → (kept → Result stage) → TakesOn advances r kept
      → (advances r ≡ true → left_at (turned_at (at_stage x stage) stage r).stage < left_at stage) → Result stage
  by_meeting stage kept advances meets (Advances t) lowers = Less (lowers t)
  by_meeting stage kept advances meets (Loses word is) lowers = Was_lost word is
  by_meeting stage kept advances meets (Waits is) lowers = meets is

  by_answer : (stage : Stage) (advances : Reply → Bool) → TakesOn advances r (MeetsBusy c k q)
      → (advances r ≡ true → left_at (turned_at (at_stage x stage) stage r).stage < left_at stage) → Result stage
  by_answer stage advances on lowers = by_meeting stage (MeetsBusy c k q) advances Meets on lowers

  pages_of : (l : Layout) → l ≡ x.layout → x.layout.pages ≡ c.pages → l.pages ≡ c.pages
  pages_of l same is = ap (λ (m : Layout). m.pages) same ∙ is

  -- ---- copies, for whatever they are

  module _ (o : Host) (v : evac.Evacuation) (is : Is c k (hosts.at x o v v.stage)) where
    copy_answers : evac.wanted v ≡ Some q → On c p s k (evac_left.advances v.stage) q
    copy_answers asked =
        let pages = hosts.has_pages x v c.pages c.mutators k o v.stage is.fits in
        let sound = hosts.is_sound x v c.pages c.mutators k o v.stage is.fits in
        let inside = sound.addr in
        copying c p s k v q pages v.stage asked
        (λ e. loads_header c p s k v q pages (s.ghost.size v.addr) (omega (arith, inside, pages))
        (answers c p s k x o v (subst (λ (z : EvacStage). Is c k (hosts.at x o v z)) e is)).word)

    copy_lowers : evac_left.advances v.stage r ≡ true → evac_left.left (evac_taken.taken v r) < evac_left.left v
    copy_lowers t = copies_lower v v.stage r (hosts.is_sound x v c.pages c.mutators k o v.stage is.fits).fits t

  -- ---- scans

  module _ (v : scan.Scanning) (back : Back) where
    abbrev at_scan : ScanStage → Stage
    at_scan stage = Scans (record v { stage = stage }) back

    abbrev scan_then : ScanStage → ScanStage
    scan_then stage = scan_taken.stage_after v.layout v.page v.epoch v.in_place stage r

    scan_falls : (stage : ScanStage) → scan_taken.told (scan_then stage) ≡ More
        → scan_left.left_at (scan_taken.scan_end v.layout v.page) (scan_then stage) < scan_left.left_at (scan_taken.scan_end v.layout v.page) stage
        → left_at (turned_at (at_stage x (at_scan stage)) (at_scan stage) r).stage < left_at (at_scan stage)
    scan_falls stage more fewer =
        subst (λ (turn : Turn Scanned). left_at (turned_scan (at_stage x (at_scan stage)) (scan_taken.taken (record v { stage = stage }) r) back turn).stage < left_at (at_scan stage)) (sym more) fewer

    by_scan : (stage : ScanStage) → Is c k (at_stage x (at_scan stage)) → scan.wanted (record v { stage = stage }) ≡ Some q → scan_taken.told (scan_then stage) ≡ More
        → IsThere c p s k v stage → Result (at_scan stage)
    by_scan stage is asked more there =
        by_answer (at_scan stage) (scan_left.advances stage)
        (scanning c p s k v q (pages_of v.layout is.fits.stage.0.layout is.fits.pages) stage asked there)
        (λ t. scan_falls stage more
        (let fits = (scans c p s k x (record v { stage = stage }) back is q asked).goes.takes.fits in
        let fewer = scans_lower v.layout v.page v.epoch v.in_place stage r is.fits.stage.0.sound.fits fits t in
        omega (arith, fewer)))

    first_there : (at : ℕ) → Is c k (at_stage x (at_scan (scan_stage.LoadsFirst at))) → IsThere c p s k v (scan_stage.LoadsFirst at)
    first_there at is =
        let pages = pages_of v.layout is.fits.stage.0.layout is.fits.pages in
        let inside = is.fits.stage.0.sound.fits.1 in
        let there = word_is c p s k v.layout.pages pages (HeapWord at) (omega (arith, inside, pages)) in
        ap (λ (w : ℕ). is_header (decode w)) (there ∙ sym (heap_word c at)) ∙ ap is_header (first_header c p s k x v back at is).0.header

    next_there : (z : ScannedRecord) → Is c k (at_stage x (at_scan (scan_stage.LoadsNext z))) → IsThere c p s k v (scan_stage.LoadsNext z)
    next_there z is =
        let pages = pages_of v.layout is.fits.stage.0.layout is.fits.pages in
        let fits = is.fits.stage.0.sound.fits in
        let space = fits.1 in
        let low = fits.3 in
        let there = word_is c p s k v.layout.pages pages (HeapWord z.next) (omega (arith, space, low, pages)) in
        ap (λ (w : ℕ). is_header (decode w)) (there ∙ sym (heap_word c z.next)) ∙ ap is_header (answer2 c p s k x v back z is).header

    count_is_there : (h : HeadedRecord) → Is c k (at_stage x (at_scan (scan_stage.LoadsCount h))) → IsThere c p s k v (scan_stage.LoadsCount h)
    count_is_there h is =
        let pages = pages_of v.layout is.fits.stage.0.layout is.fits.pages in
        let fits = is.fits.stage.0.sound.fits in
        let inside = fits.inside in
        let counted = fits.counted in
        let there = word_is c p s k v.layout.pages pages (HeapWord (h.at + 1)) (omega (arith, inside, counted, pages)) in
        let t = count_there c p s k x v back h is in
        ap (λ (w : ℕ). is_count h.size (decode w)) (there ∙ sym (heap_word c (h.at + 1))) ∙ ap (is_count h.size) t.1 ∙ le-leb (t.0 + 2) h.size t.2

    word_there : (stage : ScanStage) → Is c k (at_stage x (at_scan stage)) → IsThere c p s k v stage
    word_there (scan_stage.LoadsFirst at) is = first_there at is
    word_there (scan_stage.LoadsCount h) is = count_is_there h is
    word_there (scan_stage.LoadsNext z) is = next_there z is
    word_there stage is = tt

    scans_on : (stage : ScanStage) → Is c k (at_stage x (at_scan stage)) → scan.wanted (record v { stage = stage }) ≡ Some q → scan_taken.told (scan_then stage) ≡ More → Result (at_scan stage)
    scans_on stage is asked more = by_scan stage is asked more (word_there stage is)

  -- ---- accesses

  module _ (stage : AccessStage) (is : Is c k (accessing_going.at c p s k x stage)) where
    abbrev own : Access
    own = accessing_going.own c p s k x stage

    header_read : (z : RecordAccess) → stage ≡ LoadsHeader z → access.is_header (decode (word_at c p s k x.layout.pages (HeapWord z.at))) ≡ true
    header_read z e =
        let it = subst (λ (n : AccessStage). Is c k (accessing_going.at c p s k x n)) e is in
        let inside = it.fits.stage.sound.stage.0 in
        let pages = is.fits.pages in
        let there = word_is c p s k x.layout.pages pages (HeapWord z.at) (omega (arith, inside, pages)) in
        ap (λ (w : ℕ). access.is_header (decode w)) (there ∙ sym (heap_word c z.at)) ∙ header_there c p s k x z it

    count_read : (m : MixedAccess) → stage ≡ LoadsCount m → is_some (number_in (decode (word_at c p s k x.layout.pages (HeapWord (access.count_at m))))) ≡ true
    count_read m e =
        let it = subst (λ (n : AccessStage). Is c k (accessing_going.at c p s k x n)) e is in
        let inside = it.fits.stage.sound.stage.0 in
        let pages = is.fits.pages in
        let there = word_is c p s k x.layout.pages pages (HeapWord (access.count_at m)) (omega (arith, inside, pages)) in
        ap (λ (w : ℕ). is_some (number_in (decode w))) (there ∙ sym (heap_word c (access.count_at m))) ∙ number_there c p s k x m it

    -- it is at the access still, and not at a look before its write
    access_falls : (y : Held) (a : Access) → IsSameMachine (Accesses own) (guards_access y a) → access.left a < access.left own → left_at (guards_access y a) < access.left own
    access_falls y a same fewer =
        guards_so (λ (t : Stage). IsSameMachine (Accesses own) t → left_at t < access.left own) y (OfAccess a) (access.writes_on a.spaces a.stage) (Accesses a) (λ same. fewer) (λ g same. absurd same) same

    accesses_on : access.wanted own ≡ q → access.told own r ≡ More → IsSameMachine (Accesses own) (guards_access (accessing_going.at c p s k x stage) (access.taken own r)) → Result (Accesses own)
    accesses_on step more same =
        by_answer (Accesses own) (access.advances_at stage)
        (subst (λ (z : Step). On c p s k (access.advances_at stage) z) step
        (accessing c p s k own is.fits.pages stage (subst (λ (z : Step). access.told own (reply_of z c.words) ≡ More) (sym step) more) header_read count_read))
        (λ t. subst (λ (turn : Turn Accessed). left_at (turned_access (at_stage x (Accesses own)) (access.taken own r) turn).stage < access.left own) (sym more)
        (access_falls (at_stage x (Accesses own)) (access.taken own r) same (accesses_lower own stage r more t)))

  -- ---- each machine: it has more to do, or has come to its end

  abbrev Same : (stage : Stage) → Held → Type 0
  Same stage y = IsSameMachine stage y.stage

  gate_on : (g : gate.Passing) (after : After) (turn : Turn Passed) → gate.told (gate.taken g r) ≡ turn → Is c k (at_stage x (Passes g after)) → gate.wanted g ≡ Some q
      → Same (Passes g after) (turned_gate (at_stage x (Passes g after)) (gate.taken g r) after turn) → Result (Passes g after)
  gate_on g after More more is asked same =
      by_answer (Passes g after) (gate.advances_at g.stage) (passing c p s k g g.stage q (pages_of g.layout is.fits.stage.layout is.fits.pages) asked)
      (λ t. subst (λ (turn : Turn Passed). left_at (turned_gate (at_stage x (Passes g after)) (gate.taken g r) after turn).stage < gate.left g) (sym more)
      (passages_lower g.passage g.stage r t))
  gate_on g after (Finished result) ends is asked same =
      let not_yet = passages_end (at_stage x (Passes g after)) g after after r g.passage result refl (λ e. subst (IsOwnPassage (at_stage x (Passes g after)) after) e is.fits.stage.passage) is.fits.stage.going ends same in
      Awaits (not_yet.0, (not_yet.1.0, ends ∙ ap (λ (y : Passed). Finished y) not_yet.1.1))

  flip_on : (f : flip.Flipping) (turn : Turn Flipped) → flip.told (flip.taken f r) ≡ turn → Is c k (at_stage x (Flips f)) → flip.wanted f ≡ Some q
      → Same (Flips f) (turned_flip (at_stage x (Flips f)) (flip.taken f r) turn) → Result (Flips f)
  flip_on f More more is asked same =
      by_answer (Flips f) (flip.advances_at f.stage) (flipping c p s k f f.stage q (pages_of f.layout is.fits.stage.layout is.fits.pages) asked)
      (λ t. subst (λ (turn : Turn Flipped). left_at (turned_flip (at_stage x (Flips f)) (flip.taken f r) turn).stage < flip.left f) (sym more) (flips_lower f f.stage r t))
  flip_on f (Finished result) ends is asked same =
      let not_yet = flips_end (at_stage x (Flips f)) (flip.taken f r) f result same in
      Awaits (not_yet.0, ends ∙ ap (λ (y : Flipped). Finished y) not_yet.1)

  register_on : (w : ForwardingRegister) (turn : Turn To) → evac_taken.told (evac_taken.taken w.evac r).stage ≡ turn → Is c k (at_stage x (Forwards w)) → evac.wanted w.evac ≡ Some q
      → Same (Forwards w) (turned_register (at_stage x (Forwards w)) (with_evac w (evac_taken.taken w.evac r)) turn) → Result (Forwards w)
  register_on w More more is asked same =
      by_answer (Forwards w) (evac_left.advances w.evac.stage) (copy_answers (ForRegister w.register w.after) w.evac is asked)
      (λ t. subst (λ (turn : Turn To). left_at (turned_register (at_stage x (Forwards w)) (with_evac w (evac_taken.taken w.evac r)) turn).stage < evac_left.left w.evac) (sym more)
      (copy_lowers (ForRegister w.register w.after) w.evac is t))
  register_on w (Finished to) ends is asked same = absurd (registers_end (at_stage x (Forwards w)) w (with_evac w (evac_taken.taken w.evac r)) to refl same)

  access_on : (stage : AccessStage) (turn : Turn Accessed) → access.told (accessing_going.own c p s k x stage) r ≡ turn → Is c k (accessing_going.at c p s k x stage)
      → access.wanted (accessing_going.own c p s k x stage) ≡ q
      → Same (Accesses (accessing_going.own c p s k x stage)) (turned_access (accessing_going.at c p s k x stage) (access.taken (accessing_going.own c p s k x stage) r) turn)
      → Result (Accesses (accessing_going.own c p s k x stage))
  access_on stage More more is step same = accesses_on stage is step more same
  access_on stage (Finished result) ends is step same =
      absurd (accesses_end (accessing_going.at c p s k x stage) (accessing_going.own c p s k x stage) (access.taken (accessing_going.own c p s k x stage) r) result same)

  place_on : (a : place.Placing) (turn : Turn Allocated) → place.told (place.taken a r) ≡ turn → Is c k (at_stage x (Places a)) → place.wanted a ≡ Some q
      → Same (Places a) (turned_place (at_stage x (Places a)) (place.taken a r) turn) → Result (Places a)
  place_on a More more is asked same =
      by_answer (Places a) (place.advances_at a.stage) (placing c p s k a a.stage q (pages_of a.layout is.fits.stage.layout is.fits.pages) asked)
      (λ t. subst (λ (turn : Turn Allocated). left_at (turned_place (at_stage x (Places a)) (place.taken a r) turn).stage < place.left a) (sym more)
      (place_falls (at_stage x (Places a)) (place.taken a r) same (allocations_lower a a.stage r is.fits.stage.sound.stage t)))
    where
      place_falls : (y : Held) (b : place.Placing) → IsSameMachine (Places a) (guards_place y b) → place.left b < place.left a → left_at (guards_place y b) < place.left a
      place_falls y b same fewer =
          guards_so (λ (t : Stage). IsSameMachine (Places a) t → left_at t < place.left a) y (OfPlace b) (place.writes_on b b.stage) (Places b) (λ same. fewer) (λ g same. absurd same) same
  place_on a (Finished result) ends is asked same = absurd (allocations_end (at_stage x (Places a)) a (place.taken a r) result is.fits.task.0 same)

  round_again : (d : duty.Round) (back : Back) (result : RoundEnd) → duty.told (duty.taken d r) ≡ Finished result → RoundsAgain back → Result (Serves d back)
  round_again d ToScanner result ends again = Awaits (result, ends)
  round_again d (ToTarget a) result ends again = Rounds_on (result, ends)
  round_again d ToSnap result ends again = Rounds_on (result, ends)
  round_again d (ToAccess a) result ends again = absurd again
  round_again d ToPlace result ends again = absurd again

  round_on : (d : duty.Round) (back : Back) (turn : Turn RoundEnd) → duty.told (duty.taken d r) ≡ turn → Is c k (at_stage x (Serves d back)) → duty.wanted d ≡ Some q
      → Same (Serves d back) (turned_round (at_stage x (Serves d back)) (duty.taken d r) back turn) → Result (Serves d back)
  round_on d back More more is asked same =
      let sound = is.fits.stage.0.sound in
      by_answer (Serves d back) (duty.advances_at d.stage) (serving c p s k d q (pages_of d.layout is.fits.stage.0.layout is.fits.pages) d.stage sound asked)
      (λ t. subst (λ (turn : Turn RoundEnd). left_at (turned_round (at_stage x (Serves d back)) (duty.taken d r) back turn).stage < duty.left d) (sym more)
      (duty_lowering.lowers d d.stage r sound.pages sound.stage t))
  round_on d back (Finished result) ends is asked same =
      round_again d back result ends (rounds_end (at_stage x (Serves d back)) d (duty.taken d r) back result same)

  scan_on : (v : scan.Scanning) (back : Back) (turn : Turn Scanned) → scan_taken.told (scan_taken.taken v r).stage ≡ turn → Is c k (at_stage x (Scans v back)) → scan.wanted v ≡ Some q
      → Same (Scans v back) (turned_scan (at_stage x (Scans v back)) (scan_taken.taken v r) back turn) → Result (Scans v back)
  scan_on v back More more is asked same = scans_on v back v.stage is asked more
  scan_on v back (Finished result) ends is asked same = absurd (scans_end (at_stage x (Scans v back)) v (scan_taken.taken v r) back result same)

  copy_on : (v : evac.Evacuation) (z : scan.Scanning) (back : Back) (turn : Turn To) → evac_taken.told (evac_taken.taken v r).stage ≡ turn → Is c k (at_stage x (Evacuates v z back))
      → evac.wanted v ≡ Some q → Same (Evacuates v z back) (turned_copy (at_stage x (Evacuates v z back)) (evac_taken.taken v r) z back turn) → Result (Evacuates v z back)
  copy_on v z back More more is asked same =
      by_answer (Evacuates v z back) (evac_left.advances v.stage) (copy_answers (ForScan z back) v is asked)
      (λ t. subst (λ (turn : Turn To). left_at (turned_copy (at_stage x (Evacuates v z back)) (evac_taken.taken v r) z back turn).stage < evac_left.left v) (sym more)
      (copy_lowers (ForScan z back) v is t))
  copy_on v z back (Finished to) ends is asked same = absurd same

  opening_on : (o : open_page.Opening) (z : scan.Scanning) (back : Back) (turn : Turn Opened) → open_page.told (open_page.taken o r) ≡ turn → open_page.wanted o ≡ Some q
      → Same (Opens o z back) (turned_opening (at_stage x (Opens o z back)) (open_page.taken o r) z back turn) → Result (Opens o z back)
  opening_on o z back More more asked same =
      by_answer (Opens o z back) (open_page.advances_at o.stage) (opening c p s k o o.stage q asked)
      (λ t. subst (λ (turn : Turn Opened). left_at (turned_opening (at_stage x (Opens o z back)) (open_page.taken o r) z back turn).stage < open_page.left o) (sym more)
      (openings_lower o.stage r t))
  opening_on o z back (Finished result) ends asked same = absurd (openings_end (at_stage x (Opens o z back)) o z back same)

  -- ---- checkpoints

  recall_on : (z : recall.Recalling) (after : After) (turn : Turn Recalled) → recall.told (recall.taken z r) ≡ turn → Is c k (at_stage x (Recalls z after)) → SavesAre c k (at_stage x (Recalls z after))
      → recall.wanted z ≡ Some q → Same (Recalls z after) (turned_recall (at_stage x (Recalls z after)) (recall.taken z r) after turn) → Result (Recalls z after)
  recall_on z after More more is saves asked same =
      by_answer (Recalls z after) (recall.advances_at z.stage) (recalling c p s k (at_stage x (Recalls z after)) z z.stage q (pages_of z.layout is.fits.stage.layout is.fits.pages) saves asked)
      (λ t. subst (λ (turn : Turn Recalled). left_at (turned_recall (at_stage x (Recalls z after)) (recall.taken z r) after turn).stage < recall.left z) (sym more) (recalls_lower z.stage r t))
  recall_on z after (Finished result) ends is saves asked same = absurd (recalls_end z after (recalled (at_stage x (Recalls z after)) result) after same)

  guard_on : (g : guard.Guarding) (write : Write) (turn : Turn MayWrite) → guard.told (guard.taken g r) ≡ turn → Is c k (at_stage x (Guards g write)) → SavesAre c k (at_stage x (Guards g write))
      → guard.wanted g ≡ Some q → Same (Guards g write) (turned_guard (at_stage x (Guards g write)) (guard.taken g r) write turn) → Result (Guards g write)
  guard_on g write More more is saves asked same =
      by_meeting (Guards g write) (MeetsSaving c k q) (guard.advances g) Meets_save (looking c k x g write is saves q asked)
      (λ t. subst (λ (turn : Turn MayWrite). left_at (turned_guard (at_stage x (Guards g write)) (guard.taken g r) write turn).stage < guard.left g) (sym more)
      (guard_lowers g g.stage r is.fits.stage.sound.stage t))
  guard_on g write (Finished result) ends is saves asked same = absurd (guards_end g write write same)

  save_round_on : (d : save_round.SavingRound) (goal : Goal) (turn : Turn SaveRoundEnd) → save_round.told (save_round.taken d r) ≡ turn → Is c k (at_stage x (Checkpoints d goal))
      → SavesAre c k (at_stage x (Checkpoints d goal)) → save_round.wanted d ≡ Some q → Result (Checkpoints d goal)
  save_round_on d goal More more is saves asked =
      by_answer (Checkpoints d goal) (save_round.advances_at d.stage)
      (rounding c p s k (at_stage x (Checkpoints d goal)) d d.stage q (pages_of d.layout is.fits.stage.layout is.fits.pages) saves is.fits.stage.sound.stage asked)
      (λ t. subst (λ (turn : Turn SaveRoundEnd). left_at (turned_save_round (at_stage x (Checkpoints d goal)) (save_round.taken d r) goal turn).stage < save_round.left d) (sym more)
      (round_lowers d d.stage r is.fits.stage.sound.pages is.fits.stage.sound.stage t))
  save_round_on d goal (Finished result) ends is saves asked = Rounds_on (result, ends)

  snap_on : (b : snap.Snapping) (turn : Turn Snapped) → snap.told (snap.taken b r) ≡ turn → Is c k (at_stage x (BeginsCheckpoint b)) → snap.wanted b ≡ Some q
      → Same (BeginsCheckpoint b) (turned_snap (at_stage x (BeginsCheckpoint b)) (snap.taken b r) turn) → Result (BeginsCheckpoint b)
  snap_on b More more is asked same =
      by_answer (BeginsCheckpoint b) (snap.advances_at b.stage) (snapping c p s k x b b.stage q (pages_of b.layout is.fits.stage.layout is.fits.pages) asked)
      (λ t. subst (λ (turn : Turn Snapped). left_at (turned_snap (at_stage x (BeginsCheckpoint b)) (snap.taken b r) turn).stage < snap.left b) (sym more) (snaps_lower b.stage r t))
  snap_on b (Finished result) ends is asked same =
      let not_yet = snaps_end (at_stage x (BeginsCheckpoint b)) b result same in
      Awaits (not_yet.0, ends ∙ ap (λ (y : Snapped). Finished y) not_yet.1)

  -- ---- a look

  look_by : (task : Option Task) → x.task ≡ task → IsDone task (told_look (at_stage x Looks) r) → Result Looks
  look_by None is done = Idles refl is
  look_by (Some task) is done = Has_done refl task is done

  look_on : Is c k (at_stage x Looks) → wanted_at (at_stage x Looks) Looks ≡ Some q → Same Looks (turned_look (at_stage x Looks) r) → Result Looks
  look_on is asked same =
      look_by x.task refl
      (subst (λ (z : Step). Same Looks (turned_look (at_stage x Looks) (reply_of z c.words)) → IsDone x.task (told_look (at_stage x Looks) (reply_of z c.words)))
      (same_Some (Load (place_of x.layout.pages Gate)) q asked)
      (looks_done (at_stage x Looks) (word_at c p s k x.layout.pages Gate) (says_gate c p s k x.layout.pages is.fits.pages) is.fits.task) same)

  -- ---- each stage

  by_stage : (stage : Stage) → Is c k (at_stage x stage) → (x.layout.checkpoints ≡ true → SavesAre c k (at_stage x stage)) → wanted_at (at_stage x stage) stage ≡ Some q → Same stage (turned_at (at_stage x stage) stage r) → Result stage
  by_stage (Passes g after) is saves asked same = gate_on g after (gate.told (gate.taken g r)) refl is asked same
  by_stage (Flips f) is saves asked same = flip_on f (flip.told (flip.taken f r)) refl is asked same
  by_stage (Forwards w) is saves asked same = register_on w (evac_taken.told (evac_taken.taken w.evac r).stage) refl is asked same
  by_stage (Accesses a) is saves asked same =
      let its : a ≡ accessing_going.own c p s k x a.stage = (λ i. record { spaces = is.fits.stage.layout i; epoch = is.fits.stage.epoch i; stage = a.stage }) in
      let now = subst (λ (z : Access). (Is c k (at_stage x (Accesses z))) × (access.wanted z ≡ q) × Same (Accesses z) (turned_at (at_stage x (Accesses z)) (Accesses z) r)) its
      (is, same_Some (access.wanted a) q asked, same) in
      subst (λ (z : Access). Result (Accesses z)) (sym its) (access_on a.stage (access.told (accessing_going.own c p s k x a.stage) r) refl now.0 now.1 now.2)
  by_stage (Places a) is saves asked same = place_on a (place.told (place.taken a r)) refl is asked same
  by_stage (Serves d back) is saves asked same = round_on d back (duty.told (duty.taken d r)) refl is asked same
  by_stage (Scans v back) is saves asked same = scan_on v back (scan_taken.told (scan_taken.taken v r).stage) refl is asked same
  by_stage (Evacuates v z back) is saves asked same = copy_on v z back (evac_taken.told (evac_taken.taken v r).stage) refl is asked same
  by_stage (Opens o z back) is saves asked same = opening_on o z back (open_page.told (open_page.taken o r)) refl asked same
  by_stage (Recalls z after) is saves asked same = recall_on z after (recall.told (recall.taken z r)) refl is (saves is.fits.stage.room) asked same
  by_stage (Guards g write) is saves asked same = guard_on g write (guard.told (guard.taken g r)) refl is (saves is.fits.stage.room) asked same
  by_stage (Checkpoints d goal) is saves asked same = save_round_on d goal (save_round.told (save_round.taken d r)) refl is (saves is.fits.stage.room) asked
  by_stage (BeginsCheckpoint b) is saves asked same = snap_on b (snap.told (snap.taken b r)) refl is asked same
  by_stage Looks is saves asked same = look_on is asked same
  by_stage Gone is saves asked same = absurd (cc)

-- what is kept of checkpoints in a heap with its workers
saves_are : (h : Heap) (p o : Plain) (k : ℕ) (x : Held) → WorkersStand h p o → k < length h.workers → held_at h k ≡ x → x.layout.checkpoints ≡ true → SavesAre (read h) k x
saves_are h p o k x st l holds room = of_heap (subst (λ (b : Bool). StandIf b h p) has_room st.saving)
  where
    has_room : h.checkpoints ≡ true
    has_room = sym (st.laid_out k l) ∙ (ap (λ (y : Held). y.layout.checkpoints) holds ∙ room)

    of_heap : CheckpointsStand h p → SavesAre (read h) k x
    of_heap kept = record {
      formed = kept.formed;
      frozen = kept.frozen;
      count = length h.workers;
      saver = λ j. saver_of (held_at h j);
      stands = kept.stands;
      below = l;
      own = ap saver_of holds;
    }

pub machines_go_on : MachinesGoOn
machines_go_on h p o k x q st l holds asked same = by_result (by_stage (read h) p st.stands k x q x.stage (member h p o k x st l holds) (saves_are h p o k x st l holds) asked same)
  where
    by_result : Result (read h) p st.stands k x q x.stage → Progress h k x q
    by_result (Less fewer) = LessIsLeft fewer
    by_result (Was_lost word is) = ExchangeWasLost word is
    by_result (Meets busy) = AnotherCopies (record { at = busy.at; loads = busy.loads; len = busy.len; worker = busy.worker; busy = busy.busy; other = busy.other })
    by_result (Meets_save saving) = AnotherSaves (record { page = saving.page; loads = saving.loads; number = saving.number; worker = saving.worker; saving = saving.saving; other = saving.other })
    by_result (Rounds_on over) = RoundIsOver over
    by_result (Awaits waiting) = OthersGoFirst waiting
    by_result (Idles at none) = NothingIsAsked at none
    by_result (Has_done at task is done) = TaskIsDone at task is done
