-- Once an epoch is traced the board and all pages that were copied into are open, and only then comes the next flip.
use Rattle.std.proofs.Common.{◌≡◌, ℕ, ◌+◌, ◌*◌, ◌<◌, ◌≤◌, ◌⊎◌, inl, inr, Bool, true, false, cond, Option, Some, None, Result, Ok, Err, refl, sym, ap, subst, ◌∙◌, arith, ⊎_elim}
use Rattle.std.specs.Prelude.{⊤}
use Rattle.std.proofs.lemmas.Bool.{cases_lt}
use Rattle.std.proofs.lemmas.Option.{same_Some}
use Rattle.plain_state.specs.declared.end.End.{End}
use Rattle.plain_state.specs.State.{Plain}
use Rattle.plain_heap.specs.declared.action.Action.{Action}
use Rattle.plain_heap.specs.declared.action.Action.TheVariants.{Snaps}
use Rattle.plain_heap.specs.Action.{action}
use Rattle.atom_store.specs.declared.reply.Reply.{Reply}
use Rattle.atom_store.specs.declared.reply.Reply.TheVariants as replies
use Rattle.atom_store.specs.declared.turn.Turn.{Turn}
use Rattle.atom_store.specs.declared.turn.Turn.TheVariants.{More, Finished}
use Rattle.space_map.specs.declared.area_word.AreaWord.{AreaWord}
use Rattle.space_map.specs.declared.gate_word.GateWord.{GateWord}
use Rattle.space_map.specs.declared.page_word.PageWord.TheVariants.{Open}
use Rattle.space_map.specs.AreaWord.{decode_area}
use Rattle.space_map.specs.GateWord.{decode_gate}
use Rattle.space_map.specs.PageWord.{decode_page}
use Rattle.space_map.specs.Spaces.{board_page, first_word, page_of, space_start, to_space}
use Rattle.alloc_end.specs.declared.allocated.Allocated.{Allocated}
use Rattle.alloc_end.specs.declared.allocated.Allocated.TheVariants.{Placed, Full}
use Rattle.alloc_end.specs.declared.shortage.Shortage.{Shortage}
use Rattle.alloc_end.specs.Place as place
use Rattle.gate_core.specs.declared.snap.snapped.Snapped.{Snapped}
use Rattle.gate_core.specs.declared.snap.snapped.Snapped.TheVariants as snapped
use Rattle.gate_core.specs.Flip.{Flipping}
use Rattle.gate_core.specs.Snap as snap
use Rattle.heap_state.specs.Configuration.{Configuration, table, era, memory, team}
use Rattle.heap_state.specs.Invariant.Parts.Pages.{Quiet}
use Rattle.heap_state.specs.Known.{Known}
use Rattle.heap_laws.specs.Answers.{AreaAnswers}
use Rattle.heap_laws.proofs.Steps.Answers.{areas_are_read}
use Rattle.fault_duty.specs.Duty as duty
use Rattle.record_access.specs.declared.accessed.Accessed.{Accessed}
use Rattle.record_access.specs.declared.accessed.Accessed.TheVariants.{Faults, Awaits, Brings, Stored, Fails}
use Rattle.gc_worker.specs.declared.stage.Stage.{Stage}
use Rattle.gc_worker.specs.declared.stage.Stage.TheVariants.{Looks, Flips, Accesses, Places, Serves, BeginsCheckpoint}
use Rattle.gc_worker.specs.declared.calls.did.Did.TheVariants.{Done}
use Rattle.gc_worker.specs.declared.task.Task.{Task}
use Rattle.gc_worker.specs.declared.task.Task.TheVariants.{Calls, Stops}
use Rattle.record_access.specs.Access as access
use Rattle.gc_worker.specs.Laws.Claims.{IsBelowLow, IsCopiedPage, IsForCopies, CopiedPagesAreBelowLow, TracedPagesAreOpen, FlipsAreOfTraced, epoch_of_heap}
use Rattle.gc_worker.specs.Laws.Copied.{IsTraced}
use Rattle.gc_worker.specs.Workers.Held.{Held, may_snap}
use Rattle.gc_worker.specs.Workers.Knows.{traced_seen_in}
use Rattle.gc_worker.specs.Laws.Step.{Heap, read, WorkersStand}
use Rattle.gc_worker.specs.Plain.Seen.{seen}
use Rattle.gc_worker.specs.Steps.Turned.{Told, Silent, Answers, Marks, told_at, told_look, told_gate, told_start, told_acted, told_action, told_access, told_place, told_snap, told_full, told_effect, told_end, is_full, end_by_shortage}
use Rattle.gc_worker.specs.Steps.Turned as turning
use Rattle.gc_worker.proofs.Words.Areas.{area_now, area_says, is_space}
use Rattle.gc_worker.proofs.Words.Eras.{board_is, start_is}
use Rattle.gc_worker.proofs.Stages.Gate.GateWords.{gate_says}
use Rattle.gc_worker.proofs.Workers.Members.{member}
use Rattle.gc_worker.proofs.Stages.Rounds.RoundWords.{page_now, page_says, traced_word}
use Rattle.gc_worker.proofs.Plain.Quiet.{IsQuiet, rounds_are_quiet}

-- ---- the pages

module _ (h : Heap) (p o : Plain) (st : WorkersStand h p o) where
  abbrev c : Configuration
  c = read h

  pub of_now : (era c).epoch ≡ epoch_of_heap h
  of_now = sym (ap (turning.epoch_in_gate 0) (gate_says c p st.stands))

  -- the area of the gate's epoch, as its word says it
  areas : (area : AreaWord) → decode_area (area_now c (to_space (epoch_of_heap h))) ≡ Some area → AreaAnswers h.pages area
  areas area is =
      let space = to_space (epoch_of_heap h) in
      subst (AreaAnswers h.pages) (same_Some ((table c).area space) area (sym (area_says c p st.stands space (is_space (epoch_of_heap h))) ∙ is))
      ((areas_are_read c p st.stands).each space (is_space (epoch_of_heap h)))

  -- the pages that were copied into lie below LOW
  copied_below : (page : ℕ) → IsCopiedPage h page → IsBelowLow h.pages h.words page
  copied_below page copied =
      let a = (areas copied.area copied.area_is).order in
      let b = copied.below in
      record { area = copied.area; area_is = copied.area_is; from = copied.from; below = omega (arith, a, b) }

  -- and those are pages of the table
  below_within : (page : ℕ) → IsBelowLow h.pages h.words page → page ≤ 2 * h.pages
  below_within page is =
      let a = (areas is.area is.area_is).order in
      let b = is.below in
      let start = start_within (to_space (epoch_of_heap h)) (is_space (epoch_of_heap h)) in
      omega (arith, a, b, start)
    where
      start_within : (space : ℕ) → space < 2 → space_start h.pages space ≤ 64 * h.pages
      start_within space small = ⊎_elim
          (λ (none : space < 1). let e : space ≡ 0 = omega (arith, none) in subst (λ (n : ℕ). space_start h.pages n ≤ 64 * h.pages) (sym e) (omega arith))
          (λ (one : 1 ≤ space). let e : space ≡ 1 = omega (arith, one, small) in subst (λ (n : ℕ). space_start h.pages n ≤ 64 * h.pages) (sym e) (omega arith))
          (cases_lt space 1)

  pub for_copies_within : (page : ℕ) → IsForCopies h.pages h.words page → page ≤ 2 * h.pages
  for_copies_within page (inl board) = omega (arith, board)
  for_copies_within page (inr below) = below_within page below

  module _ (traced : IsTraced h) where
    as_traced : (memory c).traced ≡ (era c).epoch + 1
    as_traced = traced_word c ∙ (traced ∙ ap (λ (e : ℕ). e + 1) (sym of_now))

    quiet : Quiet (era c) (memory c).gate.behind (memory c).front (memory c).page
    quiet = st.stands.invariant.tracing.quiet as_traced

    -- what its word says
    says : (page : ℕ) → page ≤ 2 * h.pages → (table c).page page ≡ Open (era c).epoch → decode_page (page_now c page) ≡ Some (Open (epoch_of_heap h))
    says page within is = page_says c p st.stands page within ∙ (ap Some is ∙ ap (λ (e : ℕ). Some (Open e)) of_now)

    board_open : (table c).page (board_page h.pages) ≡ Open (era c).epoch
    board_open =
        let b = board_is c in
        let same : page_of (era c).board ≡ board_page h.pages = omega (arith, b) in
        subst (λ (page : ℕ). (table c).page page ≡ Open (era c).epoch) same quiet.board

    module _ (page : ℕ) (copied : IsCopiedPage h page) where
      front_is : (memory c).front ≡ (era c).start + copied.area.front
      front_is =
          let space = to_space (era c).epoch in
          let same : (table c).area space ≡ copied.area =
          same_Some ((table c).area space) copied.area (sym (area_says c p st.stands space (is_space (era c).epoch)) ∙ (ap (λ (e : ℕ). decode_area (area_now c (to_space e))) of_now ∙ copied.area_is)) in
          (areas_are_read c p st.stands).now.front ∙ ap (λ (a : AreaWord). (era c).start + a.front) same

      start_as : (era c).start ≡ space_start h.pages (to_space (epoch_of_heap h))
      start_as = start_is c ∙ ap (λ (e : ℕ). space_start h.pages (to_space e)) of_now

      is_open : (table c).page page ≡ Open (era c).epoch
      is_open = ⊎_elim
          (λ (last : (memory c).front < first_word page + 64). st.stands.invariant.tracing.last as_traced page (let f = front_is in let s = start_as in let b = copied.below in omega (arith, f, s, b)) last)
          (λ (full : first_word page + 64 ≤ (memory c).front). quiet.full page (let s = start_as in let f = copied.from in omega (arith, s, f)) full)
          (cases_lt (memory c).front (first_word page + 64))

    open_by : (page : ℕ) → (page ≡ board_page h.pages) ⊎ IsCopiedPage h page → decode_page (page_now c page) ≡ Some (Open (epoch_of_heap h))
    open_by page (inl board) = says page (omega (arith, board)) (subst (λ (n : ℕ). (table c).page n ≡ Open (era c).epoch) (sym board) board_open)
    open_by page (inr copied) = says page (below_within page (copied_below page copied)) (is_open page copied)

pub traced_pages_are_open : TracedPagesAreOpen
traced_pages_are_open h p o st traced page of_epoch = open_by h p o st traced page of_epoch

pub copied_pages_are_below_low : CopiedPagesAreBelowLow
copied_pages_are_below_low h p o page st copied = copied_below h p o st page copied

-- ---- flips

abbrev pub NoMark : Told → Type 0
NoMark (Marks asked) = ⊥
NoMark _ = ⊤

ends_unmarked : (o : Option Task) (end : End) → NoMark (told_end o end)
ends_unmarked (Some task) end = tt
ends_unmarked None end = tt

effects_unmarked : (o : Option Task) → NoMark (told_effect o)
effects_unmarked (Some task) = tt
effects_unmarked None = tt

either_unmarked : (b : Bool) (s t : Told) → NoMark s → NoMark t → NoMark (cond b s t)
either_unmarked true s t is other = is
either_unmarked false s t is other = other

actions_unmarked : (x : Held) (task : Task) (act : Action) → NoMark (told_action x task act)
actions_unmarked x task Snaps = either_unmarked (may_snap x) Silent (Answers task Done) tt tt
actions_unmarked x task _ = tt

acted_unmarked : (x : Held) (task : Task) (o : Result Action End) → NoMark (told_acted x task o)
acted_unmarked x task (Ok act) = actions_unmarked x task act
acted_unmarked x task (Err why) = tt

starts_unmarked : (x : Held) (o : Option Task) → NoMark (told_start x o)
starts_unmarked x None = tt
starts_unmarked x (Some (Calls instr)) = acted_unmarked x (Calls instr) (action (seen x.account x.registers) instr)
starts_unmarked x (Some (Stops end)) = tt

gates_unmarked : (x : Held) (o : Option GateWord) → NoMark (told_gate x o)
gates_unmarked x (Some gate) = either_unmarked gate.request Silent (told_start x x.task) tt (starts_unmarked x x.task)
gates_unmarked x None = tt

looks_unmarked : (x : Held) (reply : Reply) → NoMark (told_look x reply)
looks_unmarked x (replies.Value word) = gates_unmarked x (decode_gate word)
looks_unmarked x _ = tt

accesses_unmarked : (o : Option Task) (t : Turn Accessed) → NoMark (told_access o t)
accesses_unmarked o (Finished (Faults page)) = tt
accesses_unmarked o (Finished Awaits) = tt
accesses_unmarked o (Finished (Brings into word)) = effects_unmarked o
accesses_unmarked o (Finished Stored) = effects_unmarked o
accesses_unmarked o (Finished (Fails why)) = ends_unmarked o why
accesses_unmarked o More = tt

full_unmarked : (x : Held) (s : Shortage) (traced : Bool) → NoMark (told_full x s traced)
full_unmarked x s false = tt
full_unmarked x s true = either_unmarked (is_full x s) (told_end x.task (end_by_shortage s)) Silent (ends_unmarked x.task (end_by_shortage s)) tt

places_unmarked : (x : Held) (t : Turn Allocated) → NoMark (told_place x t)
places_unmarked x (Finished (Placed at)) = effects_unmarked x.task
places_unmarked x (Finished (Full s)) = full_unmarked x s s.traced
places_unmarked x More = tt

snaps_unmarked : (o : Option Task) (t : Turn Snapped) → NoMark (told_snap o t)
snaps_unmarked o (Finished (snapped.Begun seen)) = effects_unmarked o
snaps_unmarked o (Finished (snapped.NotYet word)) = tt
snaps_unmarked o More = tt

quiet_unmarked : (t : Told) → IsQuiet t → NoMark t
quiet_unmarked (Marks asked) quiet = quiet
quiet_unmarked _ quiet = tt

-- who flips is at a flip
pub flips_at : (x : Held) (reply : Reply) (asked : ℕ) (stage : Stage) → told_at x stage reply ≡ Marks asked → (f : Flipping) × (stage ≡ Flips f)
flips_at x reply asked (Flips f) e = (f, refl)
flips_at x reply asked Looks e = absurd (subst NoMark e (looks_unmarked x reply))
flips_at x reply asked (Accesses a) e = absurd (subst NoMark e (accesses_unmarked x.task (access.told a reply)))
flips_at x reply asked (Places p) e = absurd (subst NoMark e (places_unmarked x (place.told (place.taken p reply))))
flips_at x reply asked (Serves d back) e = absurd (subst NoMark e (quiet_unmarked _ (rounds_are_quiet (duty.told (duty.taken d reply)))))
flips_at x reply asked (BeginsCheckpoint s) e = absurd (subst NoMark e (snaps_unmarked x.task (snap.told (snap.taken s reply))))
flips_at x reply asked _ e = absurd (subst NoMark e tt)

pub flips_are_of_traced : FlipsAreOfTraced
flips_are_of_traced h p o k x reply asked st below holds marks =
    let is = member h p o k x st below holds in
    let at = flips_at x reply asked x.stage marks in
    let seen : ((team (read h)).worker k).traced_seen ≡ true = ap (λ (w : Known). w.traced_seen) is.as_known ∙ ap traced_seen_in at.1 in
    let traced = ((st.stands.invariant.workers k is.below).seen_traced seen).1 in
    sym (traced_word (read h)) ∙ (traced ∙ ap (λ (e : ℕ). e + 1) (of_now h p o st))
