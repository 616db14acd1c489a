-- What an allocation claims is set aside for the record that the mutator's instruction makes.
use Rattle.std.proofs.Common.{◌≡◌, ℕ, ◌+◌, ◌*◌, ◌≤◌, ◌==◌, Bool, true, false, cond, Option, Some, None, is_some, refl, ap, sym, subst, ◌∙◌, arith}
use Rattle.plain_state.specs.State.{Plain}
use Rattle.atom_store.specs.declared.reply.Reply.{Reply}
use Rattle.atom_store.specs.declared.reply.Reply.TheVariants as replies
use Rattle.space_map.specs.declared.spaces.TheConstants.{PAGE_WORDS}
use Rattle.record_layout.specs.declared.header.Header.{Header}
use Rattle.atom_store.specs.declared.turn.Turn.{Turn}
use Rattle.atom_store.specs.declared.turn.Turn.TheVariants.{More, Finished}
use Rattle.alloc_end.specs.declared.allocated.Allocated.{Allocated}
use Rattle.alloc_end.specs.declared.place_stage.PlaceStage.{PlaceStage}
use Rattle.alloc_end.specs.declared.place_stage.PlaceStage.TheVariants.{LoadsTraced, LoadsSize, LoadsArea, ExchangesArea, StoresHeader, Ended}
use Rattle.alloc_end.specs.Place.{Placing, pages_for, size_of, words_for}
use Rattle.alloc_end.specs.Place as place
use Rattle.alloc_end.specs.Soundness.{IsPlacingGoing}
use Rattle.alloc_end.proofs.NextStages.{HasFoundRoom, may_end, room_stays}
use Rattle.page_saves.specs.declared.may_write.MayWrite.{MayWrite}
use Rattle.page_saves.specs.Guard.{Guarding}
use Rattle.page_saves.specs.Guard as guard
use Rattle.heap_state.specs.Known.{is_running}
use Rattle.gc_worker.specs.Laws.Cycles.{MakesRecord, IsForRecord, SetAsideIsForRecords, ClaimsAreSetAside, SetsAside, words_claimed, claimed_at, set_aside, set_aside_at, set_aside_by}
use Rattle.gc_worker.specs.declared.stage.Stage.{Stage}
use Rattle.gc_worker.specs.declared.stage.Stage.TheVariants.{Places, Guards}
use Rattle.gc_worker.specs.declared.stage.write.Write.{Write}
use Rattle.gc_worker.specs.declared.stage.write.Write.TheVariants.{OfAccess, OfPlace}
use Rattle.gc_worker.specs.declared.task.Task.{Task}
use Rattle.gc_worker.specs.Workers.Fits.{Fits, FitsStage, FitsTask, IsMaking}
use Rattle.gc_worker.specs.Steps.Goes.{Is}
use Rattle.gc_worker.specs.Workers.Held.{Held, at_stage, pages_needed, header_for, pages_asked}
use Rattle.gc_worker.specs.Workers.Knows.{post_in}
use Rattle.gc_worker.specs.Laws.Step.{Heap, WorkersStand, read}
use Rattle.gc_worker.specs.declared.calls.did.Did.TheVariants.{Done}
use Rattle.gc_worker.specs.Steps.Turned.{Told, Silent, Answers, Marks, guards, told, told_effect, told_place, turned, turned_guard, turned_place}
use Rattle.gc_worker.proofs.Plain.AnswerSteps.{its_mutator}
use Rattle.gc_worker.proofs.Stages.Gate.Resuming.{end_none}
use Rattle.gc_worker.proofs.Plain.NewRecords.{asked_is, plain_pages}
use Rattle.gc_worker.proofs.Workers.Members.{member}
use Rattle.gc_worker.proofs.Stages.Place.Acts.{makes_alike}
use Rattle.gc_worker.proofs.Plain.Actions.{plain_value}

-- ---- a step

-- nothing is claimed, and nothing was set aside
nothing : (x y : Held) (claims : ℕ) → claims ≡ 0 → set_aside x ≡ 0 → (t : Told) → SetsAside x claims y t
nothing x y claims none empty (Answers task Done) = none
nothing x y claims none empty (Marks asked) = tt
nothing x y claims none empty _ = omega (arith, none, empty)

-- the pages that the record needs
asks : (x : Held) (header : Header) → header_for x ≡ Some header → words_for header ≡ PAGE_WORDS * pages_needed x
asks x header is = let a : pages_needed x ≡ pages_for (size_of header) = ap pages_asked is in omega (arith, a)

-- with a look before a write, or without
guarded_aside : (x : Held) (z : Placing) (page : Option ℕ) → set_aside_at (guards x (OfPlace z) page (Places z)) ≡ set_aside_by z z.stage
guarded_aside x z None = refl
guarded_aside x z (Some page) = by_test (x.running == 0)
  where
    by_test : (b : Bool) → set_aside_at (cond b (Places z) (Guards (guard.begun x.layout page x.running x.number) (OfPlace z))) ≡ set_aside_by z z.stage
    by_test true = refl
    by_test false = refl

-- if room was found, its pages are set aside
for_room : (z : Placing) (stage : PlaceStage) → HasFoundRoom stage → set_aside_by z stage ≡ words_for z.header
for_room z LoadsTraced found = absurd found
for_room z (LoadsSize traced) found = absurd found
for_room z (LoadsArea traced size) found = absurd found
for_room z (ExchangesArea f) found = absurd found
for_room z (Ended result) found = absurd found
for_room z _ found = refl

-- a turn that doesn't end it
goes_on : (turn : Turn Allocated) → ((result : Allocated) → turn ≡ Finished result → ⊥) → turn ≡ More
goes_on More ends = refl
goes_on (Finished result) ends = absurd (ends result refl)

module _ (x : Held) (z : Placing) (task : IsMaking x.account x.registers x.task) where
  abbrev at_place : PlaceStage → Placing
  at_place stage = record z { stage = stage }

  abbrev at : PlaceStage → Held
  at stage = at_stage x (Places (at_place stage))

  -- after a step of the allocation, which then is this
  abbrev After : PlaceStage → (claims : ℕ) → Placing → Type 0
  After stage claims next = SetsAside (at stage) claims (turned_place (at stage) next (place.told next)) (told_place (at stage) (place.told next))

  -- where it goes on
  within : (stage : PlaceStage) (claims : ℕ) (next : Placing) → place.told next ≡ More → claims + set_aside_by z stage ≤ set_aside_by next next.stage → After stage claims next
  within stage claims next more keeps =
      subst (λ (t : Turn Allocated). SetsAside (at stage) claims (turned_place (at stage) next t) (told_place (at stage) t)) (sym more)
      (subst (λ (aside : ℕ). claims + set_aside (at stage) ≤ aside) (sym (guarded_aside (at stage) next (place.writes_on next next.stage))) keeps)

  -- where it still has found room
  stays_aside : (stage : PlaceStage) (reply : Reply) → HasFoundRoom stage → place.told (place.taken_at (at_place stage) stage reply) ≡ More
      → After stage 0 (place.taken_at (at_place stage) stage reply)
  stays_aside stage reply found more =
      let next : Placing = place.taken_at (at_place stage) stage reply in
      let kept = room_stays z stage reply found more in
      let was = for_room z stage found in
      let is = for_room next next.stage kept.0 ∙ ap words_for kept.1 in
      within stage 0 next more (omega (arith, was, is))

  places : After StoresHeader 0 (place.placed z)
  places =
      subst (λ (o : Option Task). SetsAside (at StoresHeader) 0 (turned_place (at StoresHeader) (place.placed z) (place.told (place.placed z))) (told_effect o)) (sym task.executes.task_is) refl

  by_place : (stage : PlaceStage) (reply : Reply) → IsPlacingGoing stage → SetsAside (at stage) (words_claimed (at stage) reply) (turned (at stage) reply) (told (at stage) reply)
  by_place LoadsTraced reply going = nothing (at LoadsTraced) (turned (at LoadsTraced) reply) 0 refl refl (told (at LoadsTraced) reply)
  by_place (LoadsSize traced) reply going = nothing (at (LoadsSize traced)) (turned (at (LoadsSize traced)) reply) 0 refl refl (told (at (LoadsSize traced)) reply)
  by_place (LoadsArea traced size) reply going = nothing (at (LoadsArea traced size)) (turned (at (LoadsArea traced size)) reply) 0 refl refl (told (at (LoadsArea traced size)) reply)
  by_place (ExchangesArea f) (replies.Value _) going = omega arith
  by_place (ExchangesArea f) _ going = omega arith
  by_place StoresHeader replies.Done going = places
  by_place StoresHeader _ going = within StoresHeader 0 (at_place StoresHeader) refl (omega arith)
  by_place (Ended result) reply going = absurd going
  by_place stage reply going =
      stays_aside stage reply tt (goes_on (place.told (place.taken_at (at_place stage) stage reply)) (λ result ends. may_end z stage reply result going ends))

-- a look before a write leaves what is set aside
looks : (x y : Held) (g h : Guarding) (z : Placing) (turn : Turn MayWrite) → SetsAside (at_stage x (Guards g (OfPlace z))) 0 (turned_guard y h (OfPlace z) turn) Silent
looks x y g h z More = omega arith
looks x y g h z (Finished result) = omega arith

by_write : (x : Held) (g : Guarding) (write : Write) (reply : Reply)
    → SetsAside (at_stage x (Guards g write)) 0 (turned (at_stage x (Guards g write)) reply) Silent
by_write x g (OfAccess a) reply = nothing (at_stage x (Guards g (OfAccess a))) (turned (at_stage x (Guards g (OfAccess a))) reply) 0 refl refl Silent
by_write x g (OfPlace z) reply = looks x (at_stage x (Guards g (OfPlace z))) g (guard.taken g reply) z (guard.told (guard.taken g reply))

module _ (n mutators k : ℕ) (x : Held) (reply : Reply) (fits : Fits n mutators k x) where
  -- at another stage nothing is claimed or set aside
  elsewhere : words_claimed x reply ≡ 0 → set_aside x ≡ 0 → SetsAside x (words_claimed x reply) (turned x reply) (told x reply)
  elsewhere none empty = nothing x (turned x reply) (words_claimed x reply) none empty (told x reply)

  by_stage : (stage : Stage) → x.stage ≡ stage → SetsAside x (words_claimed x reply) (turned x reply) (told x reply)
  by_stage (Places z) e =
      let task = subst (FitsTask x) e fits.task in
      let stage = subst (FitsStage x) e fits.stage in
      let own : x ≡ at_stage x (Places z) = ap (at_stage x) e in
      subst (λ (y : Held). SetsAside y (words_claimed y reply) (turned y reply) (told y reply)) (sym own) (by_place x z task.0 z.stage reply stage.going)
  by_stage (Guards g write) e =
      let own : x ≡ at_stage x (Guards g write) = ap (at_stage x) e in
      subst (λ (y : Held). SetsAside y (words_claimed y reply) (turned y reply) (told y reply)) (sym own) (by_write x g write reply)
  by_stage stage e = elsewhere (ap (λ (s : Stage). claimed_at s reply) e) (ap set_aside_at e)

pub claims_are_set_aside : ClaimsAreSetAside
claims_are_set_aside n mutators k x reply fits = by_stage n mutators k x reply fits x.stage refl

-- ---- the record

-- of a worker at an allocation, or at a look before one of its writes
module _ (h : Heap) (p o : Plain) (k : ℕ) (y : Held) (st : WorkersStand h p o) (z : Placing) (is : Is (read h) k y) (running : is_running (post_in y y.stage) ≡ true)
    (unended : is_some y.account.end ≡ false) (task : IsMaking y.account y.registers y.task × (header_for y ≡ Some z.header)) (aside : set_aside y ≡ set_aside_by z z.stage) where
  its_record : MakesRecord p k y (pages_needed y)
  its_record =
      let making = task.0 in
      let none = end_none y.account.end unended in
      let its = its_mutator (read h) p st.stands k y is running none in
      let acts = makes_alike (read h) p st.stands k y is running none its.0 its.1 making in
      record {
        mutator = its.0;
        is = its.1.is;
        no_end = its.1.no_end;
        instr = making.executes.instr;
        task = making.executes.task_is;
        pages_are = plain_pages y making its.0 (plain_value st.stands.ghost.identity making.value) acts ∙ ap (λ (n : ℕ). Some n) (sym (asked_is y making));
      }

  few_by : (stage : PlaceStage) → set_aside_by z stage ≤ PAGE_WORDS * pages_needed y
  few_by stage = let a = asks y z.header task.1 in most a stage
    where
      most : words_for z.header ≡ PAGE_WORDS * pages_needed y → (stage : PlaceStage) → set_aside_by z stage ≤ PAGE_WORDS * pages_needed y
      most a LoadsTraced = omega arith
      most a stage = omega (arith, a)

  for_record : IsForRecord p k y
  for_record = record { few = subst (λ (n : ℕ). n ≤ PAGE_WORDS * pages_needed y) (sym aside) (few_by z.stage); makes = λ some. its_record }

-- nothing is set aside
for_none : (p : Plain) (k : ℕ) (x : Held) → set_aside x ≡ 0 → IsForRecord p k x
for_none p k x none = record { few = omega (arith, none); makes = λ some. absurd (omega (arith, none, some)) }

module _ (h : Heap) (p o : Plain) (k : ℕ) (x : Held) (st : WorkersStand h p o) where
  at_write : (g : Guarding) (write : Write) → Is (read h) k (at_stage x (Guards g write)) → IsForRecord p k (at_stage x (Guards g write))
  at_write g (OfAccess a) is = for_none p k (at_stage x (Guards g (OfAccess a))) refl
  at_write g (OfPlace z) is = for_record h p o k (at_stage x (Guards g (OfPlace z))) st z is refl is.fits.end is.fits.task refl

  at_stages : Is (read h) k x → (stage : Stage) → x.stage ≡ stage → IsForRecord p k x
  at_stages there (Places z) e =
      let own : x ≡ at_stage x (Places z) = ap (at_stage x) e in
      let is = subst (Is (read h) k) own there in
      subst (IsForRecord p k) (sym own) (for_record h p o k (at_stage x (Places z)) st z is refl is.fits.end is.fits.task refl)
  at_stages there (Guards g write) e =
      let own : x ≡ at_stage x (Guards g write) = ap (at_stage x) e in
      subst (IsForRecord p k) (sym own) (at_write g write (subst (Is (read h) k) own there))
  at_stages there stage e = for_none p k x (ap set_aside_at e)

pub set_aside_is_for_records : SetAsideIsForRecords
set_aside_is_for_records h p o k x st l holds = at_stages h p o k x st (member h p o k x st l holds) x.stage refl
