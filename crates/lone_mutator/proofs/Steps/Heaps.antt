-- The heap of a lone mutator after a step, from what the mutator owes of it.
use Rattle.std.proofs.Common.{◌≡◌, ℕ, ◌+◌, ◌<◌, ◌≤◌, length, false, true, Bool, Some, None, refl, sym, ap, subst, ◌∙◌, arith, get_or-set_same, length-set, slice_get}
use Rattle.std.proofs.lemmas.List.{length-map}
use Rattle.plain_state.specs.State.{Plain}
use Rattle.atom_store.specs.declared.reply.Reply.{Reply}
use Rattle.atom_store.specs.declared.step.Step.{Step}
use Rattle.atom_store.specs.Step.{reply_of}
use Rattle.space_map.specs.Spaces.{Layout, to_space}
use Rattle.gate_core.specs.declared.gate_stage.GateStage.{GateStage}
use Rattle.gate_core.specs.declared.gate_stage.GateStage.TheVariants as gate_stage
use Rattle.gate_core.specs.declared.passage.Passage.TheVariants.{Clear}
use Rattle.gate_core.specs.Gate.{left_at}
use Rattle.space_map.specs.declared.gate_word.GateWord.{GateWord}
use Rattle.heap_state.specs.Memory.Table.{Table}
use Rattle.heap_state.specs.Configuration.{Configuration, Stands, table}
use Rattle.heap_state.specs.Saving.Parts.{HasWonSave, KnowsSaving}
use Rattle.heap_state.specs.Known.{Account}
use Rattle.gc_worker.specs.declared.stage.after.After.TheVariants as afters
use Rattle.gc_worker.specs.declared.stage.Stage.{Stage}
use Rattle.gc_worker.specs.declared.stage.Stage.TheVariants.{Looks, Passes}
use Rattle.gc_worker.specs.declared.task.Task.{Task}
use Rattle.gc_worker.specs.declared.calls.did.Did.TheVariants.{Done, Trap}
use Rattle.gc_worker.specs.Plain.Answer.{IsAnswered, after_answer, after_told, with_emptied}
use Rattle.gc_worker.specs.Plain.Empty.{empty_cells}
use Rattle.gc_worker.specs.Laws.Between.{KeepsToTask, IsSo, RestsAt}
use Rattle.gc_worker.specs.Laws.Step.{CheckpointsStand, Heap, StandIf, StepKeeps, WorkersStand, at_flip, held_at, layout_of, moved, nobody, read, saves_in}
use Rattle.gc_worker.specs.Steps.Stepped.{awaits}
use Rattle.gc_worker.specs.Steps.Turned.{Told, Silent, Empties, Answers, Marks, turned, told}
use Rattle.gc_worker.specs.Steps.Wanted.{wanted}
use Rattle.gc_worker.specs.Workers.Begun.{IsPastLook}
use Rattle.gc_worker.specs.Workers.Fits.{Fits, FitsGate, FitsStage}
use Rattle.gc_worker.specs.Workers.Held.{Held}
use Rattle.gc_worker.specs.Workers.Knows.{knows}
use Rattle.gc_worker.specs.Workers.Saves.{saver_of, still_before, still_in, unfound_gate}
use Rattle.gc_worker.proofs.Between.KeptTasks.{workers_go_on}
use Rattle.gc_worker.proofs.Between.StandingHeaps.{what_stands_is_so}
use Rattle.gc_worker.proofs.Words.Eras.{span_within}
use Rattle.gc_worker.proofs.Workers.Members.{member}
use Rattle.gc_worker.proofs.StepKeeps.{steps_keep}
use Rattle.lone_mutator.specs.Bound.{most_steps_of, whole_cost}
use Rattle.lone_mutator.specs.Law.{AfterStep, IsAlone, Pays, PaysWhereTold, SavesStand, StepsLower, said}
use Rattle.lone_mutator.specs.Lone.{GateStands, IsLone, NobodyElseAnnounces, Remembers, StageStands, potential}
use Rattle.lone_mutator.specs.Potential.{due_in, potential_at, potential_in}
use Rattle.lone_mutator.specs.Saving.{saving_in}
use Rattle.lone_mutator.proofs.Epochs.Cost.{due_le_longest}
use Rattle.lone_mutator.proofs.Epochs.CheckpointDebt.{saving_in-le}
use Rattle.lone_mutator.proofs.Runs.ExecutedCounts.{ends_not, executes_nothing, executes_one}
use Rattle.lone_mutator.proofs.Runs.MostSteps.{costs_lt_most, most_le_most_of}

-- ---- what is said of checkpoints stands, as the only worker knows it

module _ (h : Heap) (p o : Plain) (st : WorkersStand h p o) (one : length h.workers ≡ 1) (x : Held) (holds : held_at h 0 ≡ x) where
  room_is : x.layout.checkpoints ≡ h.checkpoints
  room_is = ap (λ (z : Held). z.layout.checkpoints) (sym holds) ∙ st.laid_out 0 (omega (arith, one))

  stands_by : CheckpointsStand h p → SavesStand (read h) x
  stands_by k =
      let only : (j : ℕ) → j < length h.workers → saver_of (held_at h j) ≡ saver_of x = (λ j l. let first : j ≡ 0 = omega (arith, l, one) in ap (λ (i : ℕ). saver_of (held_at h i)) first ∙ ap saver_of holds) in
      record {
        formed = k.formed;
        frozen = k.frozen;
        words = k.stands.words;
        knows = subst (λ (z : Held). KnowsSaving (table (read h)) (saves_in h) k.frozen 0 (saver_of z)) holds (k.stands.workers.each 0 (omega (arith, one)));
        savers = λ page number j saving. (let own = k.stands.workers.savers page number j saving in subst (λ w. HasWonSave w page number) (only j own.0) own.1);
      }

  saves_stand : x.layout.checkpoints ≡ true → SavesStand (read h) x
  saves_stand room = stands_by (subst (λ (b : Bool). StandIf b h p) (sym room_is ∙ room) st.saving)

-- ---- the heap

-- what the mutator owes at each stage
abbrev Owed : Type 0
Owed = (c : Configuration) (p : Plain) (s : Stands c p) (x : Held) → awaits x ≡ false → IsAlone c x → StepsLower c x

module _ (owed : Owed) (h : Heap) (p o : Plain) (x : Held) (q : Step) (st : WorkersStand h p o) (lone : IsLone h) (holds : held_at h 0 ≡ x) (busy : awaits x ≡ false) (asked : wanted x ≡ Some q) where
  abbrev r : Reply
  r = reply_of q h.words

  abbrev y : Held
  y = turned x r

  abbrev later : Heap
  later = moved h 0 x q

  below : 0 < length h.workers
  below = let one = lone.one in omega (arith, one)

  alone : IsAlone (read h) x
  alone = record {
    is = member h p o 0 x st below holds;
    one = length-map h.workers knows ∙ lone.one;
    alone = lone.alone;
    no_end = ap (λ (z : Held). z.account.end) (sym holds) ∙ lone.no_end;
    remembers = subst (Remembers (table (read h)) (saves_in h)) holds lone.remembers;
    stands = saves_stand h p o st lone.one x holds;
  }

  room : x.layout.checkpoints ≡ h.checkpoints
  room = room_is h p o st lone.one x holds

  owes : PaysWhereTold h.pages h.checkpoints (said h.pages h.words) (said h.pages later.words) x y (told x r)
  owes = subst (λ (b : Bool). PaysWhereTold h.pages b (said h.pages h.words) (said h.pages later.words) x y (told x r)) room (owed (read h) p st.stands x busy alone q asked)

  keeps : StepKeeps h p o 0 x q
  keeps = steps_keep h p o 0 x q st below holds asked

  goes : KeepsToTask x r
  goes = workers_go_on h.pages h.mutators 0 x r alone.is.fits

  -- the mutator is the one that the step makes of it
  held : held_at later 0 ≡ y
  held = get_or-set_same h.workers 0 y nobody below

  so : IsSo h p
  so = what_stands_is_so h p o st

  is_lone : (held_at later 0).account.end ≡ None → Remembers (table (read later)) (saves_in later) y → IsLone later
  is_lone no_end remembers = record {
    one = length-set h.workers 0 y ∙ lone.one;
    alone = lone.alone;
    no_end = no_end;
    remembers = subst (Remembers (table (read later)) (saves_in later)) (sym held) remembers;
  }

  -- ---- a step that answers nothing, or flips

  module _ (p' o' : Plain) (stay : p'.mutators ≡ p.mutators) (stands : WorkersStand later p' o') where
    still : IsSo later p'
    still = what_stands_is_so later p' o' stands

    lowers : Pays h.pages h.checkpoints (said h.pages h.words) (said h.pages later.words) x y → IsLone later × (potential later < potential h) × ((held_at later 0).account.executed ≡ (held_at h 0).account.executed)
    lowers l = (
      is_lone (ends_not h later p so lone.alone lone.alone p' stay still lone.no_end) l.remembers,
      (let after = ap (potential_in h.pages (table (read later))) held in let before = ap (potential_in h.pages (table (read h))) holds in let falls = l.falls in omega (arith, after, before, falls)),
      executes_nothing h later p so lone.alone lone.alone p' stay still,
    )

  -- ---- an effect

  module _ (p' o' : Plain) (stands : WorkersStand later p' o') where
    abbrev t : Table
    t = table (read later)

    one : length later.workers ≡ 1
    one = length-set h.workers 0 y ∙ lone.one

    fits : Fits h.pages h.mutators 0 y
    fits = subst (Fits h.pages h.mutators 0) held (stands.fit 0 (omega (arith, one)))

    -- where it rests: it remembers what is so, and has no more to pay than this
    record RestsSo : Type 0 where
      remembers : Remembers t (saves_in later) y
      within : potential_in h.pages t y ≤ whole_cost h.pages + 5 + due_in h.pages t

    module _ (quiet : NobodyElseAnnounces t.announced false) where
      -- at a look
      at_look : y.stage ≡ Looks → RestsSo
      at_look looks = record {
        remembers = record {
          began = λ past. absurd (subst IsPastLook looks past);
          quiet = rw looks quiet;
          stands = subst (StageStands t (saves_in later) y) (sym looks) tt;
        };
        within = (let stage = ap (potential_at h.pages t y) looks in omega (arith, stage));
      }

      -- or before it clears the request: the gate is as it was found
      module _ (l : Layout) (stage : GateStage) where
        abbrev clearing : Stage
        clearing = Passes (record { layout = l; passage = Clear; stage = stage }) afters.Looks

        clears : y.stage ≡ clearing → GateStands t stage → left_at Clear stage ≤ 1 → RestsSo
        clears is stands few = record {
          remembers = record {
            began = λ past. absurd (subst IsPastLook is past);
            quiet = rw is quiet;
            stands = subst (StageStands t (saves_in later) y) (sym is) (tt, stands);
          };
          within = (let cost = ap (potential_at h.pages t y) is in omega (arith, cost, few));
        }

        -- what it knows of the gate
        finds : y.stage ≡ clearing → (gate : GateWord) → still_before Clear stage ≡ Some gate → (t.gate ≡ gate) × (gate.running ≡ 0)
        finds is gate still =
            let own : FitsGate y (record { layout = l; passage = Clear; stage = stage }) afters.Looks = subst (FitsStage y) is fits.stage in
            let known = (saves_stand later p' o' stands one y held own.passage).knows.still gate (ap still_in is ∙ still) in
            (known.1, known.2)

      clears_by : (l : Layout) (stage : GateStage) → y.stage ≡ clearing l stage → RestsSo
      clears_by l (gate_stage.Exchanges gate) is = clears l (gate_stage.Exchanges gate) is (finds l (gate_stage.Exchanges gate) is gate refl).0 (omega arith)
      clears_by l gate_stage.Loads is = absurd (let none = (finds l gate_stage.Loads is unfound_gate refl).1 in cc)
      clears_by l (gate_stage.Ended result) is = absurd (subst (FitsStage y) is fits.stage).going

      rests_by : (stage : Stage) → y.stage ≡ stage → RestsAt x.stage stage → RestsSo
      rests_by Looks is rests = at_look is
      rests_by (Passes g after) is rests = clears_by g.layout g.stage (is ∙ λ i. Passes (record { layout = g.layout; passage = rests.1 i; stage = g.stage }) (rests.2 i))
      rests_by stage is rests = absurd rests

    -- that is less than the most steps of an instruction
    rest_costs : RestsSo → potential_in h.pages t y + saving_in h.checkpoints h.pages (saves_in later) < most_steps_of (layout_of h)
    rest_costs rests =
        let small = stands.stands.invariant.room.small in
        let span = span_within (read later) p' stands.stands in
        let due = due_le_longest h.pages t.gate.epoch t.traced t.weak_turn (t.area (to_space t.gate.epoch)).owed t.page (omega (arith, small, span)) in
        let saving = saving_in-le h.checkpoints h.pages (saves_in later) in
        let bound = costs_lt_most h.pages stands.stands.size.0 in
        let most = most_le_most_of (layout_of h) in
        let within = rests.within in
        omega (arith, within, due, saving, bound, most)

  effect : (task : Task) → told x r ≡ Answers task Done → NobodyElseAnnounces (table (read later)).announced false
      → IsLone later × (potential later < most_steps_of (layout_of h)) × ((held_at later 0).account.executed ≡ (held_at h 0).account.executed + 1)
  effect task is quiet =
      let then = after_answer p 0 task Done (slice_get p.mutators 0) in
      let answered = subst (IsAnswered p 0) is keeps.answered in
      let stands = subst (λ (t : Told). WorkersStand later (after_told (empty_cells (read later)) p 0 t) (at_flip p o t)) is keeps.stands in
      let one = executes_one h later p so lone.alone lone.alone task answered (what_stands_is_so later then o stands) in
      let rests = rests_by then o stands quiet y.stage refl (goes.answers task Done is).after in
      let cost = rest_costs then o stands rests in (
        is_lone one.no_end rests.remembers,
        (let after = ap (potential_in h.pages (table (read later))) held in omega (arith, after, cost)),
        one.one_more,
      )

  -- ---- by what it tells

  after_by : (t : Told) → told x r ≡ t → PaysWhereTold h.pages h.checkpoints (said h.pages h.words) (said h.pages later.words) x y t
      → WorkersStand later (after_told (empty_cells (read later)) p 0 t) (at_flip p o t) → AfterStep h later t
  after_by Silent is l stands = lowers p o refl stands l
  after_by Empties is l stands = lowers (with_emptied p (empty_cells (read later))) o refl stands l
  after_by (Marks n) is l stands = lowers p p refl stands l
  after_by (Answers task Done) is quiet stands = effect task is quiet
  after_by (Answers task (Trap end)) is l stands =
      ap (λ (z : Held). z.account.end) held ∙ ap (λ (z : Account). z.end) (goes.answers task (Trap end) is).after.0

  pub steps_lower : AfterStep h later (told x r)
  steps_lower = after_by (told x r) refl owes keeps.stands
