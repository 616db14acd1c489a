-- A mutator that allocates finds the heap full: in a traced epoch too few words are left, and no flip can help.
use Rattle.std.proofs.Common.{◌≡◌, ℕ, ◌+◌, ◌-◌, ◌<◌, ◌≤◌, ◌^◌, ◌==◌, ◌&&◌, ◌*◌, Bool, true, false, cond, None, Option, Ok, refl, ap, sym, subst, ◌∙◌, arith, ⊎_elim, inl, inr}
use Rattle.std.specs.Prelude.{◌⊎◌}
use Rattle.std.proofs.lemmas.Bool.{and_parts, leb-false, ltb-true, eqb-true, or_cases}
use Rattle.plain_state.specs.declared.end.End.{End}
use Rattle.plain_state.specs.State.{Mutator, Plain}
use Rattle.plain_state.specs.declared.value.Value as values
use Rattle.mutator_asm.specs.declared.instr.Instr.{Instr}
use Rattle.plain_heap.specs.declared.action.Action.TheVariants.{Makes}
use Rattle.plain_heap.specs.Action.{action}
use Rattle.atom_store.specs.declared.reply.Reply.TheVariants.{Value}
use Rattle.record_layout.specs.declared.header.Header.{Header}
use Rattle.space_map.specs.declared.area_word.AreaWord.{AreaWord}
use Rattle.space_map.specs.AreaWord.{decode_area}
use Rattle.space_map.specs.Spaces.{to_space}
use Rattle.space_map.specs.Table.{Size}
use Rattle.alloc_end.specs.declared.allocated.Allocated.TheVariants.{Full}
use Rattle.alloc_end.specs.declared.place_stage.PlaceStage.{PlaceStage}
use Rattle.alloc_end.specs.declared.place_stage.PlaceStage.TheVariants.{LoadsArea, ExchangesArea, Ended}
use Rattle.alloc_end.specs.declared.run.Run.{Run}
use Rattle.alloc_end.specs.Place.{size_of, pages_for, words_for, looked_at_area, fits, shortage, told}
use Rattle.alloc_end.specs.Soundness.{FitsPlaceStage}
use Rattle.heap_state.specs.Configuration.{Configuration, Stands, era, memory, table, team}
use Rattle.heap_state.specs.Memory.Table.{word_in}
use Rattle.heap_state.specs.Known.{Known}
use Rattle.heap_laws.specs.Fields.Stores.{EndsFull, with_end}
use Rattle.heap_laws.specs.Composing.{unaware}
use Rattle.heap_laws.specs.Steps.{IsAreaNow}
use Rattle.heap_laws.proofs.Fields.Laws.{mutators_find_no_room}
use Rattle.heap_laws.proofs.Steps.Answers.{areas_are_read}
use Rattle.heap_laws.proofs.Steps.Composing.{plain_steps_forget}
use Rattle.heap_laws.proofs.Steps.Forgotten.{sizes_are_forgotten, traced_is_forgotten}
use Rattle.gc_worker.specs.declared.task.Task.{Task}
use Rattle.gc_worker.specs.declared.task.Task.TheVariants.{Calls}
use Rattle.gc_worker.specs.Plain.Answer.{after_outcome}
use Rattle.gc_worker.specs.Workers.Fits.{IsMaking}
use Rattle.gc_worker.specs.Plain.Full.{FindsNoRoom}
use Rattle.gc_worker.specs.Steps.Goes.{Is, Goes}
use Rattle.gc_worker.specs.Workers.Held.{Held, at_stage, has_seen_flip}
use Rattle.gc_worker.specs.Workers.Knows.{knows}
use Rattle.gc_worker.specs.declared.calls.did.Did.TheVariants.{Trap}
use Rattle.gc_worker.specs.Steps.Turned.{Silent, Answers, asks_flip, is_full, ended, end_by_shortage, told_end, turned_place, told_place}
use Rattle.gc_worker.specs.Steps.Turned as turning
use Rattle.gc_worker.proofs.Plain.AnswerSteps.{LawTo, IsIts, answers}
use Rattle.gc_worker.proofs.Words.Areas.{area_now, area_says, is_space}
use Rattle.gc_worker.proofs.Words.Eras.{span_is}
use Rattle.gc_worker.proofs.Stages.Gate.GateWords.{gate_says}
use Rattle.gc_worker.proofs.Plain.NewRecords.{header_made, plain_pages}
use Rattle.gc_worker.proofs.Stages.Place.Claiming.{placing, at, now}
use Rattle.gc_worker.proofs.Stages.Rounds.RoundWords.{traced_word}
use Rattle.gc_worker.proofs.Workers.Answered.{ended_fits}
use Rattle.gc_worker.proofs.Words.RowSteps.{prepared}

module _ (c : Configuration) (p : Plain) (s : Stands c p) (k : ℕ) (y : Held) (run : Run) (size : ℕ) (making : IsMaking y.account y.registers y.task) where
  abbrev header : Header
  header = header_made y making

  abbrev instr : Instr
  instr = making.executes.instr

  abbrev x : Held
  x = at c p s k y run header (LoadsArea true size)

  abbrev space : ℕ
  space = to_space y.epoch

  abbrev area : AreaWord
  area = (table c).area space

  abbrev asked : ℕ
  asked = pages_for (size_of header)

  abbrev end : End
  end = end_by_shortage (shortage true size header area)

  abbrev after : Held
  after = ended x end

  module _ (is : Is c k x) (full : is_full y (shortage true size header area) ≡ true) (short : fits true (words_for header) area ≡ false) where
    reads : looked_at_area (placing c p s k y run header (LoadsArea true size)) true size (decode_area (area_now c space)) ≡ Ended (Full (shortage true size header area))
    reads =
        ap (looked_at_area (placing c p s k y run header (LoadsArea true size)) true size) (area_says c p s space (is_space y.epoch))
        ∙ ap (λ (b : Bool). cond b (ExchangesArea (record { traced = true; area = area })) (Ended (Full (shortage true size header area)))) short

    comes : turning.turned x (Value (area_now c space)) ≡ after
    comes =
        ap (λ (stage : PlaceStage). turned_place x (placing c p s k y run header stage) (told (placing c p s k y run header stage))) reads
        ∙ ap (λ (b : Bool). cond b after (at_stage x (asks_flip x))) full

    answer : turning.told x (Value (area_now c space)) ≡ Answers (Calls instr) (Trap end)
    answer =
        ap (λ (stage : PlaceStage). told_place x (told (placing c p s k y run header stage))) reads
        ∙ (ap (λ (b : Bool). cond b (told_end y.task end) Silent) full ∙ ap (λ (t : Option Task). told_end t end) making.executes.task_is)

    -- the area is that of the current epoch
    is_now : IsAreaNow (era c) (memory c) area
    is_now = subst (λ (e : ℕ). IsAreaNow (era c) (memory c) ((table c).area (to_space e))) (sym (now c p s k y run header (LoadsArea true size) is)) (areas_are_read c p s).now

    order : area.front ≤ area.low
    order = ((areas_are_read c p s).each space (is_space y.epoch)).order.0

    module _ (q : Mutator) (its : IsIts c p s k x q) (v : values.Value) (acts : action q instr ≡ Ok (Makes making.making.kind making.making.into making.making.len v)) where
      finds : EndsFull (era c) (memory c) (team c) s.ghost p k q asked (area.low - area.front) area.front
      finds =
          let l = leb-false (words_for header + 0) (area.low - area.front) short in
          mutators_find_no_room (era c) (memory c) (team c) s.ghost p k asked q area (prepared c p s k x is) (rw is.as_known refl) s.shown its.is is_now (rw is.as_known refl)
          (λ room. omega (arith, l, order, room))

      law : LawTo c p s k x None (knows after) s.ghost (after_outcome p k q (Calls instr) (Trap end))
      law =
          let done = with_end (knows x) end in
          plain_steps_forget (era c) (memory c) (team c) s.ghost k None (unaware done) (knows after) s.ghost (after_outcome p k q (Calls instr) (Trap end))
          (plain_steps_forget (era c) (memory c) (team c) s.ghost k None done (unaware done) s.ghost (after_outcome p k q (Calls instr) (Trap end))
          (subst (λ (w : Known). LawTo c p s k x None (with_end w end) s.ghost (after_outcome p k q (Calls instr) (Trap end))) is.as_known finds.ends)
          (traced_is_forgotten done refl refl))
          (sizes_are_forgotten (unaware done))

      -- it has read the size of the epoch's space
      is_size : word_in c.pages c.words (Size space) ≡ size
      is_size =
          let seen = ((s.invariant.workers k is.below).size_seen size (rw is.as_known refl)).1 in
          let here : (era c).span ≡ 64 * word_in c.pages c.words (Size space) = span_is c ∙ ap (λ (e : ℕ). 64 * word_in c.pages c.words (Size (to_space e))) (sym (now c p s k y run header (LoadsArea true size) is)) in
          omega (arith, seen, here)

      no_flip : ((y.begun < y.epoch) × (size ≡ c.pages)) ⊎ (y.epoch ≡ 2 ^ 32 - 1)
      no_flip = ⊎_elim
          (λ (flipped : (has_seen_flip y && (size == y.layout.pages)) ≡ true).
          let both = and_parts (has_seen_flip y) (size == y.layout.pages) flipped in
          inl (ltb-true y.begun y.epoch both.0, eqb-true size y.layout.pages both.1 ∙ is.fits.pages))
          (λ (last : (y.epoch == 2 ^ 32 - 1) ≡ true). inr (eqb-true y.epoch (2 ^ 32 - 1) last))
          (or_cases (has_seen_flip y && (size == y.layout.pages)) (y.epoch == 2 ^ 32 - 1) full)

      no_room : FindsNoRoom c.pages c.words x asked (area.low - area.front) area.front
      no_room =
          let epoch = now c p s k y run header (LoadsArea true size) is in
          record {
            gate = (table c).gate;
            gate_is = gate_says c p s;
            epoch = (prepared c p s k x is).at_gate ∙ sym epoch;
            traced = sym (traced_word c) ∙ (finds.traced ∙ ap (λ (e : ℕ). e + 1) (sym epoch));
            area = area;
            area_is = area_says c p s space (is_space y.epoch);
            room_is = omega (arith, order);
            live_is = refl;
            short = finds.short;
            size = size;
            size_is = is_size;
            no_flip = no_flip;
          }

      pub finds_no_room : Goes c p s k None x (Value (area_now c space))
      finds_no_room =
          answers c p s k x None (Value (area_now c space)) after s.ghost q (Calls instr) (Trap end) comes answer refl is.below its.is its.no_end
          (plain_pages y making q v acts) law no_room
          (record { pages = is.fits.stage.sound.pages; run = is.fits.stage.sound.run; fields = is.fits.stage.sound.fields; cell = is.fits.stage.sound.cell; epoch = is.fits.stage.sound.epoch; snap = is.fits.stage.sound.snap; room = is.fits.stage.sound.room; stage = subst (FitsPlaceStage y.layout.pages asked y.snap run header) (sym reads) tt })
          (ended_fits c.pages c.mutators k x is.fits is.fits.side end)
