-- A mutator that found its epoch traced tells that the heap is full where it finds no room.
use Rattle.std.proofs.Common.{◌≡◌, ℕ, ◌+◌, ◌-◌, ◌^◌, ◌<◌, ◌==◌, ◌&&◌, Bool, true, false, cond, List, Option, refl, ap, sym, subst, ◌∙◌, arith, ⊎_elim}
use Rattle.std.proofs.lemmas.Bool.{lt-ltb, lt-leb, eq-eqb, or_right, or_left}
use Rattle.std.specs.Cmp.Derive.{both_true}
use Rattle.plain_state.specs.State.{Plain}
use Rattle.plain_state.specs.declared.end.End.TheVariants.{HeapFull}
use Rattle.space_map.specs.declared.area_word.AreaWord.{AreaWord}
use Rattle.space_map.specs.AreaWord.{decode_area}
use Rattle.space_map.specs.Spaces.{to_space}
use Rattle.space_map.specs.Table.{Area, Size}
use Rattle.alloc_end.specs.declared.allocated.Allocated.TheVariants.{Full}
use Rattle.alloc_end.specs.declared.place_stage.PlaceStage.{PlaceStage}
use Rattle.alloc_end.specs.declared.place_stage.PlaceStage.TheVariants.{LoadsArea, ExchangesArea, Ended}
use Rattle.alloc_end.specs.Place as place
use Rattle.alloc_end.specs.Place.{Placing, pages_for, size_of, words_for, fits, shortage, looked_at_area}
use Rattle.heap_state.specs.Configuration.{era}
use Rattle.heap_state.specs.Memory.Table.{word_in}
use Rattle.heap_state.specs.Known.{Known}
use Rattle.gc_worker.specs.declared.stage.Stage.TheVariants.{Places}
use Rattle.gc_worker.specs.declared.task.Task.{Task}
use Rattle.gc_worker.specs.declared.task.Task.TheVariants.{Calls}
use Rattle.gc_worker.specs.Workers.Fits.{Fits}
use Rattle.gc_worker.specs.Plain.Full.{FindsNoRoom}
use Rattle.worker_progress.specs.FullTold.{FullIsTold, FullIsToldInHeaps, SizesReadAreSo, TellsFull, found_traced}
use Rattle.gc_worker.specs.Workers.Held.{Held, at_stage, has_seen_flip, pages_needed, pages_asked}
use Rattle.gc_worker.specs.declared.calls.did.Did.TheVariants.{Trap}
use Rattle.gc_worker.specs.Laws.Step.{Heap, WorkersStand, read as as_read}
use Rattle.gc_worker.specs.Steps.Goes.{Is}
use Rattle.gc_worker.specs.Steps.Turned.{Silent, Answers, is_full, end_by_shortage, told_end, told_place}
use Rattle.gc_worker.proofs.Words.Eras.{span_is}
use Rattle.gc_worker.proofs.Words.GrownSizes.{size_now}
use Rattle.gc_worker.proofs.Workers.Members.{member}

module _ (n mutators k : ℕ) (words : List ℕ) (x : Held) (z : Placing) (size room live : ℕ) (f : Fits n mutators k (at_stage x (found_traced z size))) (finds : FindsNoRoom n words x (pages_needed x) room live) (read : finds.size ≡ size) where
  abbrev word : ℕ
  word = word_in n words (Area (to_space x.epoch))

  abbrev area : AreaWord
  area = finds.area

  abbrev placing : PlaceStage → Placing
  placing stage = record z { stage = stage }

  asked : pages_needed x ≡ pages_for (size_of z.header)
  asked = ap pages_asked f.task.1

  short : fits true (words_for z.header) area ≡ false
  short = let a = asked in let s = finds.short in let r = finds.room_is in lt-leb (words_for z.header + 0) (area.low - area.front) (omega (arith, a, s, r))

  reads : looked_at_area (placing (LoadsArea true size)) true size (decode_area word) ≡ Ended (Full (shortage true size z.header area))
  reads =
      ap (looked_at_area (placing (LoadsArea true size)) true size) finds.area_is
      ∙ ap (λ (b : Bool). cond b (ExchangesArea (record { traced = true; area = area })) (Ended (Full (shortage true size z.header area)))) short

  full : is_full x (shortage true size z.header area) ≡ true
  full = ⊎_elim
      (λ (grown : (x.begun < x.epoch) × (finds.size ≡ n)).
      or_left (has_seen_flip x && (size == x.layout.pages)) (x.epoch == 2 ^ 32 - 1)
      (both_true (lt-ltb x.begun x.epoch grown.0) (eq-eqb size x.layout.pages (sym read ∙ (grown.1 ∙ sym f.pages)))))
      (λ (last : x.epoch ≡ 2 ^ 32 - 1). or_right (has_seen_flip x && (size == x.layout.pages)) (x.epoch == 2 ^ 32 - 1) (eq-eqb x.epoch (2 ^ 32 - 1) last))
      finds.no_flip

  numbers : end_by_shortage (shortage true size z.header area) ≡ HeapFull (pages_needed x) room live
  numbers =
      let r : area.low - area.front ≡ room = let e = finds.room_is in omega (arith, e) in
      λ i. HeapFull (sym asked i) (r i) (finds.live_is i)

  pub tells_full : TellsFull words n x z size room live
  tells_full = record {
    task = Calls f.task.0.executes.instr;
    is = f.task.0.executes.task_is;
    tells =
        ap (λ (stage : PlaceStage). told_place (at_stage x (found_traced z size)) (place.told (placing stage))) reads
        ∙ (ap (λ (b : Bool). cond b (told_end x.task (end_by_shortage (shortage true size z.header area))) Silent) full
        ∙ (ap (λ (t : Option Task). told_end t (end_by_shortage (shortage true size z.header area))) f.task.0.executes.task_is
        ∙ ap (λ end. Answers (Calls f.task.0.executes.instr) (Trap end)) numbers));
  }

pub full_is_told : FullIsTold
full_is_told = tells_full

-- what it has read is so still
size_is_so : (h : Heap) (p o : Plain) (k : ℕ) (x : Held) (z : Placing) (traced : Bool) (size : ℕ) → WorkersStand h p o → Is (as_read h) k (at_stage x (Places (record z { stage = LoadsArea traced size })))
    → word_in h.pages h.words (Size (to_space x.epoch)) ≡ size
size_is_so h p o k x z traced size st is =
    let me = st.stands.invariant.workers k is.below in
    let known = (me.size_seen size (ap (λ (w : Known). w.size_seen) is.as_known)).1 in
    let now : x.epoch ≡ (era (as_read h)).epoch = sym (ap (λ (w : Known). w.epoch) is.as_known) ∙ me.timely.running (rw is.as_known refl) in
    let span = span_is (as_read h) in
    let here : size_now (as_read h) (to_space x.epoch) ≡ size_now (as_read h) (to_space (era (as_read h)).epoch) = ap (λ (e : ℕ). size_now (as_read h) (to_space e)) now in
    omega (arith, known, span, here)

pub sizes_read_are_so : SizesReadAreSo
sizes_read_are_so h p o k x z traced size st l holds staged =
    size_is_so h p o k x z traced size st (subst (Is (as_read h) k) (ap (at_stage x) staged) (member h p o k x st l holds))

pub full_is_told_in_heaps : FullIsToldInHeaps
full_is_told_in_heaps h p o k x z size room live st l holds finds =
    let there = member h p o k (at_stage x (found_traced z size)) st l holds in
    tells_full h.pages h.mutators k h.words x z size room live there.fits finds (sym finds.size_is ∙ size_is_so h p o k x z true size st there)
