-- What a flipper has read, by the words: the words in use, with nobody running.
use Rattle.std.proofs.Common.{◌≡◌, ℕ, ◌+◌, ◌*◌, true, false, Some, refl, ap, sym, subst, ◌∙◌, arith}
use Rattle.std.proofs.lemmas.Option.{same_Some}
use Rattle.plain_state.specs.State.{Plain}
use Rattle.space_map.specs.declared.gate_word.GateWord.{GateWord}
use Rattle.space_map.specs.AreaWord.{decode_area}
use Rattle.space_map.specs.Spaces.{to_space}
use Rattle.space_map.specs.Table.{Area}
use Rattle.gate_core.specs.declared.flip_stage.FlipStage.{FlipStage}
use Rattle.gate_core.specs.declared.flip_stage.FlipStage.TheVariants as flip_stage
use Rattle.gate_core.specs.declared.reset.Reset as resets
use Rattle.gate_core.specs.Flip.{Flipping}
use Rattle.heap_state.specs.Configuration.{Configuration, era, memory, table, team}
use Rattle.heap_state.specs.Memory.Table.{word_in}
use Rattle.heap_state.specs.Known.{Reset, Known}
use Rattle.heap_laws.proofs.Steps.Answers.{areas_are_read}
use Rattle.gc_worker.specs.declared.stage.Stage.TheVariants.{Flips}
use Rattle.gc_worker.specs.Laws.Cycles.{front_of, front_said, low_of, low_said, reset_of, size_of}
use Rattle.gc_worker.specs.Laws.Step.{Heap, WorkersStand, epoch_of, read}
use Rattle.gc_worker.specs.Steps.Goes.{Is}
use Rattle.gc_worker.specs.Workers.Held.{Held, at_stage}
use Rattle.gc_worker.specs.Workers.Knows.{reset_at, reset_in}
use Rattle.gc_worker.proofs.Between.Pages.Claims.{of_now}
use Rattle.gc_worker.proofs.Words.Areas.{area_says, is_space}
use Rattle.gc_worker.proofs.Words.Eras.{span_is}
use Rattle.gc_worker.proofs.Words.GrownSizes.{size_now}

module _ (h : Heap) (p o : Plain) (st : WorkersStand h p o) where
  abbrev c : Configuration
  c = read h

  abbrev n : ℕ
  n = h.pages

  abbrev here : ℕ
  here = to_space (era c).epoch

  pub says : decode_area (word_in n h.words (Area (to_space (epoch_of n h.words)))) ≡ Some ((table c).area here)
  says = ap (λ (e : ℕ). decode_area (word_in n h.words (Area (to_space e)))) (sym (of_now h p o st)) ∙ area_says c p st.stands here (is_space (era c).epoch)

  pub size_is : size_of n h.words ≡ size_now c here
  size_is = ap (λ (e : ℕ). size_now c (to_space e)) (sym (of_now h p o st))

  -- the words in use that a flip has read, by the words
  module _ (j : ℕ) (y : Held) (is : Is c j y) where
    by_found : (found : Reset) (u : ℕ) → ((team c).worker j).reset ≡ Some found → found.used ≡ Some u → u + low_of n h.words ≡ 64 * size_of n h.words + front_of n h.words
    by_found found u has used =
        let counted = ((st.stands.invariant.workers j is.below).reset found has).used u used in
        let areas = (areas_are_read c p st.stands).now in
        let front = areas.front in
        let low = areas.low in
        let low_is = ap low_said says in
        let front_is = ap front_said says in
        let span = span_is c in
        let size = size_is in
        omega (arith, counted, front, low, low_is, front_is, span, size)

    module _ (f : Flipping) (staged : y.stage ≡ Flips f) (r : resets.Reset) where
      knows_it : (s : FlipStage) → f.stage ≡ s → ((team c).worker j).reset ≡ reset_at s
      knows_it s e = ap (λ (w : Known). w.reset) is.as_known ∙ (ap reset_in staged ∙ ap reset_at e)

      by_stage : (s : FlipStage) → f.stage ≡ s → reset_of s ≡ Some r → r.used + low_of n h.words ≡ 64 * size_of n h.words + front_of n h.words
      by_stage (flip_stage.StoresSize z) e has =
          by_found (record { read = z.gate; size = Some z.size; grown = Some z.next; used = Some z.used; sized = false; stored = false; cleared = false }) r.used (knows_it (flip_stage.StoresSize z) e)
          (ap (λ (v : resets.Reset). Some v.used) (same_Some z r has))
      by_stage (flip_stage.StoresArea z) e has =
          by_found (record { read = z.gate; size = Some z.size; grown = Some z.next; used = Some z.used; sized = true; stored = false; cleared = false }) r.used (knows_it (flip_stage.StoresArea z) e)
          (ap (λ (v : resets.Reset). Some v.used) (same_Some z r has))
      by_stage (flip_stage.ResetsWeak z) e has =
          by_found (record { read = z.gate; size = Some z.size; grown = Some z.next; used = Some z.used; sized = true; stored = true; cleared = false }) r.used (knows_it (flip_stage.ResetsWeak z) e)
          (ap (λ (v : resets.Reset). Some v.used) (same_Some z r has))
      by_stage (flip_stage.Exchanges z) e has =
          by_found (record { read = z.gate; size = Some z.size; grown = Some z.next; used = Some z.used; sized = true; stored = true; cleared = true }) r.used (knows_it (flip_stage.Exchanges z) e)
          (ap (λ (v : resets.Reset). Some v.used) (same_Some z r has))
      by_stage stage e has = absurd (cc)

      pub used_now : reset_of f.stage ≡ Some r → r.used + low_of n h.words ≡ 64 * size_of n h.words + front_of n h.words
      used_now has = by_stage f.stage refl has

      -- nobody runs
      stopped_by : (found : Reset) → ((team c).worker j).reset ≡ Some found → (memory c).gate.running ≡ 0
      stopped_by found has =
          let reset = (st.stands.invariant.workers j is.below).reset found has in
          ap (λ (g : GateWord). g.running) reset.unmoved ∙ reset.stopped.0

      by_stopped : (s : FlipStage) → f.stage ≡ s → reset_of s ≡ Some r → (memory c).gate.running ≡ 0
      by_stopped (flip_stage.StoresSize z) e has = stopped_by _ (knows_it (flip_stage.StoresSize z) e)
      by_stopped (flip_stage.StoresArea z) e has = stopped_by _ (knows_it (flip_stage.StoresArea z) e)
      by_stopped (flip_stage.ResetsWeak z) e has = stopped_by _ (knows_it (flip_stage.ResetsWeak z) e)
      by_stopped (flip_stage.Exchanges z) e has = stopped_by _ (knows_it (flip_stage.Exchanges z) e)
      by_stopped stage e has = absurd (cc)

      pub nobody_runs : reset_of f.stage ≡ Some r → (memory c).gate.running ≡ 0
      nobody_runs has = by_stopped f.stage refl has

    -- a flipper is of the gate's epoch
    pub flips_now : (f : Flipping) → y.stage ≡ Flips f → y.epoch ≡ (era c).epoch
    flips_now f staged =
        let t = (st.stands.invariant.workers j is.below).timely in
        let own : Is c j (at_stage y (Flips f)) = subst (Is c j) (ap (at_stage y) staged) is in
        sym (ap (λ (w : Known). w.epoch) own.as_known) ∙ t.asking (rw own.as_known refl)
