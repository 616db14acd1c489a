-- A mutator that allocates reads the area, where it did not see the epoch traced: the pages fit, or a round of the duty is next.
use Rattle.std.proofs.Common.{◌≡◌, ℕ, ◌+◌, ◌-◌, Bool, true, false, cond, Some, None, refl, ap, sym, subst, ◌∙◌, arith}
use Rattle.std.proofs.lemmas.Bool.{leb-true}
use Rattle.plain_state.specs.State.{Plain}
use Rattle.atom_store.specs.declared.step.Step.TheVariants.{Load}
use Rattle.atom_store.specs.declared.reply.Reply.TheVariants.{Value}
use Rattle.record_layout.specs.declared.header.Header.{Header}
use Rattle.space_map.specs.declared.area_word.AreaWord.{AreaWord}
use Rattle.space_map.specs.AreaWord.{decode_area}
use Rattle.space_map.specs.Spaces.{to_space}
use Rattle.space_map.specs.Table.{Area, place_of}
use Rattle.alloc_end.specs.declared.allocated.Allocated.TheVariants.{Full}
use Rattle.alloc_end.specs.declared.place_stage.PlaceStage.{PlaceStage}
use Rattle.alloc_end.specs.declared.place_stage.PlaceStage.TheVariants.{LoadsArea, ExchangesArea, Ended}
use Rattle.alloc_end.specs.declared.run.Run.{Run}
use Rattle.alloc_end.specs.Place.{size_of, pages_for, words_for, looked_at_area, fits, shortage, told}
use Rattle.alloc_end.specs.Soundness.{FitsPlaceStage}
use Rattle.fault_duty.specs.declared.caller.Caller.TheVariants as callers
use Rattle.fault_duty.specs.Duty as duty
use Rattle.heap_state.specs.Configuration.{Configuration, Stands, table}
use Rattle.heap_laws.specs.Composing.{IsAtMost}
use Rattle.heap_laws.proofs.Steps.Answers.{areas_are_read}
use Rattle.heap_laws.proofs.Steps.Forgotten.{sizes_are_forgotten}
use Rattle.gc_worker.specs.declared.stage.back.Back.TheVariants.{ToPlace}
use Rattle.gc_worker.specs.declared.stage.Stage.TheVariants.{Serves}
use Rattle.gc_worker.specs.Workers.Fits.{Fits}
use Rattle.gc_worker.specs.Steps.Goes.{Is, Goes, StepsSo}
use Rattle.gc_worker.specs.Workers.Held.{Held, at_stage}
use Rattle.gc_worker.specs.Workers.Knows.{knows}
use Rattle.gc_worker.specs.Steps.Turned.{Silent, turned_place, told_place}
use Rattle.gc_worker.proofs.Words.Areas.{area_now, area_says, is_space}
use Rattle.gc_worker.proofs.Workers.KeptParts.{refit, page_count}
use Rattle.gc_worker.proofs.Stages.Gate.GateWords.{wants}
use Rattle.gc_worker.proofs.Stages.Place.Claiming.{placing, at, replace}
use Rattle.gc_worker.proofs.Words.RowSteps.{becomes, loads, less}

module _ (c : Configuration) (p : Plain) (s : Stands c p) (k : ℕ) (y : Held) (run : Run) (header : Header) (size : ℕ) (is : Is c k (at c p s k y run header (LoadsArea false size))) where
  abbrev x : Held
  x = at c p s k y run header (LoadsArea false size)

  abbrev space : ℕ
  space = to_space y.epoch

  abbrev area : AreaWord
  area = (table c).area space

  abbrev next : Bool → PlaceStage
  next b = cond b (ExchangesArea (record { traced = false; area = area })) (Ended (Full (shortage false size header area)))

  abbrev by : PlaceStage → Held
  by stage = turned_place x (placing c p s k y run header stage) (told (placing c p s k y run header stage))

  abbrev round : Held
  round = at_stage x (Serves (duty.begun x.layout callers.Allocates x.epoch x.number) ToPlace)

  abbrev then : Bool → Held
  then b = cond b (at c p s k y run header (ExchangesArea (record { traced = false; area = area }))) round

  comes : (b : Bool) → by (next b) ≡ then b
  comes true = refl
  comes false = refl

  silent : (b : Bool) → told_place x (told (placing c p s k y run header (next b))) ≡ Silent
  silent true = refl
  silent false = refl

  -- it forgets the size
  knows_less : (b : Bool) → IsAtMost (knows (then b)) (knows x)
  knows_less true = sizes_are_forgotten (knows x)
  knows_less false = sizes_are_forgotten (knows x)

  stage_fits : (b : Bool) → fits false (words_for header) area ≡ b → FitsPlaceStage y.layout.pages (pages_for (size_of header)) y.snap run header (next b)
  stage_fits true test =
      let all = (areas_are_read c p s).each space (is_space y.epoch) in
      let l = leb-true (words_for header + area.owed) (area.low - area.front) test in
      let n = is.fits.pages in
      record { kept = omega (arith, l, all.order); in_space = omega (arith, all.order, n); owed = all.fits.owed_fits }
  stage_fits false test = tt

  worker_fits : (b : Bool) → fits false (words_for header) area ≡ b → Fits c.pages c.mutators k (then b)
  worker_fits true test = replace c p s k y run header (LoadsArea false size) (ExchangesArea (record { traced = false; area = area })) is tt tt (stage_fits true test)
  worker_fits false test =
      refit c.pages c.mutators k x is.fits (Serves (duty.begun x.layout callers.Allocates x.epoch x.number) ToPlace) is.fits.end is.fits.side is.fits.task.0
      (record { layout = refl; worker = refl; caller = tt; epoch = refl; going = tt; sound = record { pages = page_count c.pages c.mutators k x is.fits; caller = tt; epoch = is.fits.epoch; worker = rw is.fits.number is.fits.few; stage = tt } }, tt)

  reads : (b : Bool) → fits false (words_for header) area ≡ b → looked_at_area (placing c p s k y run header (LoadsArea false size)) false size (decode_area (area_now c space)) ≡ next b
  reads b test = ap (looked_at_area (placing c p s k y run header (LoadsArea false size)) false size) (area_says c p s space (is_space y.epoch)) ∙ ap next test

  goes : (b : Bool) → fits false (words_for header) area ≡ b → Goes c p s k None x (Value (area_now c space))
  goes b test =
      becomes c p s k x None (Value (area_now c space)) (then b) s.ghost (ap by (reads b test) ∙ comes b) is.below
      (less c p s k x is (knows (then b)) (knows_less b)) (ap (λ (t : PlaceStage). told_place x (told (placing c p s k y run header t))) (reads b test) ∙ silent b) refl
      (record { pages = is.fits.stage.sound.pages; run = is.fits.stage.sound.run; fields = is.fits.stage.sound.fields; cell = is.fits.stage.sound.cell; epoch = is.fits.stage.sound.epoch; snap = is.fits.stage.sound.snap; room = is.fits.stage.sound.room; stage = subst (FitsPlaceStage y.layout.pages (pages_for (size_of header)) y.snap run header) (sym (reads b test)) (stage_fits b test) })
      (worker_fits b test)

  pub loads_area : StepsSo c p s k x
  loads_area =
      wants c p s k x (Load (place_of c.pages (Area space))) (ap (λ n. Some (Load (place_of n (Area space)))) is.fits.pages)
      (loads c p s k x (Area space) (is_space y.epoch) (goes (fits false (words_for header) area) refl))
