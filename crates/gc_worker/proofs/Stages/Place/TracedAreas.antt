-- A mutator that allocates reads the area, where it saw the epoch traced: the pages fit, or it requests a flip, if that can help, or the
-- heap is full.
use Rattle.std.proofs.Common.{◌≡◌, ℕ, ◌+◌, ◌-◌, ◌^◌, ◌<◌, ◌==◌, ◌&&◌, Bool, true, false, cond, Some, None, refl, ap, sym, subst, ◌∙◌, arith}
use Rattle.std.proofs.lemmas.Bool.{leb-true, eqb-false, or_parts}
use Rattle.plain_state.specs.State.{Plain}
use Rattle.atom_store.specs.declared.step.Step.TheVariants.{Load}
use Rattle.atom_store.specs.declared.reply.Reply.TheVariants.{Value}
use Rattle.record_layout.specs.declared.header.Header.{Header}
use Rattle.space_map.specs.declared.area_word.AreaWord.{AreaWord}
use Rattle.space_map.specs.AreaWord.{decode_area}
use Rattle.space_map.specs.Spaces.{to_space}
use Rattle.space_map.specs.Table.{Area, place_of}
use Rattle.alloc_end.specs.declared.allocated.Allocated.TheVariants.{Full}
use Rattle.alloc_end.specs.declared.shortage.Shortage.{Shortage}
use Rattle.alloc_end.specs.declared.place_stage.PlaceStage.{PlaceStage}
use Rattle.alloc_end.specs.declared.place_stage.PlaceStage.TheVariants.{LoadsArea, ExchangesArea, Ended}
use Rattle.alloc_end.specs.declared.run.Run.{Run}
use Rattle.alloc_end.specs.Place.{size_of, pages_for, words_for, looked_at_area, fits, shortage, told}
use Rattle.alloc_end.specs.Soundness.{FitsPlaceStage}
use Rattle.gate_core.specs.declared.passage.Passage.TheVariants.{Request}
use Rattle.heap_state.specs.Configuration.{Configuration, Stands, table}
use Rattle.heap_laws.specs.Composing.{IsAtMost}
use Rattle.heap_laws.proofs.Steps.Answers.{areas_are_read}
use Rattle.heap_laws.proofs.Steps.Forgotten.{sizes_are_forgotten}
use Rattle.gc_worker.specs.declared.stage.after.After.TheVariants as afters
use Rattle.gc_worker.specs.declared.stage.goal.Goal.TheVariants.{ForFlip}
use Rattle.gc_worker.specs.Workers.Fits.{Fits, IsMaking}
use Rattle.gc_worker.specs.Steps.Goes.{Is, Goes, StepsSo}
use Rattle.gc_worker.specs.Workers.Held.{Held, at_stage, has_seen_flip}
use Rattle.gc_worker.specs.Workers.Knows.{knows}
use Rattle.gc_worker.specs.Steps.Turned.{Silent, checkpoints, is_full, passes, ended, end_by_shortage, told_end, turned_place, told_place}
use Rattle.gc_worker.proofs.Plain.AnswerSteps.{its_mutator}
use Rattle.gc_worker.proofs.Words.Areas.{area_now, area_says, is_space}
use Rattle.gc_worker.proofs.Workers.Checkpointing.{round_for_flip}
use Rattle.gc_worker.proofs.Workers.KeptParts.{before_passage}
use Rattle.gc_worker.proofs.Stages.Gate.Resuming.{end_none}
use Rattle.gc_worker.proofs.Stages.Gate.GateWords.{wants}
use Rattle.gc_worker.proofs.Plain.NewRecords.{header_made}
use Rattle.gc_worker.proofs.Stages.Place.Acts.{makes_alike}
use Rattle.gc_worker.proofs.Stages.Place.Claiming.{placing, at, replace}
use Rattle.gc_worker.proofs.Stages.Place.Full.{finds_no_room}
use Rattle.gc_worker.proofs.Words.RowSteps.{becomes, loads, less}
use Rattle.gc_worker.proofs.Plain.Actions.{plain_value}

module _ (c : Configuration) (p : Plain) (s : Stands c p) (k : ℕ) (y : Held) (run : Run) (size : ℕ) (making : IsMaking y.account y.registers y.task) where
  abbrev header : Header
  header = header_made y making

  abbrev x : Held
  x = at c p s k y run header (LoadsArea true size)

  abbrev space : ℕ
  space = to_space y.epoch

  abbrev area : AreaWord
  area = (table c).area space

  abbrev found : Shortage
  found = shortage true size header area

  abbrev next : Bool → PlaceStage
  next b = cond b (ExchangesArea (record { traced = true; area = area })) (Ended (Full found))

  abbrev by : PlaceStage → Held
  by stage = turned_place x (placing c p s k y run header stage) (told (placing c p s k y run header stage))

  -- a flip is asked for, after a round for the checkpoint in progress if there can be one
  abbrev asks_by : Bool → Held
  asks_by room = at_stage x (cond room (checkpoints x ForFlip) (passes x Request afters.Places))

  abbrev asks : Held
  asks = asks_by y.layout.checkpoints

  abbrev then : Bool → Held
  then b = cond b (at c p s k y run header (ExchangesArea (record { traced = true; area = area }))) asks

  abbrev Helps : Bool → Type 0
  Helps b = b ≡ false → is_full y found ≡ false

  comes : (b : Bool) → Helps b → by (next b) ≡ then b
  comes true helps = refl
  comes false helps = ap (λ (b : Bool). cond b (ended x (end_by_shortage found)) asks) (helps refl)

  silent : (b : Bool) → Helps b → told_place x (told (placing c p s k y run header (next b))) ≡ Silent
  silent true helps = refl
  silent false helps = ap (λ (b : Bool). cond b (told_end x.task (end_by_shortage found)) Silent) (helps refl)

  -- it forgets the size
  knows_less : (b : Bool) → IsAtMost (knows (then b)) (knows x)
  knows_less true = sizes_are_forgotten (knows x)
  knows_less false = asks_less y.layout.checkpoints
    where
      asks_less : (room : Bool) → IsAtMost (knows (asks_by room)) (knows x)
      asks_less true = sizes_are_forgotten (knows x)
      asks_less false = sizes_are_forgotten (knows x)

  module _ (is : Is c k x) where
    stage_fits : (b : Bool) → fits true (words_for header) area ≡ b → FitsPlaceStage y.layout.pages (pages_for (size_of header)) y.snap run header (next b)
    stage_fits true test =
        let all = (areas_are_read c p s).each space (is_space y.epoch) in
        let l = leb-true (words_for header + 0) (area.low - area.front) test in
        let n = is.fits.pages in
        record { kept = omega (arith, l, all.order); in_space = omega (arith, all.order, n); owed = all.fits.owed_fits }
    stage_fits false test = tt

    asks_fit : y.epoch + 1 < 2 ^ 32 → (room : Bool) → y.layout.checkpoints ≡ room → Fits c.pages c.mutators k (asks_by room)
    asks_fit short true room = round_for_flip c.pages c.mutators k x is.fits is.fits.end room is.fits.side making short
    asks_fit short false none = before_passage c.pages c.mutators k x is.fits Request afters.Places is.fits.end is.fits.side making short

    worker_fits : (b : Bool) → fits true (words_for header) area ≡ b → Helps b → Fits c.pages c.mutators k (then b)
    worker_fits true test helps = replace c p s k y run header (LoadsArea true size) (ExchangesArea (record { traced = true; area = area })) is tt tt (stage_fits true test)
    worker_fits false test helps =
        let last = or_parts (has_seen_flip y && (size == y.layout.pages)) (y.epoch == 2 ^ 32 - 1) (helps refl) in
        let other = eqb-false y.epoch (2 ^ 32 - 1) last.1 in
        asks_fit (omega (arith, other, is.fits.epoch)) y.layout.checkpoints refl

    reads : (b : Bool) → fits true (words_for header) area ≡ b → looked_at_area (placing c p s k y run header (LoadsArea true size)) true size (decode_area (area_now c space)) ≡ next b
    reads b test = ap (looked_at_area (placing c p s k y run header (LoadsArea true size)) true size) (area_says c p s space (is_space y.epoch)) ∙ ap next test

    goes_on : (b : Bool) → fits true (words_for header) area ≡ b → Helps b → Goes c p s k None x (Value (area_now c space))
    goes_on b test helps =
        becomes c p s k x None (Value (area_now c space)) (then b) s.ghost (ap by (reads b test) ∙ comes b helps) is.below
        (less c p s k x is (knows (then b)) (knows_less b)) (ap (λ (t : PlaceStage). told_place x (told (placing c p s k y run header t))) (reads b test) ∙ silent b helps) refl
        (record { pages = is.fits.stage.sound.pages; run = is.fits.stage.sound.run; fields = is.fits.stage.sound.fields; cell = is.fits.stage.sound.cell; epoch = is.fits.stage.sound.epoch; snap = is.fits.stage.sound.snap; room = is.fits.stage.sound.room; stage = subst (FitsPlaceStage y.layout.pages (pages_for (size_of header)) y.snap run header) (sym (reads b test)) (stage_fits b test) })
        (worker_fits b test helps)

    goes : (b : Bool) → fits true (words_for header) area ≡ b → (full : Bool) → is_full y found ≡ full → Goes c p s k None x (Value (area_now c space))
    goes true test full is_so = goes_on true test (λ e. absurd (cc))
    goes false test false is_so = goes_on false test (λ e. is_so)
    goes false test true is_so =
        let unended = end_none y.account.end is.fits.end in
        let its = its_mutator c p s k x is refl unended in
        finds_no_room c p s k y run size making is is_so test its.0 its.1 (plain_value s.ghost.identity making.value) (makes_alike c p s k x is refl unended its.0 its.1 making)

    pub loads_area : StepsSo c p s k x
    loads_area =
        wants c p s k x (Load (place_of c.pages (Area space))) (ap (λ n. Some (Load (place_of n (Area space)))) is.fits.pages)
        (loads c p s k x (Area space) (is_space y.epoch) (goes (fits true (words_for header) area) refl (is_full y found) refl))
