-- A new record's header is stored: the record stands, and the register that the instruction names leads to it.
use Rattle.std.proofs.Common.{◌≡◌, ℕ, ◌+◌, ◌-◌, ◌<◌, ◌≤◌, length, Option, Some, None, Result, Ok, refl, ap, sym, subst, ◌∙◌, arith, length-set}
use Rattle.std.specs.Prelude.{slice_index, slice_set, IsOk, IsTrue}
use Rattle.std.proofs.lemmas.Bool.{ltb-true, and_parts}
use Rattle.std.proofs.lemmas.Option.{get_or_from_slice_get}
use Rattle.std.specs.Bool.{⊤}
use Rattle.std.specs.Result.{IfOk}
use Rattle.heap_words.specs.Decoded.{PointerWord, HeaderWord, decode, encode}
use Rattle.heap_words.specs.Word.{pointer_word}
use Rattle.heap_words.proofs.Decoding.{decode-pointer_word, decode-header_word}
use Rattle.plain_state.specs.declared.end.End.{End}
use Rattle.plain_state.specs.declared.kind.Kind.{Kind}
use Rattle.plain_state.specs.declared.kind.Kind.TheVariants.{Fields, Raw, Mixed, Weak}
use Rattle.plain_state.specs.declared.value.Value.{Value}
use Rattle.plain_state.specs.declared.value.Value.TheVariants.{Number, Reference}
use Rattle.plain_state.specs.Cells.{value_of_cell}
use Rattle.plain_state.specs.Layout.{values_at, words_behind}
use Rattle.plain_state.specs.State.{Mutator, Plain}
use Rattle.plain_state.specs.Writing.{filled, zeros}
use Rattle.mutator_asm.specs.declared.instr.Instr.{Instr}
use Rattle.mutator_asm.specs.declared.instr.Instr.TheVariants as instrs
use Rattle.mutator_asm.specs.Program.{is_valid, is_register}
use Rattle.plain_heap.specs.declared.action.Action.{Action}
use Rattle.plain_heap.specs.declared.action.Action.TheVariants.{Makes}
use Rattle.plain_heap.specs.Action.{◌>>=◌, action, next_of}
use Rattle.plain_heap.specs.Call.{After, call, performed, went_on, allocated as plain_allocated}
use Rattle.plain_heap.specs.Step.{settled}
use Rattle.plain_heap.proofs.Calls.Named.{FillsKind, FitsKind}
use Rattle.atom_store.specs.declared.step.Step.TheVariants.{Store}
use Rattle.atom_store.specs.declared.reply.Reply.TheVariants as replies
use Rattle.record_layout.specs.declared.header.Header.{Header}
use Rattle.record_layout.specs.Layout.{header_says}
use Rattle.space_map.specs.Table.{HeapWord, place_of}
use Rattle.alloc_end.specs.declared.place_stage.PlaceStage.TheVariants.{StoresHeader}
use Rattle.alloc_end.specs.declared.run.Run.{Run}
use Rattle.alloc_end.specs.Place.{size_of, placed}
use Rattle.alloc_end.specs.Soundness.{IsSoundPlacing}
use Rattle.heap_state.specs.Configuration.{Configuration, Stands, era, memory, team}
use Rattle.heap_state.specs.Memory.Entries.{Entry, WordIs}
use Rattle.heap_state.specs.Invariant.Ghost.{Ghost, header_kind}
use Rattle.heap_state.specs.Meaning.Values.{Shows, value_of}
use Rattle.heap_state.specs.Known.{Account, Stock, Known}
use Rattle.heap_laws.specs.Allocation.Records.{PlacesNext, allocated, next_identity, stored_ahead}
use Rattle.heap_laws.specs.Fields.Held.{HoldsValue}
use Rattle.heap_laws.specs.Fields.Stores.{HoldsTarget, with_record}
use Rattle.heap_laws.proofs.Allocation.Placed.{mutators_place}
use Rattle.heap_laws.proofs.Allocation.Shown.{zeros_show}
use Rattle.gc_worker.specs.declared.task.Task.TheVariants.{Calls}
use Rattle.gc_worker.specs.Plain.Answer.{after_outcome}
use Rattle.gc_worker.specs.Workers.Fits.{Fits, IsMaking}
use Rattle.gc_worker.specs.Steps.Goes.{Is, Goes, StepsSo}
use Rattle.gc_worker.specs.Workers.Held.{Held, target_for, target_in, target_named}
use Rattle.gc_worker.specs.Workers.Knows.{knows, counted_in, kind_with}
use Rattle.record_access.specs.Seen.{IsValueAs}
use Rattle.gc_worker.specs.Plain.Seen.{Making, seen}
use Rattle.gc_worker.specs.declared.calls.did.Did.TheVariants.{Done}
use Rattle.gc_worker.specs.Steps.Turned.{Answers, turned, told, told_effect}
use Rattle.gc_worker.specs.Steps.Turned as turning
use Rattle.gc_worker.proofs.Plain.Actions.{plain_value}
use Rattle.gc_worker.proofs.Plain.AnswerSteps.{LawTo, IsIts, answers, holds, its_mutator, row_fits_to}
use Rattle.gc_worker.proofs.Plain.Effects.{moved, moved_goes, moved_as}
use Rattle.gc_worker.proofs.Stages.Gate.Resuming.{end_none}
use Rattle.gc_worker.proofs.Stages.Gate.GateWords.{wants}
use Rattle.gc_worker.proofs.Plain.NewRecords.{cell_size, made, made_is, fields_held, fields_is, fits_kind, header_made, kind_said, makes_named, sized}
use Rattle.gc_worker.proofs.Plain.RecordsMade.{names_target}
use Rattle.gc_worker.proofs.Stages.Place.Acts.{makes_alike}
use Rattle.gc_worker.proofs.Stages.Place.Claiming.{placing, at}
use Rattle.gc_worker.proofs.Workers.Answered.{registers_put, values_set, settled_as, settled_fits}
use Rattle.gc_worker.proofs.Words.RowSteps.{stores, prepared}
use Rattle.gc_worker.proofs.Plain.WrittenRegisters.{WritesRegister, writes_register}
use Rattle.std.proofs.lemmas.List.{length-replicate}

-- a call is its action, performed
called : (k : ℕ) (p : Plain) (q : Mutator) (i : Instr) (act : Action) → action q i ≡ Ok act → call k p.heap q i ≡ performed k p.heap q act
unfolding call
called k p q i act is = ap (λ (o : Result Action End). o >>= performed k p.heap q) is

-- the words that show a record of zeros show a cell whatever its value is: nothing is said of it
filled_show : (denotes : ℕ → Option Value) (heap : ℕ → ℕ) (a : ℕ) (kind : Kind) (z n : ℕ) (v : Value) → FillsKind (λ v. ⊤) kind v
    → Shows denotes heap a kind z (zeros kind n) → Shows denotes heap a kind z (filled kind n v)
filled_show denotes heap a Weak z n v fills shows = record {
  kind = refl;
  size = let e = length-replicate n v in let f = length-replicate n (Number 0) in let size = shows.size in omega (arith, e, f, size);
  fields = λ x l t. absurd (cc);
  numbers = λ x l t. absurd (cc);
  count = tt;
}
filled_show denotes heap a Fields z n v fills shows = subst (λ (w : Value). Shows denotes heap a Fields z (filled Fields n w)) (sym fills) shows
filled_show denotes heap a Raw z n v fills shows = subst (λ (w : Value). Shows denotes heap a Raw z (filled Raw n w)) (sym fills) shows
filled_show denotes heap a (Mixed count) z n v fills shows = subst (λ (w : Value). Shows denotes heap a (Mixed count) z (filled (Mixed count) n w)) (sym fills) shows

-- a cell has one value, which is that of its record
cell_value : (kind : Kind) (n : ℕ) (v : Value) → kind ≡ Weak → FitsKind kind n → value_of_cell (filled kind n v) ≡ Some v
cell_value Weak n v weak one = ap (λ (l : ℕ). value_of_cell (filled Weak l v)) one
cell_value _ n v weak one = absurd (cc)

module _ (c : Configuration) (p : Plain) (s : Stands c p) (k : ℕ) (y : Held) (run : Run) (making : IsMaking y.account y.registers y.task) where
  abbrev m : Making
  m = made y making

  abbrev header : Header
  header = header_made y making

  -- the record's words, with its header
  abbrev size : ℕ
  size = size_of header

  abbrev instr : Instr
  instr = making.executes.instr

  abbrev x : Held
  x = at c p s k y run header StoresHeader

  -- the worker after it
  abbrev next_run : Run
  next_run = record { at = run.at + size_of header; end = run.end }

  abbrev next_counter : ℕ
  next_counter = next_of (seen y.account y.registers)

  abbrev account : Account
  account = record y.account { counter = next_counter; executed = y.account.executed + 1 }

  abbrev after : Held
  after = settled_as x (record account { serial = y.account.serial + 1 }) (slice_set y.registers m.into (pointer_word run.at)) (Some next_run)

  comes : turned x replies.Done ≡ after
  comes = ap (turning.with_record x next_run run.at) (made_is y making)

  answer : told x replies.Done ≡ Answers (Calls instr) Done
  answer = ap told_effect making.executes.task_is

  small : m.into < 8
  small = subst (λ (o : Result Action End). IfOk o WritesRegister) making.executes.acts (writes_register (seen y.account y.registers) instr making.executes.call.valid)

  module _ (is : Is c k x) where
    room : run.at + size_of header ≤ run.end
    room = is.fits.stage.sound.stage

    -- the pointer to the record
    points : decode (pointer_word run.at) ≡ PointerWord run.at
    points = let inside = is.fits.stage.sound.run in let n = is.fits.stage.sound.pages in decode-pointer_word run.at (omega (arith, inside, n))

    inside : m.into < length y.registers
    inside = let n = is.fits.eight in omega (arith, n, small)

    fits : Fits c.pages c.mutators k after
    fits =
        let eight = is.fits.eight in let n = is.fits.pages in let l = is.fits.stage.sound.run in
        settled_fits c.pages c.mutators k x is.fits is.fits.side (record account { serial = y.account.serial + 1 }) (slice_set y.registers m.into (pointer_word run.at)) (Some next_run) is.fits.end
        (length-set y.registers m.into (pointer_word run.at) ∙ eight)
        (values_set y.registers m.into (pointer_word run.at) eight (subst IsValueAs (sym points) tt) is.fits.registers)
        is.fits.few_printed ((room, omega (arith, l, n)), is.fits.stage.rest)

    takes : IsSoundPlacing (placed (placing c p s k y run header StoresHeader))
    takes = record { pages = is.fits.stage.sound.pages; run = (room, is.fits.stage.sound.run.1); fields = is.fits.stage.sound.fields; cell = is.fits.stage.sound.cell; epoch = is.fits.stage.sound.epoch; snap = is.fits.stage.sound.snap; room = is.fits.stage.sound.room; stage = tt }

    -- ---- the law

    abbrev stock : Stock
    stock = counted_in (placing c p s k y run header StoresHeader)

    abbrev word : ℕ
    word = encode (header_says header)

    abbrev entry : Entry
    entry = WordIs run.at word

    abbrev ghost_after : Ghost
    ghost_after = allocated s.ghost run.at size m.kind (next_identity (team c) k)

    says : decode word ≡ HeaderWord (header_kind m.kind) (size - 1) (((team c).worker k).account.serial + 1) k
    says =
        let len : header.len ≡ size - 1 = omega arith in
        let serial : y.account.serial ≡ ((team c).worker k).account.serial = sym (ap (λ (w : Known). w.account.serial) is.as_known) in
        decode-header_word header.kind header.len header.serial header.mutator header.short header.counted
        ∙ (λ i. HeaderWord (header_kind m.kind) (len i) (serial i + 1) (is.fits.number i))

    places : PlacesNext (team c) k stock m.kind size word (target_for y)
    places = record {
      own = record { runs = rw is.as_known refl; has = rw is.as_known refl };
      run = (refl, refl);
      some = let e = sized m.kind m.len in omega (arith, e);
      fields = fields_held m.kind m.len (fits_kind y making);
      fits = room;
      rest = is.fits.stage.rest;
      ahead = ap (λ (kind : Kind). stored_ahead kind (target_for y)) (ap (kind_with header.kind) (fields_is y making) ∙ kind_said m.kind);
      header = says;
    }

    shows : (v : Value) → FillsKind (λ v. ⊤) m.kind v → Shows (value_of s.ghost.identity) (memory c).heap run.at m.kind size (filled m.kind m.len v)
    shows v fills =
        let len : size - (values_at m.kind + words_behind m.kind) ≡ m.len = (let e = sized m.kind m.len in omega (arith, e)) in
        filled_show (value_of s.ghost.identity) (memory c).heap run.at m.kind size m.len v fills
        (subst (λ (n : ℕ). Shows (value_of s.ghost.identity) (memory c).heap run.at m.kind size (zeros m.kind n)) len
        (zeros_show (era c) (memory c) (team c) s.ghost k stock m.kind size word (target_for y) (prepared c p s k x is) places))

    unended : y.account.end ≡ None
    unended = end_none y.account.end is.fits.end

    -- what it knows when the record stands
    abbrev next : Known
    next = moved c p s k x is refl unended y.registers

    known : with_record next stock size m.into (pointer_word run.at) ≡ knows after
    known = let set = registers_put y.registers m.into (pointer_word run.at) inside in λ i. record (knows after) { registers = sym set i }

    module _ (q : Mutator) (its : IsIts c p s k x q) (v : Value) (acts : action q instr ≡ Ok (Makes m.kind m.into m.len v)) where
      calls : call k p.heap q instr ≡ Ok (plain_allocated k p.heap q m.kind m.into m.len v)
      calls = called k p q instr (Makes m.kind m.into m.len v) acts

      -- behind a cell's header stands a word that leads to the record to which the plain cell refers
      holds_target : m.kind ≡ Weak → HoldsTarget (era c) s.ghost (target_for y) (filled m.kind m.len v)
      holds_target weak =
          let t = names_target q instr m v acts weak in
          let valid : IsTrue (is_valid (instrs.Weak t.into t.named)) = subst (λ (i : Instr). IsTrue (is_valid i)) t.is making.executes.call.valid in
          let among : t.named < 8 = ltb-true t.named 8 (and_parts (is_register t.into) (is_register t.named) valid).1 in
          let held = holds c p s k x is refl unended q its t.named among in
          let same : held.0 ≡ Reference t.target = sym (get_or_from_slice_get q.registers t.named held.0 (Number 0) held.1) ∙ t.held in
          let word : target_for y ≡ slice_index y.registers t.named = ap (target_in y.registers) making.executes.task_is ∙ ap (target_named y.registers) t.is in (
            t.target,
            cell_value m.kind m.len v weak (makes_named q instr m v acts).0 ∙ ap Some t.value,
            subst (λ (w : ℕ). HoldsValue (era c) s.ghost w (Reference t.target)) (sym word) (subst (HoldsValue (era c) s.ghost (slice_index y.registers t.named)) same held.2.holds),
          )

      law : LawTo c p s k x (Some entry) (knows after) ghost_after (after_outcome p k q (Calls instr) Done)
      law =
          let placed = mutators_place (era c) (memory c) (team c) s.ghost p k next (went_on q) stock m.kind size word (target_for y) m.into (pointer_word run.at) (filled m.kind m.len v)
          (prepared c p s k x is) s.shown places (cell_size m.kind m.len (fits_kind y making)) (shows v (makes_named q instr m v acts).1) holds_target small points (moved_goes c p s k x is refl unended q its) (moved_as c p s k x is refl unended q its) in
          subst (λ (o : Result After End). LawTo c p s k x (Some entry) (knows after) ghost_after (settled p k q o)) (sym calls)
          (subst (λ (w : Known). LawTo c p s k x (Some entry) w ghost_after (settled p k q (Ok (plain_allocated k p.heap q m.kind m.into m.len v)))) known placed)

      goes : Goes c p s k (Some entry) x replies.Done
      goes =
          answers c p s k x (Some entry) replies.Done after ghost_after q (Calls instr) Done comes answer refl is.below its.is its.no_end
          (subst (λ (o : Result After End). IsOk o) (sym calls) refl) law tt takes fits

      stores_for : StepsSo c p s k x
      stores_for =
          wants c p s k x (Store (place_of c.pages (HeapWord run.at)) word) (ap (λ n. Some (Store (place_of n (HeapWord run.at)) word)) is.fits.pages)
          (stores c p s k x entry (row_fits_to c p s k x entry (knows after) ghost_after (after_outcome p k q (Calls instr) Done) is.below law) goes)

    pub stores_header : StepsSo c p s k x
    stores_header =
        let its = its_mutator c p s k x is refl unended in
        stores_for its.0 its.1 (plain_value s.ghost.identity making.value) (makes_alike c p s k x is refl unended its.0 its.1 making)
