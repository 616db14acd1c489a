-- A frame is put on top.
use Rattle.std.proofs.Common.{◌≡◌, ◌≢◌, ℕ, ◌+◌, ◌<◌, ◌≤◌, List, [], length, Option, Some, Result, Ok, Err, refl, ap, sym, ◌∙◌, subst, arith, slice_index_or, slice_set, get_or-set_same, length-set}
use Rattle.std.specs.Prelude.{IsTrue, OnOk}
use Rattle.std.specs.Option.{option_map_or}
use Rattle.std.proofs.lemmas.Bool.{lt-ltb}
use Rattle.std.proofs.lemmas.List.{length-replicate}
use Rattle.plain_state.specs.declared.end.End.{End}
use Rattle.plain_state.specs.declared.kind.Kind.{Kind}
use Rattle.plain_state.specs.declared.kind.Kind.TheVariants.{Fields}
use Rattle.plain_state.specs.declared.sizes.TheConstants.{LONGEST_RECORD, NUMBERS, REGISTERS}
use Rattle.plain_state.specs.declared.value.Identity.{Identity}
use Rattle.plain_state.specs.declared.value.Value.{Value}
use Rattle.plain_state.specs.declared.value.Value.TheVariants.{Number, Reference}
use Rattle.plain_state.specs.State.{Heap, Record, record_of, serial_of}
use Rattle.plain_state.specs.Writing.{stored, with_value, zeros}
use Rattle.plain_state.proofs.Stored.{stored_there}
use Rattle.mutator_asm.specs.declared.instr.Instr.{Instr}
use Rattle.mutator_asm.specs.declared.instr.Instr.TheVariants as instrs
use Rattle.mutator_asm.specs.declared.operand.Operand.TheVariants as operands
use Rattle.mutator_asm.specs.Program.{is_valid}
use Rattle.plain_heap.specs.Call.{may_hold, values_of}
use Rattle.plain_heap.specs.Records.{RecordShape, shape}
use Rattle.plain_heap.proofs.Calls.Single.{call-new, call-st}
use Rattle.gc_worker.proofs.Plain.RecordsMade.{made_of}
use Rattle.gc_worker.specs.Workers.Fits.{FitsCall}
use Rattle.ael_threads.specs.declared.mutator.refused.TheConstants.{MOST_RECORDS}
use Rattle.ael_threads.specs.Seats.{Seated}
use Rattle.ael_runtime.specs.declared.failure.Failure.{Failure}
use Rattle.ael_runtime.specs.declared.root.Root.{Root}
use Rattle.ael_runtime.specs.declared.root.TheConstants.{FRAMES, SCRATCH}
use Rattle.ael_runtime.specs.Calling.{AtCall, HadEffect, IsSure, HadEffectsOnceSeen, WasTrapped, OneCall}
use Rattle.ael_runtime.specs.Failing.{IsFullForFrame}
use Rattle.ael_runtime.specs.Making.{HasMade, HasPushed}
use Rattle.ael_runtime.specs.Reading.{held, len_of, number, root_register, seen_heap, seen_mutator, record_word}
use Rattle.ael_runtime.proofs.Effects.{Sets, writes}
use Rattle.ael_runtime.proofs.Lengths.{there_later}
use Rattle.ael_runtime.proofs.NewRecords.{full, made, made_sets, makes_begin}
use Rattle.ael_runtime.proofs.NumberCalls.{mov_sets, root_below}
use Rattle.ael_runtime.proofs.PlainCalls.{is_done}
use Rattle.ael_runtime.proofs.RecordCalls.{seen_others}

fields_hold : (kind : Kind) (v : Value) → kind ≡ Fields → may_hold kind 0 v ≡ Ok v
fields_hold kind v is = rw is refl

pub valid_new : (d n : ℕ) → d < REGISTERS → n ≤ LONGEST_RECORD → IsTrue (is_valid (instrs.New d (operands.Number n)))
valid_new d n into short = rw (lt-ltb d REGISTERS into, lt-ltb n NUMBERS (omega (arith, short))) refl

-- it has as many records as before
pub serial_kept : (a b : Seated) (i : Instr) (e : HadEffect a i b) (d : ℕ) (v : Value) → Sets a d v e.heap b → b.worker.account.serial ≡ serial_of (seen_heap a) (number a)
serial_kept a b i e d v s = e.serial_is ∙ ((λ j. serial_of (s.heap_is j) (e.number_is j)) ∙ e.at_call.serial)

pub few_now : (a : Seated) (serial : ℕ) → serial ≡ a.worker.account.serial → serial < MOST_RECORDS → a.worker.account.serial < MOST_RECORDS
few_now a serial is few = omega (arith, is, few)

pub new_begins : (a kept : Seated) (n serial : ℕ) (keeps : HadEffect a (instrs.Mov SCRATCH FRAMES) kept) → n ≤ LONGEST_RECORD → serial ≡ serial_of (seen_heap a) (number a) → serial < MOST_RECORDS
    → FitsCall kept.worker.account kept.worker.registers (instrs.New FRAMES (operands.Number n))
new_begins a kept n serial keeps short is few =
    let same = serial_kept a kept (instrs.Mov SCRATCH FRAMES) keeps SCRATCH (held a FRAMES) (mov_sets a kept SCRATCH FRAMES keeps (omega arith)) in
    makes_begin kept.worker.account kept.worker.registers (instrs.New FRAMES (operands.Number n)) (valid_new FRAMES n (omega arith) short) (omega (arith, same, is, few))

pub full_frame : (a kept b : Seated) (slots n : ℕ) → n ≡ slots → n + 1 ≤ LONGEST_RECORD → HadEffect a (instrs.Mov SCRATCH FRAMES) kept
    → (end : End) → WasTrapped kept (instrs.New FRAMES (operands.Number (n + 1))) end b → IsFullForFrame a slots end b
full_frame a kept b slots n is short keeps end t =
    let for_n : IsFullForFrame a n end b = record {
      ends = record {
        called = (kept, (keeps.called, (b, (t.called, refl))));
        had_no_end = keeps.had_no_end;
        ended = t.called.ends;
        heap = t.heap_is ∙ sym t.before;
        others = λ j scratch. t.registers j ∙ (mov_sets a kept SCRATCH FRAMES keeps (omega arith)).others j scratch;
      };
      full = full kept b (instrs.New FRAMES (operands.Number (n + 1))) end t Fields FRAMES (n + 1) (call-new (number kept) t.heap (seen_mutator kept) FRAMES (n + 1) short);
    } in
    subst (λ (k : ℕ). IsFullForFrame a k end b) is for_n

-- the old top is kept, and the new one is made
module _ (a kept new : Seated) (slots : ℕ) (short : slots + 1 ≤ LONGEST_RECORD) (keeps : HadEffect a (instrs.Mov SCRATCH FRAMES) kept)
    (makes : HadEffect kept (instrs.New FRAMES (operands.Number (slots + 1))) new) where
  is_new : HasMade kept Fields (slots + 1) FRAMES new
  is_new = made kept new (instrs.New FRAMES (operands.Number (slots + 1))) makes Fields FRAMES (slots + 1) (omega arith)
      (call-new (number kept) makes.heap (seen_mutator kept) FRAMES (slots + 1) short)

  abbrev i : Identity
  i = is_new.identity

  link : held new SCRATCH ≡ held a FRAMES
  link = (made_sets kept new (instrs.New FRAMES (operands.Number (slots + 1))) makes Fields FRAMES (slots + 1) (omega arith)
      (call-new (number kept) makes.heap (seen_mutator kept) FRAMES (slots + 1) short)).others SCRATCH (λ e. absurd (omega (arith, e)))
      ∙ (mov_sets a kept SCRATCH FRAMES keeps (omega arith)).value

  -- it is there at each later call
  module _ (heap : Heap) (at_call : AtCall new heap) where
    frame : (q : Record) × (record_of heap i ≡ Some q) × (shape q ≡ shape (zeros Fields (slots + 1)))
    frame = there_later (seen_heap new) heap at_call.shapes i (zeros Fields (slots + 1)) is_new.is

    frame_len : length frame.0.values ≡ slots + 1
    frame_len = ap (λ (s : RecordShape). s.len) frame.2 ∙ length-replicate (slots + 1) (Number 0)

    frame_holds : (v : Value) → may_hold frame.0.kind 0 v ≡ Ok v
    frame_holds v = fields_hold frame.0.kind v (ap (λ (s : RecordShape). s.kind) frame.2)

    frame_within : 0 < length frame.0.values
    frame_within = let len = frame_len in omega (arith, len)

  pub sure_link : IsSure new (instrs.St FRAMES (operands.Number 0) SCRATCH)
  sure_link = record {
    other = λ e. absurd (cc);
    no_record = λ k. made_of k (instrs.St FRAMES (operands.Number 0) SCRATCH);
    ok = λ heap at. is_done _ _
        (call-st (number new) heap (seen_mutator new) FRAMES 0 SCRATCH i (frame heap at).0 (held new SCRATCH) is_new.leads (frame heap at).1 (frame_within heap at) (frame_holds heap at (held new SCRATCH)));
  }

  pub pushed : (b : Seated) → a.worker.account.serial < MOST_RECORDS → HadEffect new (instrs.St FRAMES (operands.Number 0) SCRATCH) b → HasPushed a slots b
  pushed b room e =
      let r = frame e.heap e.at_call in
      let v = held new SCRATCH in
      let s = writes new b (instrs.St FRAMES (operands.Number 0) SCRATCH) e (stored e.heap i r.0 0 v)
      (call-st (number new) e.heap (seen_mutator new) FRAMES 0 SCRATCH i r.0 v is_new.leads r.1 (frame_within e.heap e.at_call) (frame_holds e.heap e.at_call v)) in
      let later : record_of (seen_heap b) i ≡ Some (with_value r.0 0 v) = ap (λ (h : Heap). record_of h i) s.heap_is ∙ stored_there e.heap i r.0 0 v r.1 in
      let values : values_of (seen_heap b) i ≡ slice_set r.0.values 0 v = ap (λ (o : Option Record). option_map_or (λ (q : Record). q.values) o []) later in
      let top : held b FRAMES ≡ Reference i = s.registers FRAMES ∙ is_new.leads in record {
        short = omega (arith, short);
        room = room;
        effects = record {
          called = (kept, (keeps.called, (new, (makes.called, (b, (e.called, refl))))));
          had_no_end = keeps.had_no_end;
          no_end = e.called.ends;
          others = λ j other scratch. s.registers j
              ∙ ((made_sets kept new (instrs.New FRAMES (operands.Number (slots + 1))) makes Fields FRAMES (slots + 1) (omega arith)
              (call-new (number kept) makes.heap (seen_mutator kept) FRAMES (slots + 1) short)).others j other
              ∙ (mov_sets a kept SCRATCH FRAMES keeps (omega arith)).others j scratch);
        };
        kept = kept;
        keeps = keeps.called;
        new = new;
        makes = makes.called;
        made = is_new;
        links = e.called;
        top = s.registers FRAMES;
        len = ap (len_of (seen_heap b)) top ∙ (ap length values ∙ (length-set r.0.values 0 v ∙ frame_len e.heap e.at_call));
        below = ap (λ (z : Value). record_word (seen_heap b) z 0) top
            ∙ (ap (λ vs. slice_index_or vs 0 (Number 0)) values ∙ (get_or-set_same r.0.values 0 v (Number 0) (frame_within e.heap e.at_call) ∙ link));
      }

-- ---- slots of the topmost frame, which stays on top

module _ (a b : Seated) (slot n : ℕ) (n_is : n ≡ slot) where
  -- in a call that leaves a value in register d
  module _ (cs : List OneCall) (d : ℕ) (other : FRAMES ≢ d) where
    top_stays : HadEffectsOnceSeen a FRAMES cs d b → held b FRAMES ≡ held a FRAMES
    top_stays effects = seen_others a FRAMES cs d b effects FRAMES other (λ e. absurd (omega (arith, e)))

    pub within_top : {T : Type 0} (p : Result T Failure) → OnOk p (n + 1 < len_of (seen_heap b) (held a FRAMES)) → OnOk p (HadEffectsOnceSeen a FRAMES cs d b) → OnOk p (slot + 1 < len_of (seen_heap b) (held b FRAMES))
    within_top (Ok x) within effects = let top = ap (len_of (seen_heap b)) (top_stays effects) in omega (arith, within, top, n_is)
    within_top (Err why) within effects = tt

    same_word : HadEffectsOnceSeen a FRAMES cs d b → record_word (seen_heap b) (held a FRAMES) (n + 1) ≡ record_word (seen_heap b) (held b FRAMES) (slot + 1)
    same_word effects = (λ j. record_word (seen_heap b) (sym (top_stays effects) j) (n_is j + 1))

    pub restored : {T : Type 0} (p : Result T Failure) (r : ℕ) → d ≡ r → OnOk p (held b d ≡ record_word (seen_heap b) (held a FRAMES) (n + 1)) → OnOk p (HadEffectsOnceSeen a FRAMES cs d b)
        → OnOk p (held b r ≡ record_word (seen_heap b) (held b FRAMES) (slot + 1))
    restored (Ok x) r is value effects = ap (held b) (sym is) ∙ (value ∙ same_word effects)
    restored (Err why) r is value effects = tt

    pub saved : {T : Type 0} (p : Result T Failure) (q r : ℕ) → q ≡ r → OnOk p (record_word (seen_heap b) (held a FRAMES) (n + 1) ≡ held a q) → OnOk p (HadEffectsOnceSeen a FRAMES cs d b)
        → OnOk p (record_word (seen_heap b) (held b FRAMES) (slot + 1) ≡ held a r)
    saved (Ok x) q r is value effects = sym (same_word effects) ∙ (value ∙ ap (held a) is)
    saved (Err why) q r is value effects = tt

-- no root is the register of the frames
pub not_frames : (root : Root) (d : ℕ) → d ≡ root_register root → FRAMES ≢ d
not_frames root d is = λ e. let below = root_below root in absurd (omega (arith, below, is, e))

pub not_scratch : FRAMES ≢ SCRATCH
not_scratch = λ e. absurd (omega (arith, e))
