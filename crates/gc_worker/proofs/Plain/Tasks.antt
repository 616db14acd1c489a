-- A late mutator's task stays what it is when a pointer in a register takes another's place.
use Rattle.std.proofs.Common.{◌≡◌, ◌≢◌, ℕ, ◌<◌, List, length, map, Option, Some, None, Result, Ok, slice_index, slice_set, refl, sym, ap, ◌∙◌, ⊎_elim, get_or-set_same, get_or-set_other, length-set, arith}
use Rattle.std.specs.Prelude.{slice_index_or}
use Rattle.std.proofs.lemmas.Option.{same_Some}
use Rattle.std.proofs.lemmas.Bool.{cases_eq}
use Rattle.std.proofs.lemmas.List.{map-set, get_or-map}
use Rattle.heap_words.specs.Decoded.{PointerWord, decode}
use Rattle.plain_state.specs.declared.end.End.{End}
use Rattle.plain_state.specs.declared.value.Value.{Value}
use Rattle.plain_state.specs.declared.value.Value.TheVariants.{Number, Reference}
use Rattle.plain_state.specs.State.{Mutator}
use Rattle.plain_state.specs.declared.kind.Kind.{Kind}
use Rattle.plain_state.specs.declared.kind.Kind.TheVariants as kinds
use Rattle.mutator_asm.specs.declared.instr.Instr.{Instr}
use Rattle.mutator_asm.specs.declared.instr.Instr.TheVariants as instrs
use Rattle.mutator_asm.specs.declared.operand.Operand.{Operand}
use Rattle.mutator_asm.specs.declared.operand.Operand.TheVariants as operands
use Rattle.plain_heap.specs.declared.action.Action.{Action}
use Rattle.plain_heap.specs.declared.action.Action.TheVariants.{Makes}
use Rattle.plain_heap.specs.Action.{◌>>=◌, action, allocates, length_of, mixed_length, operand, reference_in, register, as_number, is_reference}
use Rattle.heap_state.specs.Known.{Account}
use Rattle.gc_worker.proofs.Plain.OnlySnap.{snap_acts, snaps_alone}
use Rattle.gc_worker.proofs.Plain.RecordsMade.{makes_of, made_of}
use Rattle.gc_worker.specs.declared.stage.after.After.{After}
use Rattle.gc_worker.specs.declared.stage.after.After.TheVariants as afters
use Rattle.gc_worker.specs.declared.task.Task.{Task}
use Rattle.gc_worker.specs.declared.task.Task.TheVariants.{Calls, Stops}
use Rattle.gc_worker.specs.Workers.Fits.{FitsCall, MayBegin, IsMaking, IsSnapping}
use Rattle.record_access.specs.Seen.{seen_as, value_seen}
use Rattle.gc_worker.specs.Plain.Seen.{Making, making_in, mixed_made, seen}

abbrev TaskAfter : Account → List ℕ → Option Task → After → Type 0
TaskAfter account registers task afters.Looks = MayBegin account registers task
TaskAfter account registers task afters.Places = IsMaking account registers task
TaskAfter account registers task afters.Snaps = IsSnapping account registers task

-- ---- the record that an instruction makes

-- the fields and the length of a mixed record of so many fields and raw words, and the record
abbrev mixed_of : (fields raw : Result ℕ End) → Result (ℕ × ℕ) End
mixed_of fields raw = fields >>= (λ f. raw >>= (λ r. mixed_length f r >>= (λ n. Ok (f, n))))

abbrev mixed_by : (d : ℕ) (fields raw : Result ℕ End) → Option Making
mixed_by d fields raw = making_in (mixed_of fields raw >>= (λ m. Ok (Makes (kinds.Mixed m.0) d m.1 (Number 0))))

-- whether there is a cell depends on whether there is a reference alone
cell_by : (d : ℕ) (v w : Value) → is_reference v ≡ is_reference w
    → making_in (reference_in v >>= (λ i. Ok (Makes kinds.Weak d 1 (Reference i)))) ≡ making_in (reference_in w >>= (λ i. Ok (Makes kinds.Weak d 1 (Reference i))))
cell_by d (Number m) (Number n) same = refl
cell_by d (Number m) (Reference j) same = absurd (cc)
cell_by d (Reference i) (Number n) same = absurd (cc)
cell_by d (Reference i) (Reference j) same = refl

-- two mutators whose operands are the same, and that have references in the same registers, make the same record
module _ (k j : Mutator) (same : (x : Operand) → operand k x ≡ operand j x) (refers : (r : ℕ) → is_reference (register k r) ≡ is_reference (register j r)) where
  allocates_same : (kind : Kind) (d : ℕ) (x : Operand) → making_in (allocates k kind d x) ≡ making_in (allocates j kind d x)
  allocates_same kind d x = ap (λ (o : Result ℕ End). making_in (o >>= (λ n. length_of n >>= (λ len. Ok (Makes kind d len (Number 0)))))) (same x)

  mixes_same : (d : ℕ) (fields raw : Operand) → mixed_made k d fields raw ≡ mixed_made j d fields raw
  mixes_same d fields raw = ap (λ (o : Result ℕ End). mixed_by d o (operand k raw)) (same fields) ∙ ap (mixed_by d (operand j fields)) (same raw)

  makes_of_same : (i : Instr) → makes_of k i ≡ makes_of j i
  makes_of_same (instrs.New d x) = allocates_same kinds.Fields d x
  makes_of_same (instrs.Raw d x) = allocates_same kinds.Raw d x
  makes_of_same (instrs.Mix d fields raw) = mixes_same d fields raw
  makes_of_same (instrs.Weak d a) = cell_by d (register k a) (register j a) (refers a)
  makes_of_same i = refl

  makes_same : (i : Instr) → making_in (action k i) ≡ making_in (action j i)
  makes_same i = made_of k i ∙ makes_of_same i ∙ sym (made_of j i)

-- ---- a register gets a copy

module _ (account : Account) (registers : List ℕ) (r a b : ℕ) (new : ℕ) (inside : r < length registers) (was : decode (slice_index registers r) ≡ PointerWord a) (now : decode new ≡ PointerWord b) where
  abbrev before : Mutator
  before = seen account registers

  abbrev after : Mutator
  after = seen account (slice_set registers r new)

  seen_at : (rs : List ℕ) (i : ℕ) → i < length rs → register (seen account rs) i ≡ value_seen (slice_index rs i)
  seen_at rs i l = get_or-map value_seen rs i 0 (Number 0) l

  -- what is the same of two references is the same of a register
  read_same : {A : Type 0} (f : Value → A) → f (seen_as (PointerWord b)) ≡ f (seen_as (PointerWord a)) → (i : ℕ) → f (register after i) ≡ f (register before i)
  read_same f alike i = ⊎_elim
      (λ (e : i ≡ r). let rs = slice_set registers r new in let n = length-set registers r new in
      ap f (ap (register after) e ∙ (seen_at rs r (omega (arith, n, inside)) ∙ ap value_seen (get_or-set_same registers r new 0 inside))) ∙ ap (λ d. f (seen_as d)) now
      ∙ alike
      ∙ sym (ap f (ap (register before) e ∙ seen_at registers r inside) ∙ ap (λ d. f (seen_as d)) was))
      (λ (other : i ≢ r). ap (λ values. f (slice_index_or values i (Number 0))) (map-set value_seen registers r new)
      ∙ ap f (get_or-set_other (map value_seen registers) r i (value_seen new) (Number 0) other))
      (cases_eq i r)

  operand_same : (x : Operand) → operand after x ≡ operand before x
  operand_same (operands.Reg i) = read_same as_number refl i
  operand_same (operands.Number n) = refl

  same : (i : Instr) → making_in (action after i) ≡ making_in (action before i)
  same = makes_same after before operand_same (read_same is_reference refl)

  call_stays : (i : Instr) → FitsCall account registers i → FitsCall account (slice_set registers r new) i
  call_stays i call = record { valid = call.valid; serial = λ m is. call.serial m (sym (same i) ∙ is) }

  begins_still : (task : Option Task) → MayBegin account registers task → MayBegin account (slice_set registers r new) task
  begins_still None may = tt
  begins_still (Some (Calls i)) may = call_stays i may
  begins_still (Some (Stops end)) may = may

  -- what is made is Ok of that action
  made : (o : Result Action End) (m : Making) → making_in o ≡ Some m → (v : Value) × (o ≡ Ok (Makes m.kind m.into m.len v))
  made (Ok (Makes kind d n v)) m is = (v, ap (λ (q : Making). Ok (Makes q.kind q.into q.len v)) (same_Some (record { kind = kind; into = d; len = n }) m is))
  made o m is = absurd (cc)

  makes_still : (task : Option Task) → IsMaking account registers task → IsMaking account (slice_set registers r new) task
  makes_still task making =
      let makes = made (action after making.executes.instr) making.making (same making.executes.instr ∙ ap making_in making.executes.acts) in
      record {
        making = making.making;
        value = makes.0;
        executes = record {
          instr = making.executes.instr;
          task_is = making.executes.task_is;
          call = call_stays making.executes.instr making.executes.call;
          acts = makes.1;
        };
      }

  snaps_still : (task : Option Task) → IsSnapping account registers task → IsSnapping account (slice_set registers r new) task
  snaps_still task snapping = record {
    instr = snapping.instr;
    task_is = snapping.task_is;
    call = call_stays snapping.instr snapping.call;
    acts = snap_acts after snapping.instr (snaps_alone before snapping.instr snapping.acts);
  }

  pub task_stays : (x : After) (task : Option Task) → TaskAfter account registers task x → TaskAfter account (slice_set registers r new) task x
  task_stays afters.Looks task may = begins_still task may
  task_stays afters.Places task making = makes_still task making
  task_stays afters.Snaps task snapping = snaps_still task snapping
