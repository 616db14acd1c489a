-- Direct calls: what is read brings the worker of the proofs from stage to stage.
use Rattle.std.proofs.Common.{◌≡◌, ℕ, ◌+◌, ◌-◌, ◌<◌, ◌==◌, Bool, true, false, Some, Ok, Err, Result, refl, ◌∙◌, ap, subst, arith, lt-ltb}
use Rattle.std.specs.Prelude.{Option, None, if◌then◌else◌}
use Rattle.atom_store.specs.declared.reply.Reply.TheVariants.{Value}
use Rattle.heap_words.specs.declared.kind.Kind.{Kind}
use Rattle.heap_words.specs.declared.kind.Kind.TheVariants as headers
use Rattle.mmu_model.specs.declared.protection.Protection.{Protection}
use Rattle.mmu_model.specs.declared.protection.Protection.TheVariants.{Allowed}
use Rattle.mmu_model.specs.Protection.{protection_of}
use Rattle.mutator_asm.specs.declared.instr.Instr.{Instr}
use Rattle.mutator_asm.specs.declared.instr.Instr.TheVariants.{Ld}
use Rattle.mutator_asm.specs.declared.operand.Operand.TheVariants as operands
use Rattle.plain_state.specs.declared.end.End.{End}
use Rattle.plain_state.specs.declared.end.End.TheVariants.{OutOfRange}
use Rattle.plain_state.specs.declared.value.Identity.{Identity}
use Rattle.plain_heap.specs.declared.action.Action.TheVariants.{Loads}
use Rattle.plain_heap.specs.Action.{◌>>=◌, action}
use Rattle.plain_heap.specs.Action as plain_action
use Rattle.space_map.specs.PageWord.{decode_page}
use Rattle.space_map.specs.Spaces.{page_of}
use Rattle.record_access.specs.declared.access.Access.{Access}
use Rattle.record_access.specs.declared.access_stage.AccessStage.{AccessStage}
use Rattle.record_access.specs.declared.field_access.FieldUse.TheVariants as field_uses
use Rattle.record_access.specs.declared.field_access.Role.{Role}
use Rattle.record_access.specs.declared.field_access.Role.TheVariants as roles
use Rattle.record_access.specs.declared.record_access.RecordUse.TheVariants as record_uses
use Rattle.record_access.specs.Access as access
use Rattle.record_access.specs.Access.{Answered, GoesTo, IsHeapAddress, by_kind, field_of, goes_by, goes_to_field, let_through, loading, read_header, turn_by, uses_field}
use Rattle.record_access.specs.StoredValue.{HasStored, role_in}
use Rattle.gc_worker.specs.declared.stage.Stage.{Stage}
use Rattle.gc_worker.specs.declared.stage.Stage.TheVariants.{Accesses, Looks}
use Rattle.gc_worker.specs.declared.stage.after.After.TheVariants as afters
use Rattle.gate_core.specs.declared.passage.Passage.TheVariants.{Park}
use Rattle.gc_worker.specs.declared.stage.write.Write.TheVariants.{OfAccess}
use Rattle.gc_worker.specs.declared.task.Task.TheVariants.{Calls}
use Rattle.gc_worker.specs.Laws.Between.{with_task}
use Rattle.gc_worker.specs.Plain.Seen.{seen}
use Rattle.gc_worker.specs.Workers.Held.{Held, at_stage}
use Rattle.gc_worker.specs.Steps.Direct.{BringsTo, LeadsTo, at_access, loads_header, loads_value, looks_at_record, looks_at_value}
use Rattle.gc_worker.specs.Steps.Stepped.{IsSound}
use Rattle.gc_worker.specs.Steps.Turned.{Silent, acted, begins, guards, looked_by, passes, started, told_acted, told_at, told_gate, told_start, told_access, turned, turned_access, turned_at}

-- ---- the look that begins it

pub load_begins : (x : Held) (gate base into value at : ℕ) → x.stage ≡ Looks → LeadsTo x gate base at
    → BringsTo (with_task x (Calls (Ld into base (operands.Number value)))) gate (at_access x (Ld into base (operands.Number value)) (looks_at_record at value into))
unfolding plain_action.action
load_begins x gate base into value at looks l =
    let instr = Ld into base (operands.Number value) in
    let y = with_task x (Calls instr) in
    let acts : action (seen x.account x.registers) instr ≡ Ok (Loads into l.identity value) = ap (λ (r : Result Identity End). r >>= (λ i. Ok (Loads into i value))) l.holds in record {
      becomes = ap (λ (s : Stage). turned_at y s (Value gate)) looks
          ∙ (ap (looked_by y) l.is
          ∙ (ap (λ (b : Bool). if b then at_stage y (passes y Park afters.Looks) else started y y.task) l.passes
          ∙ (ap (acted (begins y)) acts ∙ ap (λ (a : ℕ). at_access x instr (looks_at_record a value into)) l.leads)));
      silent = ap (λ (s : Stage). told_at y s (Value gate)) looks
          ∙ (ap (told_gate y) l.is ∙ (ap (λ (b : Bool). if b then Silent else told_start y y.task) l.passes ∙ ap (told_acted y (Calls instr)) acts));
    }

-- ---- the stages of its access

-- what is read takes an access on to a stage at which it loads
goes : (x : Held) (instr : Instr) (from to : AccessStage) (word : ℕ) → access.answered_at x.layout x.epoch from (Value word) ≡ GoesTo to → access.writes_on x.layout to ≡ None → BringsTo (at_access x instr from) word (at_access x instr to)
goes x instr from to word is reads =
    let a : Access = record { spaces = x.layout; epoch = x.epoch; stage = from } in
    let b : Access = record { spaces = x.layout; epoch = x.epoch; stage = to } in
    let y = at_access x instr from in record {
      becomes = ap (λ (z : Answered). turned_access y (goes_by a z) (turn_by z)) is ∙ ap (λ (o : Option ℕ). at_stage y (guards y (OfAccess b) o (Accesses b))) reads;
      silent = ap (λ (z : Answered). told_access y.task (turn_by z)) is;
    }

pub opens_record : (x : Held) (instr : Instr) (at value into word : ℕ) → protection_of (page_of at) (decode_page word) x.epoch ≡ Allowed
    → BringsTo (at_access x instr (looks_at_record at value into)) word (at_access x instr (loads_header at value into))
opens_record x instr at value into word allowed = goes x instr _ _ word (ap (λ (p : Protection). let_through p (loads_header at value into)) allowed) refl

pub opens_value : (x : Held) (instr : Instr) (at value into word : ℕ) (role : Role) → protection_of (page_of (at + (value + 1))) (decode_page word) x.epoch ≡ Allowed
    → BringsTo (at_access x instr (looks_at_value at value role into)) word (at_access x instr (loads_value at value role into))
opens_value x instr at value into word role allowed = goes x instr _ _ word (ap (λ (p : Protection). let_through p (loads_value at value role into)) allowed) refl

-- by the header it goes to the value
by_role : (at value into len : ℕ) (kind : Kind) (role : Role) → role_in kind ≡ Some role → value < len
    → by_kind (record { at = at; value = value; usage = record_uses.Loads into }) kind len ≡ GoesTo (goes_to_field (field_of at 1 role value) (field_uses.Loads into))
by_role at value into len headers.Fields roles.Field is has = ap (λ (b : Bool). loading (field_of at 1 roles.Field value) into (if b then Ok value else Err OutOfRange)) (lt-ltb value len has)
by_role at value into len headers.Raw roles.Number is has = ap (λ (b : Bool). loading (field_of at 1 roles.Number value) into (if b then Ok value else Err OutOfRange)) (lt-ltb value len has)
by_role at value into len _ role is has = absurd (cc)

header_read : (x : Held) (at value into word : ℕ) (role : Role) → HasStored word value role
    → access.answered_at x.layout x.epoch (loads_header at value into) (Value word) ≡ GoesTo (goes_to_field (field_of at 1 role value) (field_uses.Loads into))
header_read x at value into word role s =
    ap (read_header (record { at = at; value = value; usage = record_uses.Loads into })) s.header ∙ by_role at value into s.len s.kind role s.stands s.has

same_page : (at value : ℕ) (b : Bool) → (page_of at == page_of (at + (value + 1))) ≡ b → (page_of (at + (1 - 1)) == page_of (at + (value + 1))) ≡ b
same_page at value b is = let first : at + (1 - 1) ≡ at = omega arith in ap (λ (a : ℕ). page_of a == page_of (at + (value + 1))) first ∙ is

pub finds_near : (x : Held) (instr : Instr) (at value into word : ℕ) (role : Role) → HasStored word value role → (page_of at == page_of (at + (value + 1))) ≡ true
    → BringsTo (at_access x instr (loads_header at value into)) word (at_access x instr (loads_value at value role into))
finds_near x instr at value into word role s near = goes x instr _ _ word
    (header_read x at value into word role s
    ∙ ap (λ (b : Bool). GoesTo (if b then loads_value at value role into else looks_at_value at value role into)) (same_page at value true near))
    refl

pub finds_far : (x : Held) (instr : Instr) (at value into word : ℕ) (role : Role) → HasStored word value role → (page_of at == page_of (at + (value + 1))) ≡ false
    → BringsTo (at_access x instr (loads_header at value into)) word (at_access x instr (looks_at_value at value role into))
finds_far x instr at value into word role s far = goes x instr _ _ word
    (header_read x at value into word role s
    ∙ ap (λ (b : Bool). GoesTo (if b then loads_value at value role into else looks_at_value at value role into)) (same_page at value false far))
    refl

-- either way the value stands in the heap
pub value_in_heap : (x : Held) (instr : Instr) (at value into word : ℕ) (role : Role) → HasStored word value role → IsSound (turned (at_access x instr (loads_header at value into)) (Value word))
    → IsHeapAddress x.layout.pages (at + (value + 1))
value_in_heap x instr at value into word role s sound = by_page (page_of at == page_of (at + (value + 1))) refl
  where
    by_page : (b : Bool) → (page_of at == page_of (at + (value + 1))) ≡ b → IsHeapAddress x.layout.pages (at + (value + 1))
    by_page true near = (subst IsSound (finds_near x instr at value into word role s near).becomes sound).stage.sound.stage.0
    by_page false far = (subst IsSound (finds_far x instr at value into word role s far).becomes sound).stage.sound.stage.0
