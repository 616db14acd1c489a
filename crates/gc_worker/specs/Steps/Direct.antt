-- Direct calls: the code of a mutator stays at its look, and keeps in numbers what it loads, while the worker that the proofs have of it
-- goes through the stages of the access.
use Rattle.std.specs.Prelude.{◌≡◌, ℕ, ◌+◌, ◌==◌, true, false, Option, Some, None, Ok}
use Rattle.atom_store.specs.declared.reply.Reply.TheVariants.{Value}
use Rattle.space_map.specs.declared.gate_word.GateWord.{GateWord}
use Rattle.space_map.specs.GateWord.{decode_gate}
use Rattle.space_map.specs.PageWord.{decode_page}
use Rattle.space_map.specs.Spaces.{page_of}
use Rattle.mmu_model.specs.declared.protection.Protection.TheVariants.{Allowed}
use Rattle.mmu_model.specs.Protection.{protection_of}
use Rattle.mutator_asm.specs.declared.instr.Instr.{Instr}
use Rattle.mutator_asm.specs.declared.instr.Instr.TheVariants.{Ld}
use Rattle.mutator_asm.specs.declared.operand.Operand.TheVariants as operands
use Rattle.plain_state.specs.declared.value.Identity.{Identity}
use Rattle.plain_heap.specs.Action.{reference_in, register}
use Rattle.record_access.specs.declared.access_stage.AccessStage.{AccessStage}
use Rattle.record_access.specs.declared.access_stage.AccessStage.TheVariants.{LooksAtRecord, LoadsHeader, LooksAtField, LoadsField}
use Rattle.record_access.specs.declared.field_access.FieldUse.TheVariants as field_uses
use Rattle.record_access.specs.declared.field_access.Role.{Role}
use Rattle.record_access.specs.declared.record_access.RecordUse.TheVariants as record_uses
use Rattle.record_access.specs.Access.{field_of}
use Rattle.record_access.specs.StoredValue.{HasStored}
use Rattle.gc_worker.specs.declared.stage.Stage.TheVariants.{Accesses, Looks}
use Rattle.gc_worker.specs.declared.steps.answered.Answered.{Answered}
use Rattle.gc_worker.specs.declared.steps.answered.Answered.TheVariants as answered
use Rattle.gc_worker.specs.declared.steps.stepped.Stepped.{Stepped}
use Rattle.gc_worker.specs.declared.steps.stepped.Stepped.TheVariants.{Effect, Ended}
use Rattle.gc_worker.specs.declared.task.Task.TheVariants.{Calls}
use Rattle.gc_worker.specs.Laws.Between.{with_task}
use Rattle.gc_worker.specs.Workers.Fits.{Takes}
use Rattle.gc_worker.specs.Workers.Held.{Held}
use Rattle.gc_worker.specs.Steps.Stepped.{IsSound, seen_by, stepped_by, uncounted}
use Rattle.gc_worker.specs.Steps.Turned.{Silent, told, turned}

-- in the access that this instruction makes, at this stage
abbrev pub at_access : Held → Instr → AccessStage → Held
at_access x instr stage =
    record x { begun = x.epoch; task = Some (Calls instr); stage = Accesses (record { spaces = x.layout; epoch = x.epoch; stage = stage }) }

-- how far it is ahead of the code: at the look that begins the instruction, or at a stage of its access
abbrev pub ahead : Held → Instr → Option AccessStage → Held
ahead x instr None = with_task x (Calls instr)
ahead x instr (Some stage) = at_access x instr stage

-- this word brings it there, and tells nothing
pub record BringsTo (x : Held) (word : ℕ) (y : Held) : Type 0 where
  pub becomes : turned x (Value word) ≡ y
  pub silent : told x (Value word) ≡ Silent

-- ---- the stages of `ld`, in turn

-- it looks at the record's page
abbrev pub looks_at_record : (record_at value into : ℕ) → AccessStage
looks_at_record at value into = LooksAtRecord (record { at = at; value = value; usage = record_uses.Loads into })

-- it loads the record's header
abbrev pub loads_header : (record_at value into : ℕ) → AccessStage
loads_header at value into = LoadsHeader (record { at = at; value = value; usage = record_uses.Loads into })

-- it looks at the value's page, which is another
abbrev pub looks_at_value : (record_at value : ℕ) → Role → (into : ℕ) → AccessStage
looks_at_value at value role into = LooksAtField (field_of at 1 role value) (field_uses.Loads into)

-- it loads the value
abbrev pub loads_value : (record_at value : ℕ) → Role → (into : ℕ) → AccessStage
loads_value at value role into = LoadsField (field_of at 1 role value) into

-- ---- what is read on the way

-- the gate has no request, and this register holds a pointer to that address
pub record LeadsTo (x : Held) (gate base : ℕ) (at : ℕ) : Type 0 where
  pub word : GateWord
  pub is : decode_gate gate ≡ Some word
  pub passes : word.request ≡ false
  pub identity : Identity
  pub holds : reference_in (register (seen_by x) base) ≡ Ok identity
  pub leads : identity.serial ≡ at

-- ---- how the code catches up

-- how a call stands after an act
abbrev pub answered_by : Stepped → Answered
answered_by (Effect m) = answered.Executed
answered_by (Ended m end) = answered.Ended
answered_by other = answered.Open

-- so far ahead it may take this word
pub record MayCatchUp (x : Held) (word : ℕ) : Type 0 where
  pub sound : IsSound x
  pub takes : Takes x (Value word)
  pub fits : IsSound (turned x (Value word))

-- the code was so far behind, and has taken this word
pub record CatchesUp (x : Held) (word : ℕ) (answer : Answered) (y : Held) : Type 0 where
  pub state : y ≡ uncounted (turned x (Value word))
  pub tells : answer ≡ answered_by (stepped_by x.number (told x (Value word)))

-- THEOREM: what a direct `ld` reads takes the worker of the proofs from its look to the value's word, stage by stage, and tells nothing.
pub record LoadsGoByStages : Type 0 where
  pub begins : (x : Held) (gate base into value at : ℕ) → x.stage ≡ Looks → LeadsTo x gate base at
      → BringsTo (with_task x (Calls (Ld into base (operands.Number value)))) gate (at_access x (Ld into base (operands.Number value)) (looks_at_record at value into))
  pub opens_record : (x : Held) (instr : Instr) (at value into word : ℕ) → protection_of (page_of at) (decode_page word) x.epoch ≡ Allowed
      → BringsTo (at_access x instr (looks_at_record at value into)) word (at_access x instr (loads_header at value into))
  pub finds_near : (x : Held) (instr : Instr) (at value into word : ℕ) (role : Role) → HasStored word value role → (page_of at == page_of (at + (value + 1))) ≡ true
      → BringsTo (at_access x instr (loads_header at value into)) word (at_access x instr (loads_value at value role into))
  pub finds_far : (x : Held) (instr : Instr) (at value into word : ℕ) (role : Role) → HasStored word value role → (page_of at == page_of (at + (value + 1))) ≡ false
      → BringsTo (at_access x instr (loads_header at value into)) word (at_access x instr (looks_at_value at value role into))
  pub opens_value : (x : Held) (instr : Instr) (at value into word : ℕ) (role : Role) → protection_of (page_of (at + (value + 1))) (decode_page word) x.epoch ≡ Allowed
      → BringsTo (at_access x instr (looks_at_value at value role into)) word (at_access x instr (loads_value at value role into))
