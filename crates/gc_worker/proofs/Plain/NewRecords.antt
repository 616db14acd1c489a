-- A worker that executes an instruction which makes a record: the record's header, and the pages that it needs.
use Rattle.std.proofs.Common.{◌≡◌, ℕ, ◌+◌, ◌<◌, ◌≤◌, refl, Some, None, Result, Ok, ap, subst, ◌∙◌, arith}
use Rattle.std.proofs.lemmas.List.{length-replicate}
use Rattle.std.specs.Bool.{⊤}
use Rattle.std.specs.Option.{option_and_then, option_map}
use Rattle.std.specs.Result.{IfOk}
use Rattle.plain_state.specs.declared.end.End.{End}
use Rattle.plain_state.specs.declared.kind.Kind.{Kind}
use Rattle.plain_state.specs.declared.kind.Kind.TheVariants.{Fields, Mixed, Weak}
use Rattle.heap_words.specs.declared.kind.Kind.TheVariants as headers
use Rattle.plain_state.specs.declared.sizes.TheConstants.{LONGEST_RECORD}
use Rattle.plain_state.specs.declared.value.Value.{Value}
use Rattle.plain_state.specs.Layout.{values_at, words_behind}
use Rattle.plain_state.specs.Operation.{applied}
use Rattle.plain_state.specs.State.{Mutator}
use Rattle.mutator_asm.specs.declared.instr.Instr.{Instr}
use Rattle.mutator_asm.specs.declared.instr.Instr.TheVariants as instrs
use Rattle.plain_heap.specs.declared.action.Action.{Action}
use Rattle.plain_heap.specs.declared.action.Action.TheVariants.{Makes}
use Rattle.plain_heap.specs.Action.{action}
use Rattle.plain_heap.specs.Step.{new_record, record_made, pages_of}
use Rattle.plain_heap.proofs.Calls.Named.{FitsKind, FillsKind, Spells, Names, named}
use Rattle.plain_heap.proofs.Calls.CallOutcomes.{computed}
use Rattle.record_layout.specs.declared.header.Header.{Header}
use Rattle.record_layout.proofs.Rereading.{header_in-header_says}
use Rattle.alloc_end.specs.Place.{size_of, pages_for}
use Rattle.alloc_end.specs.Soundness.{HoldsFields, HoldsTargetAndLink}
use Rattle.heap_state.specs.Memory.FieldSpan.{fields_end}
use Rattle.heap_state.specs.Invariant.Ghost.{header_kind, header_len}
use Rattle.heap_state.proofs.Records.Layouts.{values_behind_header}
use Rattle.gc_worker.specs.Workers.Fits.{Fits, IsMaking}
use Rattle.gc_worker.specs.Workers.Held.{Held, making_for, header_of, header_for, fields_of, fields_made, fields_for, pages_asked, pages_needed}
use Rattle.gc_worker.specs.Workers.Knows.{kind_with}
use Rattle.gc_worker.specs.Plain.Seen.{Making, making_in, seen}

-- ---- no record is too long

-- what holds of all values holds of those that an instruction spells
spelled : (i : Instr) → Spells (λ v. ⊤) ⊤ i
spelled (instrs.Li _ _) = tt
spelled _ = tt

-- a new record may have so many values, and is one of zeros unless it is a cell
pub makes_named : (q : Mutator) (i : Instr) (m : Making) (v : Value) → action q i ≡ Ok (Makes m.kind m.into m.len v) → FitsKind m.kind m.len × FillsKind (λ v. ⊤) m.kind v
makes_named q i m v is =
    subst (λ (o : Result Action End). IfOk o (Names (λ v. ⊤) ⊤ q)) is
    (named (λ v. ⊤) ⊤ q (λ r. tt) tt (λ b. tt) (λ operation a b is_a is_b. computed (applied operation a b)) i (spelled i))

-- nor is its header's length
pub header_short : (kind : Kind) (n : ℕ) → FitsKind kind n → header_len kind n ≤ LONGEST_RECORD
header_short Fields n fits = omega (arith, fits)
header_short _ n fits = omega (arith, fits)

-- it holds its fields
pub fields_held : (kind : Kind) (n : ℕ) → FitsKind kind n → fields_end kind (header_len kind n + 1) ≤ header_len kind n + 1
fields_held (Mixed fields) n fits = omega (arith, fits)
fields_held _ n fits = omega arith

holds_by : (kind : Kind) (n : ℕ) → FitsKind kind n → header_kind kind ≡ headers.Mixed → fields_of kind < header_len kind n
holds_by (Mixed fields) n fits mixed = omega (arith, fits)
holds_by _ n fits mixed = absurd (cc)

-- a cell takes three words
pub cell_size : (kind : Kind) (n : ℕ) → FitsKind kind n → kind ≡ Weak → header_len kind n + 1 ≡ 3
cell_size Weak n fits e = omega (arith, fits)
cell_size _ n fits e = absurd (cc)

header_kind_cell : (kind : Kind) → header_kind kind ≡ headers.Weak → kind ≡ Weak
header_kind_cell Weak e = refl
header_kind_cell _ e = absurd (cc)

-- its kind is the one that its header says, with its fields
pub kind_said : (kind : Kind) → kind_with (header_kind kind) (fields_of kind) ≡ kind
kind_said Fields = refl
kind_said _ = refl

-- with the header it has as many words as the plain record
pub sized : (kind : Kind) (n : ℕ) → n + (values_at kind + words_behind kind) ≡ header_len kind n + 1
sized kind n = omega (arith, values_behind_header kind)

-- ---- the record that a worker makes

module _ (x : Held) (making : IsMaking x.account x.registers x.task) where
  abbrev pub made : Making
  made = making.making

  pub made_as : making_in (action (seen x.account x.registers) making.executes.instr) ≡ Some made
  made_as = ap making_in making.executes.acts

  pub made_is : making_for x x.task ≡ Some made
  made_is = ap (making_for x) making.executes.task_is ∙ made_as

  pub fits_kind : FitsKind made.kind made.len
  fits_kind = (makes_named (seen x.account x.registers) making.executes.instr made making.value making.executes.acts).0

  -- its header
  abbrev pub header_made : Header
  header_made = record {
    kind = header_kind made.kind;
    len = header_len made.kind made.len;
    serial = x.account.serial + 1;
    mutator = x.number;
    short = header_short made.kind made.len fits_kind;
    counted = making.executes.call.serial made made_as;
  }

  pub header_is : header_for x ≡ Some header_made
  header_is = ap (option_and_then (header_of x)) made_is ∙ header_in-header_says header_made

  -- the fields that it has if it is mixed
  pub fields_is : fields_for x ≡ fields_of made.kind
  fields_is = ap fields_made made_is

  pub holds_fields : HoldsFields header_made (fields_for x)
  holds_fields mixed = let e = fields_is in let h = holds_by made.kind made.len fits_kind mixed in omega (arith, e, h)

  -- a cell holds its target and its link
  pub holds_target : HoldsTargetAndLink header_made
  holds_target weak = let e = header_kind_cell made.kind weak in let z = cell_size made.kind made.len fits_kind e in omega (arith, z)

  -- the pages that it needs
  pub asked_is : pages_needed x ≡ pages_for (size_of header_made)
  asked_is = ap pages_asked header_is

  -- they are those of the plain machine's record
  pub plain_pages : (q : Mutator) (v : Value) → action q making.executes.instr ≡ Ok (Makes made.kind made.into made.len v)
      → option_map pages_of (new_record q making.executes.instr) ≡ Some (pages_for (size_of header_made))
  plain_pages q v is =
      ap (λ (o : Result Action End). option_map pages_of (record_made o)) is
      ∙ ap (λ (n : ℕ). Some (pages_for (n + (values_at made.kind + words_behind made.kind)))) (length-replicate made.len v) ∙ ap (λ (n : ℕ). Some (pages_for n)) (sized made.kind made.len)

-- a worker that makes a record has its header
pub makes_header : (n mutators k : ℕ) (x : Held) (f : Fits n mutators k x) (making : IsMaking x.account x.registers x.task) → header_for x ≡ None → ⊥
makes_header n mutators k x f making none = let e = header_is x making in cc
