-- Lengths of records, which never change.
use Rattle.std.proofs.Common.{◌≡◌, ℕ, ◌<◌, [], length, Option, Some, None, refl, ap, sym, ◌∙◌, arith}
use Rattle.std.specs.Option.{option_map, option_map_or}
use Rattle.plain_state.specs.declared.value.Identity.{Identity}
use Rattle.plain_state.specs.declared.value.Value.{Value}
use Rattle.plain_state.specs.declared.value.Value.TheVariants.{Number, Reference}
use Rattle.plain_state.specs.State.{Heap, Record, record_of}
use Rattle.plain_heap.specs.Call.{values_of}
use Rattle.plain_heap.specs.Records.{RecordShape, shape, shape_of}
use Rattle.ael_runtime.specs.Calling.{KeepsShapes}
use Rattle.ael_runtime.specs.Reading.{len_of}

-- a record that is there
pub record IsThere (heap : Heap) (i : Identity) : Type 0 where
  pub found : Record
  pub is : record_of heap i ≡ Some found

pub there_by_shape : (heap : Heap) (i : Identity) (known : RecordShape) → shape_of heap i ≡ Some known → (r : Record) × (record_of heap i ≡ Some r) × (shape r ≡ known)
there_by_shape heap i known has = by_record (record_of heap i) refl has
  where
    by_record : (o : Option Record) → record_of heap i ≡ o → option_map shape o ≡ Some known → (r : Record) × (record_of heap i ≡ Some r) × (shape r ≡ known)
    by_record (Some r) is e = (r, is, cc)
    by_record None is e = absurd (cc)

pub there_by_len : (heap : Heap) (i : Identity) (x : ℕ) → x < length (values_of heap i) → (r : Record) × (record_of heap i ≡ Some r)
there_by_len heap i x within = by_record (record_of heap i) refl
  where
    by_record : (o : Option Record) → record_of heap i ≡ o → (r : Record) × (record_of heap i ≡ Some r)
    by_record (Some r) is = (r, is)
    by_record None is = absurd (let none : length (values_of heap i) ≡ 0 = ap (λ (o : Option Record). length (option_map_or (λ r. r.values) o [])) is in omega (arith, within, none))

pub len_by_record : (heap : Heap) (i : Identity) (r : Record) → record_of heap i ≡ Some r → length (values_of heap i) ≡ length r.values
len_by_record heap i r is = ap (λ (o : Option Record). length (option_map_or (λ (q : Record). q.values) o [])) is

module _ (heap later : Heap) (keeps : KeepsShapes heap later) where
  -- the record is there later, of the same kind and length
  pub there_later : (i : Identity) (r : Record) → record_of heap i ≡ Some r → (q : Record) × (record_of later i ≡ Some q) × (shape q ≡ shape r)
  there_later i r is = there_by_shape later i (shape r) (keeps i (shape r) (ap (option_map shape) is))

  pub len_stays : (v : Value) (x : ℕ) → x < len_of heap v → len_of later v ≡ len_of heap v
  len_stays (Number n) x within = refl
  len_stays (Reference i) x within =
      let r = there_by_len heap i x within in
      let q = there_later i r.0 r.1 in
      len_by_record later i q.0 q.1 ∙ (ap (λ (s : RecordShape). s.len) q.2 ∙ sym (len_by_record heap i r.0 r.1))
