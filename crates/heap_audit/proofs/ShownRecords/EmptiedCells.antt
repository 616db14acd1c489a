-- A cell that the walk over the chain of copied cells may have emptied, by what the code tests.
use Rattle.std.proofs.Common.{◌≡◌, ℕ, ◌+◌, ◌^◌, ◌<◌, ◌≤◌, Bool, true, false, eqb, Option, Some, None, refl, sym, ap, ◌∙◌}
use Rattle.std.specs.Prelude.{IsTrue, nat_eq, not}
use Rattle.std.specs.Option.{option_eq}
use Rattle.std.proofs.lemmas.Bool.{eq-eqb, eqb-true}
use Rattle.std.specs.HashSet.{contains}
use Rattle.heap_words.specs.Decoded.{Decoded, NumberWord, decode, number_in}
use Rattle.plain_state.specs.Cells.{is_cell}
use Rattle.plain_state.specs.declared.kind.Kind.{Kind}
use Rattle.plain_state.specs.declared.kind.Kind.TheVariants.{Weak}
use Rattle.plain_state.specs.declared.value.Identity.{Identity}
use Rattle.plain_state.specs.declared.value.Value.{Value}
use Rattle.plain_state.specs.declared.value.Value.TheVariants.{Reference}
use Rattle.heap_state.specs.Meaning.Dump.{Dump}
use Rattle.heap_state.specs.Meaning.Represents.{IsEmptied, IsInHeap}
use Rattle.heap_state.specs.Memory.Walk.{Walked}
use Rattle.heap_state.proofs.Puts.{some_same}
use Rattle.heap_audit.specs.Copied.{AreCopied}
use Rattle.heap_audit.specs.Records.{key_of}
use Rattle.heap_audit.specs.Told.{MayHaveEmptied}
use Rattle.heap_audit.specs.declared.records.copied_records.CopiedRecords.{CopiedRecords}
use Rattle.heap_audit.proofs.ShownRecords.CopiedNames.{named_short}

number_is : (d : Decoded) (n : ℕ) → number_in d ≡ Some n → d ≡ NumberWord n
number_is (NumberWord m) n e = let s : m ≡ n = cc in ap NumberWord s
number_is _ n e = absurd (cc)

-- ---- tests

pub tests_zero : (o : Option ℕ) → option_eq eqb o (Some 0) ≡ true → o ≡ Some 0
tests_zero None e = absurd (cc)
tests_zero (Some n) e = ap {B = Option ℕ} Some (eqb-true n 0 e)

pub zero_tested : (o : Option ℕ) → o ≡ Some 0 → option_eq eqb o (Some 0) ≡ true
zero_tested None e = absurd (cc)
zero_tested (Some n) e = eq-eqb n 0 (some_same e)

pub failed : (b : Bool) → not b ≡ true → b ≡ true → ⊥
failed true e t = cc
failed false e t = cc

pub fails : (b : Bool) → (b ≡ true → ⊥) → not b ≡ true
fails true none = absurd (none refl)
fails false none = refl

-- ---- cells

pub is_weak : (k : Kind) → is_cell k ≡ true → k ≡ Weak
is_weak Weak e = refl
is_weak _ e = absurd (cc)

same_reference : (i j : Identity) → Reference i ≡ Reference j → i ≡ j
same_reference i j e = cc

module _ (d : Dump) (copied : CopiedRecords) (are : AreCopied d copied) (w : Walked) (there : IsInHeap d w) where
  -- one of those that were copied is told to have the identity
  abbrev pub Has : Identity → Type 0
  Has i = (i.serial < 2 ^ 40) × IsTrue (contains nat_eq copied.named (key_of i))

  pub emptied : (i : Identity) (v : Value) → v ≡ Reference i → number_in (decode (d.table.heap (w.at + 1))) ≡ Some 0 → MayHaveEmptied d.table
      → (copied.start ≤ w.at) × (w.at < copied.front) → (Has i → ⊥) → IsEmptied d w v
  emptied i v is empty walked lies none = record {
    copied = (are.lie w there).0 lies;
    walked = walked;
    empty = number_is (decode (d.table.heap (w.at + 1))) 0 empty;
    lost = (i, is, λ c has named. let short = named_short (d.table.heap c.at) i named in none (short, (are.named walked i short).1 (c, has, named)));
  }

  pub emptied_zero : (v : Value) → IsEmptied d w v → number_in (decode (d.table.heap (w.at + 1))) ≡ Some 0
  emptied_zero v y = ap number_in y.empty

  pub emptied_lies : (v : Value) → IsEmptied d w v → (copied.start ≤ w.at) × (w.at < copied.front)
  emptied_lies v y = (are.lie w there).1 y.copied

  pub emptied_lost : (i : Identity) (v : Value) → v ≡ Reference i → IsEmptied d w v → Has i → ⊥
  emptied_lost i v is y has =
      let same : y.lost.0 ≡ i = same_reference y.lost.0 i (sym y.lost.1 ∙ is) in
      let c = (are.named y.walked i has.0).0 has.1 in
      y.lost.2 c.0 c.1 (c.2 ∙ ap {B = Option Identity} Some (sym same))
