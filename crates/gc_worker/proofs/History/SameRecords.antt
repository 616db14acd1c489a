-- A mutator whose registers show those of its plain one makes the record that the plain one makes.
use Rattle.std.proofs.Common.{◌≡◌, ℕ, ◌<◌, ◌&&◌, Bool, true, false, length, Result, Ok, Err, slice_index, refl, sym, ap, ◌∙◌, arith}
use Rattle.std.specs.Prelude.{⊤, IsTrue}
use Rattle.std.specs.Result.{IfOk}
use Rattle.std.proofs.lemmas.Bool.{and_parts, ltb-true}
use Rattle.std.proofs.lemmas.List.{get_or-map}
use Rattle.std.proofs.lemmas.Option.{get_or_from_slice_get}
use Rattle.heap_words.specs.Decoded.{Decoded, NumberWord, PointerWord, decode}
use Rattle.plain_state.specs.declared.end.End.{End}
use Rattle.plain_state.specs.declared.kind.Kind.{Kind}
use Rattle.plain_state.specs.declared.kind.Kind.TheVariants.{Fields, Raw, Mixed, Weak}
use Rattle.plain_state.specs.declared.sizes.TheConstants.{REGISTERS}
use Rattle.plain_state.specs.declared.value.Identity.{Identity}
use Rattle.plain_state.specs.declared.value.Value.{Value}
use Rattle.plain_state.specs.declared.value.Value.TheVariants.{Number, Reference}
use Rattle.plain_state.specs.State.{Mutator}
use Rattle.mutator_asm.specs.declared.instr.Instr.{Instr}
use Rattle.mutator_asm.specs.declared.instr.Instr.TheVariants as instrs
use Rattle.mutator_asm.specs.declared.operand.Operand.{Operand}
use Rattle.mutator_asm.specs.declared.operand.Operand.TheVariants as operands
use Rattle.mutator_asm.specs.Program.{is_operand, is_register, is_valid}
use Rattle.plain_heap.specs.declared.action.Action.{Action}
use Rattle.plain_heap.specs.declared.action.Action.TheVariants.{Makes}
use Rattle.plain_heap.specs.Action.{◌>>=◌, action, allocates, length_of, mixed_length, mixes, as_number, operand, reference_in, register}
use Rattle.plain_heap.proofs.Calls.ActionsOf.{IsActionOf, is_action_of, makes_record}
use Rattle.plain_heap.proofs.Calls.CallOutcomes.{if_ok-is}
use Rattle.gc_worker.specs.Laws.Between.{ShowsRegisters}
use Rattle.gc_worker.specs.Workers.Fits.{IsMaking}
use Rattle.gc_worker.specs.Workers.Held.{Held}
use Rattle.record_access.specs.Seen.{IsValueAs, IsValueWord, seen_as, value_seen}
use Rattle.gc_worker.specs.Plain.Seen.{seen}

-- a record that is made is made there too, of whatever value
abbrev IsSameRecord : Result Action End → Action → Type 0
IsSameRecord theirs (Makes kind d n v) = (w : Value) × (theirs ≡ Ok (Makes kind d n w))
IsSameRecord theirs act = ⊤

module _ (x : Held) (q : Mutator) (eight : length x.registers ≡ REGISTERS) (values : (r : ℕ) → r < REGISTERS → IsValueWord (slice_index x.registers r)) (shows : ShowsRegisters x.registers q) where
  -- as the worker sees it
  abbrev sight : Mutator
  sight = seen x.account x.registers

  abbrev word : ℕ → ℕ
  word r = slice_index x.registers r

  sees : (r : ℕ) → r < REGISTERS → register sight r ≡ value_seen (word r)
  sees r small = get_or-map value_seen x.registers r 0 (Number 0) (omega (arith, eight, small))

  number_of : (r n : ℕ) → r < REGISTERS → as_number (register sight r) ≡ Ok n → as_number (register q r) ≡ Ok n
  number_of r n small e = by_word (decode (word r)) refl (values r small) (sym (ap as_number (sees r small)) ∙ e)
    where
      by_word : (d : Decoded) → decode (word r) ≡ d → IsValueAs d → as_number (seen_as d) ≡ Ok n → as_number (register q r) ≡ Ok n
      by_word (NumberWord m) is value e = ap as_number (get_or_from_slice_get q.registers r (Number m) (Number 0) (shows.numbers r m small is)) ∙ e
      by_word (PointerWord a) is value e = absurd (let never = e in cc)
      by_word _ is value e = absurd value

  operand_of : (y : Operand) (n : ℕ) → is_operand y ≡ true → operand sight y ≡ Ok n → operand q y ≡ Ok n
  operand_of (operands.Reg r) n valid e = number_of r n (ltb-true r REGISTERS valid) e
  operand_of (operands.Number m) n valid e = e

  refers_of : (r : ℕ) (i : Identity) → r < REGISTERS → reference_in (register sight r) ≡ Ok i → (j : Identity) × (reference_in (register q r) ≡ Ok j)
  refers_of r i small e = by_word (decode (word r)) refl (values r small) (sym (ap reference_in (sees r small)) ∙ e)
    where
      by_word : (d : Decoded) → decode (word r) ≡ d → IsValueAs d → reference_in (seen_as d) ≡ Ok i → (j : Identity) × (reference_in (register q r) ≡ Ok j)
      by_word (PointerWord a) is value e = let p = shows.pointers r a small is in (p.0, ap reference_in (get_or_from_slice_get q.registers r (Reference p.0) (Number 0) p.1))
      by_word (NumberWord m) is value e = absurd (let never = e in cc)
      by_word _ is value e = absurd value

  -- ---- by instructions

  allocated : (kind : Kind) (d : ℕ) (y : Operand) → is_operand y ≡ true → IfOk (allocates sight kind d y) (IsSameRecord (allocates q kind d y))
  allocated kind d y valid = by_operand (operand sight y) refl
    where
      by_length : (o : Result ℕ End) → IfOk (o >>= (λ len. Ok (Makes kind d len (Number 0)))) (IsSameRecord (o >>= (λ len. Ok (Makes kind d len (Number 0)))))
      by_length (Ok len) = (Number 0, refl)
      by_length (Err why) = tt

      by_operand : (o : Result ℕ End) → operand sight y ≡ o → IfOk (o >>= (λ n. length_of n >>= (λ len. Ok (Makes kind d len (Number 0))))) (IsSameRecord (allocates q kind d y))
      by_operand (Ok n) is = rw (operand_of y n valid is) (by_length (length_of n))
      by_operand (Err why) is = tt

  -- a mixed record of so many fields and of this length, and of so many fields and raw words
  abbrev of_length : (d f : ℕ) → Result ℕ End → Result Action End
  of_length d f o = o >>= (λ n. Ok (Makes (Mixed f) d n (Number 0)))

  abbrev of_raw : (d f : ℕ) → Result ℕ End → Result Action End
  of_raw d f o = o >>= (λ r. of_length d f (mixed_length f r))

  mixed : (d : ℕ) (y z : Operand) → is_operand y ≡ true → is_operand z ≡ true → IfOk (mixes sight d y z) (IsSameRecord (mixes q d y z))
  mixed d y z valid_y valid_z = by_fields (operand sight y) refl
    where
      by_length : (f : ℕ) (o : Result ℕ End) → IfOk (of_length d f o) (IsSameRecord (of_length d f o))
      by_length f (Ok n) = (Number 0, refl)
      by_length f (Err why) = tt

      by_raw : (f : ℕ) (o : Result ℕ End) → operand sight z ≡ o → IfOk (of_raw d f o) (IsSameRecord (of_raw d f (operand q z)))
      by_raw f (Ok r) is = rw (operand_of z r valid_z is) (by_length f (mixed_length f r))
      by_raw f (Err why) is = tt

      by_fields : (o : Result ℕ End) → operand sight y ≡ o → IfOk (o >>= (λ f. of_raw d f (operand sight z))) (IsSameRecord (mixes q d y z))
      by_fields (Ok f) is = rw (operand_of y f valid_y is) (by_raw f (operand sight z) refl)
      by_fields (Err why) is = tt

  cell : (d a : ℕ) → a < REGISTERS → IfOk (reference_in (register sight a) >>= (λ i. Ok (Makes Weak d 1 (Reference i)))) (IsSameRecord (reference_in (register q a) >>= (λ i. Ok (Makes Weak d 1 (Reference i)))))
  cell d a small = by_reference (reference_in (register sight a)) refl
    where
      by_reference : (o : Result Identity End) → reference_in (register sight a) ≡ o
          → IfOk (o >>= (λ i. Ok (Makes Weak d 1 (Reference i)))) (IsSameRecord (reference_in (register q a) >>= (λ i. Ok (Makes Weak d 1 (Reference i)))))
      by_reference (Ok i) is = let r = refers_of a i small is in (Reference r.0, ap (λ (o : Result Identity End). o >>= (λ i. Ok (Makes Weak d 1 (Reference i)))) r.1)
      by_reference (Err why) is = tt

  -- what makes no record
  none_same : (theirs : Result Action End) (i : Instr) (o : Result Action End) → makes_record i ≡ false → IfOk o (IsActionOf i) → IfOk o (IsSameRecord theirs)
  none_same theirs i (Ok (Makes kind d n v)) other is = absurd (let both : true ≡ false = sym is.0 ∙ other in cc)
  none_same theirs i _ other is = tt

  second : (d : ℕ) (b : Bool) → (is_register d && b) ≡ true → b ≡ true
  second d b valid = (and_parts (is_register d) b valid).1

  makes_same : (i : Instr) → IsTrue (is_valid i) → IfOk (action sight i) (IsSameRecord (action q i))
  unfolding action
  makes_same (instrs.New d y) valid = allocated Fields d y (second d _ valid)
  makes_same (instrs.Raw d y) valid = allocated Raw d y (second d _ valid)
  makes_same (instrs.Mix d y z) valid = let l = and_parts (is_register d && is_operand y) (is_operand z) valid in mixed d y z (second d (is_operand y) l.0) l.1
  makes_same (instrs.Weak d a) valid = cell d a (ltb-true a REGISTERS (second d _ valid))
  makes_same i valid = none_same (action q i) i (action sight i) refl (is_action_of sight i)

  pub makes_its_record : (making : IsMaking x.account x.registers x.task) → (v : Value) × (action q making.executes.instr ≡ Ok (Makes making.making.kind making.making.into making.making.len v))
  makes_its_record making =
      if_ok-is (IsSameRecord (action q making.executes.instr)) (action sight making.executes.instr) (Makes making.making.kind making.making.into making.making.len making.value)
      (makes_same making.executes.instr making.executes.call.valid) making.executes.acts
