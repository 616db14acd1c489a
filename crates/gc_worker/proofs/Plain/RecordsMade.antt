-- The record that an instruction makes: `new`, `raw` and `mix` make one, of the length that their operands name, `weak` makes a cell, and no other does.
use Rattle.std.proofs.Common.{◌≡◌, ℕ, ◌+◌, true, false, Option, Some, None, Result, Ok, Err, refl, ap, sym, subst, ◌∙◌}
use Rattle.std.specs.Bool.{⊤}
use Rattle.std.specs.Result.{IfOk}
use Rattle.mutator_asm.specs.declared.operand.Operand.{Operand}
use Rattle.mutator_asm.specs.declared.instr.Instr.{Instr}
use Rattle.mutator_asm.specs.declared.instr.Instr.TheVariants as instrs
use Rattle.plain_state.specs.declared.end.End.{End}
use Rattle.plain_state.specs.declared.kind.Kind.{Kind}
use Rattle.plain_state.specs.declared.kind.Kind.TheVariants as kinds
use Rattle.plain_state.specs.declared.value.Identity.{Identity}
use Rattle.plain_state.specs.declared.value.Value.{Value}
use Rattle.plain_state.specs.declared.value.Value.TheVariants.{Number, Reference}
use Rattle.plain_state.specs.State.{Mutator}
use Rattle.plain_heap.specs.declared.action.Action.{Action}
use Rattle.plain_heap.specs.declared.action.Action.TheVariants.{Makes}
use Rattle.plain_heap.specs.Action.{◌>>=◌, action, allocates, length_of, mixed_length, mixes, operand, reference_in, register}
use Rattle.plain_heap.proofs.Calls.ActionsOf.{IsActionOf, is_action_of, makes_record}
use Rattle.heap_words.specs.Word.{pointer_word}
use Rattle.alloc_end.specs.declared.run.Run.{Run}
use Rattle.gc_worker.specs.declared.task.Task.{Task}
use Rattle.gc_worker.specs.Plain.Seen.{Making, cell_made, making_in, mixed_made, mixed_named, register_for}
use Rattle.gc_worker.specs.Workers.Fits.{IsMaking}
use Rattle.gc_worker.specs.Workers.Held.{Held, making_for}
use Rattle.gc_worker.specs.Steps.Stepped.{IsCall, instr_due, seen_by}
use Rattle.gc_worker.specs.Steps.Turned.{loads, with_record}

-- the action that makes a mixed record of these fields and this length
abbrev made_mixed : (d : ℕ) → ℕ × ℕ → Result Action End
made_mixed d m = Ok (Makes (kinds.Mixed m.0) d m.1 (Number 0))

-- `mix` makes a record of the fields and the length that its operands name
pub mixed_makes : (q : Mutator) (d : ℕ) (fields raw : Operand) → mixes q d fields raw ≡ (mixed_named q fields raw >>= (λ m. Ok (Makes (kinds.Mixed m.0) d m.1 (Number 0))))
mixed_makes q d fields raw = by_fields (operand q fields)
  where
    by_length : (f : ℕ) (o : Result ℕ End) → (o >>= (λ n. Ok (Makes (kinds.Mixed f) d n (Number 0)))) ≡ ((o >>= (λ n. Ok (f, n))) >>= made_mixed d)
    by_length f (Ok n) = refl
    by_length f (Err why) = refl

    by_raw : (f : ℕ) (o : Result ℕ End) → (o >>= (λ r. mixed_length f r >>= (λ n. Ok (Makes (kinds.Mixed f) d n (Number 0))))) ≡ ((o >>= (λ r. mixed_length f r >>= (λ n. Ok (f, n)))) >>= made_mixed d)
    by_raw f (Ok r) = by_length f (mixed_length f r)
    by_raw f (Err why) = refl

    by_fields : (o : Result ℕ End) → (o >>= (λ f. operand q raw >>= (λ r. mixed_length f r >>= (λ n. Ok (Makes (kinds.Mixed f) d n (Number 0))))))
        ≡ ((o >>= (λ f. operand q raw >>= (λ r. mixed_length f r >>= (λ n. Ok (f, n))))) >>= made_mixed d)
    by_fields (Ok f) = by_raw f (operand q raw)
    by_fields (Err why) = refl

-- what an instruction makes, as the code works it out
abbrev pub makes_of : Mutator → Instr → Option Making
makes_of q (instrs.New d x) = making_in (allocates q kinds.Fields d x)
makes_of q (instrs.Raw d x) = making_in (allocates q kinds.Raw d x)
makes_of q (instrs.Mix d fields raw) = mixed_made q d fields raw
makes_of q (instrs.Weak d a) = cell_made q d a
makes_of q instr = None

none_made : (instr : Instr) (o : Result Action End) → makes_record instr ≡ false → IfOk o (IsActionOf instr) → making_in o ≡ None
none_made instr (Ok (Makes kind d n v)) other is = absurd (let both : true ≡ false = sym is.0 ∙ other in cc)
none_made instr _ other is = refl

pub made_of : (q : Mutator) (instr : Instr) → making_in (action q instr) ≡ makes_of q instr
unfolding action
made_of q (instrs.New d x) = refl
made_of q (instrs.Raw d x) = refl
made_of q (instrs.Mix d fields raw) = ap making_in (mixed_makes q d fields raw)
made_of q (instrs.Weak d a) = refl
made_of q instr = none_made instr (action q instr) refl (is_action_of q instr)

-- ---- the register that leads to it

-- what holds of the record, if there is one
abbrev IfMade : (Making → Type 0) → Option Making → Type 0
IfMade P (Some m) = P m
IfMade P None = ⊤

made_then : {A : Type 0} (P : Making → Type 0) (o : Result A End) (f : A → Result Action End) → ((a : A) → IfMade P (making_in (f a))) → IfMade P (making_in (o >>= f))
made_then P (Ok a) f h = h a
made_then P (Err why) f h = tt

allocates_made : (P : Making → Type 0) (q : Mutator) (kind : Kind) (d : ℕ) (x : Operand) → ((len : ℕ) → P (record { kind = kind; into = d; len = len })) → IfMade P (making_in (allocates q kind d x))
allocates_made P q kind d x h = made_then P (operand q x) _ (λ n. made_then P (length_of n) _ (λ len. h len))

-- it is for this register
abbrev IsFor : ℕ → Making → Type 0
IsFor d m = m.into ≡ d

makes_for : (q : Mutator) (instr : Instr) → IfMade (IsFor (register_for instr)) (makes_of q instr)
makes_for q (instrs.New d x) = allocates_made (IsFor d) q kinds.Fields d x (λ len. refl)
makes_for q (instrs.Raw d x) = allocates_made (IsFor d) q kinds.Raw d x (λ len. refl)
makes_for q (instrs.Mix d fields raw) = made_then (IsFor d) (mixed_named q fields raw) _ (λ m. refl)
makes_for q (instrs.Weak d a) = made_then (IsFor d) (reference_in (register q a)) _ (λ i. refl)
makes_for q instr = tt

-- who makes a record executes an instruction
pub making_is_call : (x : Held) → IsMaking x.account x.registers x.task → IsCall x.task
making_is_call x m = subst IsCall (sym m.executes.task_is) tt

-- the register that the instruction names for its record leads to it
pub record_leads : (x : Held) (run : Run) (at : ℕ) → IsMaking x.account x.registers x.task
    → with_record x run at (making_for x x.task) ≡ loads (record x { account = record x.account { serial = x.account.serial + 1 }; run = Some run }) (register_for (instr_due x.task)) (pointer_word at)
record_leads x run at m =
    let e = m.executes in
    let q = seen_by x in
    let placed : Held = record x { account = record x.account { serial = x.account.serial + 1 }; run = Some run } in
    let made : making_in (action q e.instr) ≡ Some m.making = ap making_in e.acts in
    let leads : IsFor (register_for e.instr) m.making = subst (IfMade (IsFor (register_for e.instr))) (sym (made_of q e.instr) ∙ made) (makes_for q e.instr) in
    ap (λ (t : Option Task). with_record x run at (making_for x t)) e.task_is
    ∙ ap (with_record x run at) made
    ∙ ap (λ (d : ℕ). loads placed d (pointer_word at)) (leads ∙ ap (λ (t : Option Task). register_for (instr_due t)) (sym e.task_is))

-- ---- cells

-- if it is a cell, the instruction is a `weak`
abbrev IsByWeak : Instr → Making → Type 0
IsByWeak instr m = m.kind ≡ kinds.Weak → (d : ℕ) × (a : ℕ) × (instr ≡ instrs.Weak d a)

weak_makes : (q : Mutator) (instr : Instr) → IfMade (IsByWeak instr) (makes_of q instr)
weak_makes q (instrs.New d x) = allocates_made (IsByWeak (instrs.New d x)) q kinds.Fields d x (λ len e. absurd (cc))
weak_makes q (instrs.Raw d x) = allocates_made (IsByWeak (instrs.Raw d x)) q kinds.Raw d x (λ len e. absurd (cc))
weak_makes q (instrs.Mix d fields raw) = made_then (IsByWeak (instrs.Mix d fields raw)) (mixed_named q fields raw) _ (λ m e. absurd (cc))
weak_makes q (instrs.Weak d a) = made_then (IsByWeak (instrs.Weak d a)) (reference_in (register q a)) _ (λ i e. (d, a, refl))
weak_makes q instr = tt

-- the instruction names the register that refers to the record to which the cell is to refer
pub record NamesTarget (q : Mutator) (instr : Instr) (v : Value) : Type 0 where
  pub into : ℕ
  pub named : ℕ
  pub is : instr ≡ instrs.Weak into named
  pub target : Identity
  pub held : register q named ≡ Reference target
  pub value : v ≡ Reference target

pub names_target : (q : Mutator) (instr : Instr) (m : Making) (v : Value) → action q instr ≡ Ok (Makes m.kind m.into m.len v) → m.kind ≡ kinds.Weak → NamesTarget q instr v
unfolding action
names_target q instr m v acts weak =
    let t = subst (IfMade (IsByWeak instr)) (sym (made_of q instr) ∙ ap making_in acts) (weak_makes q instr) weak in
    by_register t.0 t.1 t.2 (register q t.1) refl (ap (action q) (sym t.2) ∙ acts)
  where
    same_value : (d : ℕ) (i : Identity) → ◌≡◌ {A = Result Action End} (Ok (Makes kinds.Weak d 1 (Reference i))) (Ok (Makes m.kind m.into m.len v)) → v ≡ Reference i
    same_value d i e = cc

    by_register : (d a : ℕ) → instr ≡ instrs.Weak d a → (u : Value) → register q a ≡ u → (reference_in u >>= (λ i. Ok (Makes kinds.Weak d 1 (Reference i)))) ≡ Ok (Makes m.kind m.into m.len v) → NamesTarget q instr v
    by_register d a is (Number n) holds e = absurd (cc)
    by_register d a is (Reference i) holds e = record { into = d; named = a; is = is; target = i; held = holds; value = same_value d i e }
