-- What a step of a lone mutator makes of the count of its executed instructions, and of its end.
use Rattle.std.proofs.Common.{◌≡◌, ℕ, ◌+◌, ◌<◌, List, [], ◌∷◌, length, slice_get, Some, None, Result, Ok, Err, refl, sym, ap, subst, ◌∙◌, arith}
use Rattle.std.specs.Prelude.{IsOk}
use Rattle.std.specs.Result.{IfOk}
use Rattle.std.proofs.lemmas.Option.{same_Some}
use Rattle.plain_state.specs.declared.end.End.{End}
use Rattle.plain_state.specs.State.{Mutator, Plain}
use Rattle.plain_state.proofs.Elements.{slice_get-set_same}
use Rattle.plain_heap.specs.Call.{After, call}
use Rattle.plain_heap.specs.Step.{settled}
use Rattle.plain_heap.proofs.Calls.CountedCalls.{Went, call-went}
use Rattle.heap_state.specs.Meaning.Values.{Accounts}
use Rattle.gc_worker.specs.declared.task.Task.{Task}
use Rattle.gc_worker.specs.declared.task.Task.TheVariants.{Calls, Stops}
use Rattle.gc_worker.specs.Plain.Answer.{ComesTo, after_answer}
use Rattle.gc_worker.specs.Laws.Between.{IsSo}
use Rattle.gc_worker.specs.Laws.Step.{Heap, held_at}
use Rattle.gc_worker.specs.declared.calls.did.Did.TheVariants.{Done}

-- its plain mutator, with the same account
pub record HasPlain (h : Heap) (p : Plain) (q : Mutator) : Type 0 where
  pub is : slice_get p.mutators 0 ≡ Some q
  pub account : Accounts p.heap 0 (held_at h 0).account q

first_there : (ks : List Mutator) → length ks ≡ 1 → (q : Mutator) × (slice_get ks 0 ≡ Some q)
first_there [] one = absurd (omega (arith, one))
first_there (q ∷ ks) one = (q, refl)

plain_one : (h : Heap) (p : Plain) → IsSo h p → h.mutators ≡ 1 → (q : Mutator) × HasPlain h p q
plain_one h p so alone =
    let first = first_there p.mutators (so.as_many ∙ alone) in
    (first.0, record { is = first.1; account = (so.mutators 0 first.0 first.1).account })

module _ (h later : Heap) (p : Plain) (so : IsSo h p) (alone : h.mutators ≡ 1) (alone_later : later.mutators ≡ 1) where
  -- ---- where the plain mutators stay

  module _ (p' : Plain) (stay : p'.mutators ≡ p.mutators) (so_later : IsSo later p') where
    abbrev was : (q : Mutator) × HasPlain h p q
    was = plain_one h p so alone

    abbrev now : (q : Mutator) × HasPlain later p' q
    now = plain_one later p' so_later alone_later

    same : now.0 ≡ was.0
    same = same_Some now.0 was.0 (sym now.1.is ∙ (ap (λ (ks : List Mutator). slice_get ks 0) stay ∙ was.1.is))

    pub executes_nothing : (held_at later 0).account.executed ≡ (held_at h 0).account.executed
    executes_nothing = now.1.account.executed ∙ (ap (λ (q : Mutator). q.executed) same ∙ sym was.1.account.executed)

    pub ends_not : (held_at h 0).account.end ≡ None → (held_at later 0).account.end ≡ None
    ends_not no_end = now.1.account.end ∙ (ap (λ (q : Mutator). q.end) same ∙ (sym was.1.account.end ∙ no_end))

  -- ---- after an effect

  -- one instruction more was executed, and there is no end
  pub record ExecutesOne : Type 0 where
    pub one_more : (held_at later 0).account.executed ≡ (held_at h 0).account.executed + 1
    pub no_end : (held_at later 0).account.end ≡ None

  by_call : (q : Mutator) → slice_get p.mutators 0 ≡ Some q → q.end ≡ None → (r : Result After End) → IfOk r (λ a. Went q a.mutator) → IsOk r → IsSo later (settled p 0 q r) → ExecutesOne
  by_call q is running (Ok a) went ok so_later =
      let was = plain_one h p so alone in
      let now = plain_one later (settled p 0 q (Ok a)) so_later alone_later in
      let before = same_Some was.0 q (sym was.1.is ∙ is) in
      let within : 0 < length p.mutators = (let n = so.as_many in omega (arith, n, alone)) in
      let after = same_Some now.0 a.mutator (sym now.1.is ∙ slice_get-set_same p.mutators 0 a.mutator within) in
      record {
        one_more = now.1.account.executed ∙ (ap (λ (k : Mutator). k.executed) after ∙ (went.executed ∙ ap (λ (n : ℕ). n + 1) (ap (λ (k : Mutator). k.executed) (sym before) ∙ sym was.1.account.executed)));
        no_end = now.1.account.end ∙ (ap (λ (k : Mutator). k.end) after ∙ (went.going ∙ running));
      }
  by_call q is running (Err why) went ok so_later = absurd (cc)

  pub executes_one : (task : Task) → ComesTo p 0 task Done → IsSo later (after_answer p 0 task Done (slice_get p.mutators 0)) → ExecutesOne
  executes_one (Calls instr) comes so_later =
      let after = ap (after_answer p 0 (Calls instr) Done) comes.is in
      by_call comes.mutator comes.is comes.no_end (call 0 p.heap comes.mutator instr) (call-went 0 p.heap comes.mutator instr) comes.may (subst (IsSo later) after so_later)
  executes_one (Stops end) comes so_later = absurd comes.may
