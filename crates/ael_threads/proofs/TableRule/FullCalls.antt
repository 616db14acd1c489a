-- Calls in a history: which stood there before the last step, and that a mutator keeps the end that one gave it.
use Rattle.std.proofs.Common.{◌≡◌, ◌≢◌, ◌⊎◌, ℕ, inl, inr, ⊎_elim, Some, None, List, [], ◌∷◌, ◌++◌, slice_get, refl, sym, ◌∙◌, ap}
use Rattle.std.proofs.lemmas.Option.{same_Some}
use Rattle.plain_state.specs.declared.end.End.{End}
use Rattle.plain_state.specs.State.{Mutator, Plain}
use Rattle.plain_heap.specs.Emptied.{cells_to_empty}
use Rattle.gc_worker.specs.declared.calls.call.Call.{Call}
use Rattle.gc_worker.specs.declared.calls.did.Did.{Did}
use Rattle.gc_worker.specs.declared.calls.did.Did.TheVariants.{Trap}
use Rattle.gc_worker.specs.declared.calls.entry.Entry.{Entry}
use Rattle.gc_worker.specs.declared.calls.entry.Entry.TheVariants.{Exchanged, Made, Emptied}
use Rattle.gc_worker.specs.declared.task.Task.{Task}
use Rattle.gc_worker.specs.History.Legal.{IsLegal, after_all, after_call, extra, worker_call}
use Rattle.gc_worker.specs.Plain.Answer.{ComesTo, with_emptied}
use Rattle.gc_worker.specs.Steps.Turned.{Answers, Marks, Silent, Empties, Told}
use Rattle.gc_worker.proofs.Between.Others.{answers_leave_the_others}
use Rattle.ael_threads.proofs.Lists.Elements.{not_empty}
use Rattle.ael_threads.proofs.WorkerSeats.Shown.{ended_is}

-- ---- a call in a history that went on by one step

-- it stood there before, or that step tells it
pub told_or_before : (o : Plain) (m k : ℕ) (t : Told) (task : Task) (did : Did) (front rest log : List Entry) → front ++ Made (worker_call m task did) ∷ rest ≡ log ++ extra o k t
    → ((more : List Entry) × (front ++ Made (worker_call m task did) ∷ more ≡ log)) ⊎ ((front ≡ log) × (m ≡ k) × (t ≡ Answers task did))
told_or_before o m k t task did [] rest (z ∷ zs) e = let head : Made (worker_call m task did) ≡ z = cc in inl (zs, ap (λ (entry : Entry). entry ∷ zs) head)
told_or_before o m k t task did (x ∷ xs) rest (z ∷ zs) e =
    let head : x ≡ z = cc in
    let tail : xs ++ Made (worker_call m task did) ∷ rest ≡ zs ++ extra o k t = cc in
    ⊎_elim (λ (old : (more : List Entry) × (xs ++ Made (worker_call m task did) ∷ more ≡ zs)). inl (old.0, λ i. head i ∷ old.1 i))
    (λ (new : (xs ≡ zs) × (m ≡ k) × (t ≡ Answers task did)). inr ((λ i. head i ∷ new.0 i), new.1, new.2)) (told_or_before o m k t task did xs rest zs tail)
told_or_before o m k Silent task did front rest [] e = absurd (not_empty front rest (Made (worker_call m task did)) e)
told_or_before o m k (Answers other came) task did [] rest [] e =
    let same : worker_call m task did ≡ worker_call k other came = cc in
    inr (refl, ap (λ (c : Call). c.by) same, λ i. Answers (sym same i).task (sym same i).did)
told_or_before o m k (Marks asked) task did [] rest [] e = absurd (let never : Made (worker_call m task did) ≡ Exchanged k asked = cc in cc)
told_or_before o m k Empties task did [] rest [] e = absurd (let never : Made (worker_call m task did) ≡ Emptied (cells_to_empty o) = cc in cc)
told_or_before o m k _ task did (x ∷ xs) rest [] e = absurd (not_empty xs rest (Made (worker_call m task did)) (let none : xs ++ Made (worker_call m task did) ∷ rest ≡ [] = cc in none))

-- ---- an end stays

-- a call is of no mutator that has an end
of_others : (u : Plain) (m : ℕ) (q : Mutator) (end : End) (c : Call) → slice_get u.mutators m ≡ Some q → q.end ≡ Some end → ComesTo u c.by c.task c.did → m ≢ c.by
of_others u m q end c is ended comes e =
    let same : q ≡ comes.mutator = same_Some q comes.mutator (sym is ∙ (ap (λ (j : ℕ). slice_get u.mutators j) e ∙ comes.is)) in
    let never : Some end ≡ None = sym ended ∙ (ap (λ (k : Mutator). k.end) same ∙ comes.no_end) in
    cc

end_stays : (u : Plain) (m : ℕ) (q : Mutator) (end : End) (log : List Entry) → slice_get u.mutators m ≡ Some q → q.end ≡ Some end → IsLegal u log → slice_get (after_all u log).mutators m ≡ Some q
end_stays u m q end [] is ended legal = is
end_stays u m q end (Exchanged by asked ∷ es) is ended legal = end_stays u m q end es is ended legal
end_stays u m q end (Emptied cells ∷ es) is ended legal = end_stays (with_emptied u cells) m q end es is ended legal
end_stays u m q end (Made c ∷ es) is ended legal =
    end_stays (after_call u c) m q end es ((answers_leave_the_others [] u c.by (Answers c.task c.did)).mutator m (of_others u m q end c is ended legal.0) ∙ is) ended legal.1

-- who was given an end by a call has it after the history
pub ended_after : (p : Plain) (front rest : List Entry) (m : ℕ) (task : Task) (end : End) → IsLegal p (front ++ Made (worker_call m task (Trap end)) ∷ rest)
    → (q : Mutator) × (slice_get (after_all p (front ++ Made (worker_call m task (Trap end)) ∷ rest)).mutators m ≡ Some q) × (q.end ≡ Some end)
ended_after p [] rest m task end legal =
    let k : Mutator = legal.0.mutator in
    let c : Call = worker_call m task (Trap end) in
    let with_end : Mutator = record k { end = Some end } in
    (with_end, end_stays (after_call p c) m with_end end rest (ended_is p m k end legal.0.is task) refl legal.1, refl)
ended_after p (Made d ∷ es) rest m task end legal = ended_after (after_call p d) es rest m task end legal.1
ended_after p (Exchanged by asked ∷ es) rest m task end legal = ended_after p es rest m task end legal
ended_after p (Emptied cells ∷ es) rest m task end legal = ended_after (with_emptied p cells) es rest m task end legal
