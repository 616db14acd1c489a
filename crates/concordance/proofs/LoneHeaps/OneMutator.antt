-- The histories of a heap that has one mutator: whose calls they are, and what a flip since the last of them finds.
use Rattle.std.proofs.Common.{◌≡◌, ℕ, Bool, true, false, cond, ◌==◌, List, [], ◌∷◌, length, refl, ap, sym, ◌∙◌, subst, arith, eq-eqb}
use Rattle.std.proofs.lemmas.List.{length-replicate}
use Rattle.std.proofs.lemmas.Option.{slice_get_within}
use Rattle.plain_state.specs.State.{Plain}
use Rattle.heap_laws.specs.Opening.{opening_mutator}
use Rattle.gc_worker.specs.declared.calls.call.Call.{Call}
use Rattle.gc_worker.specs.declared.calls.entry.Entry.{Entry}
use Rattle.gc_worker.specs.declared.calls.entry.Entry.TheVariants.{Made, Exchanged, Emptied}
use Rattle.gc_worker.specs.History.Legal.{IsLegal, after_all, after_call, calls_of}
use Rattle.gc_worker.specs.History.Tally.{Tally, after_entry, tally}
use Rattle.gc_worker.specs.Plain.Answer.{ComesTo, with_emptied}
use Rattle.gc_worker.proofs.History.Extensions.{as_many}
use Rattle.ael_threads.specs.Alone.{alone_history}
use Rattle.ael_threads.specs.Histories.{Each, opening_tally}
use Rattle.ael_threads.specs.Unread.{EachCall}
use Rattle.concordance.specs.NoCells.{HasNoCells, MakesNoCell}
use Rattle.concordance.specs.OneMutator.{LoneFlipsAreNow, LoneHistories}
use Rattle.concordance.proofs.NoCells.{call_none, emptied_none, emptied_same, opening_none}

-- ---- whose calls they are

-- each call is of mutator 0
pub by_first : (p : Plain) (c : Call) → length p.mutators ≡ 1 → ComesTo p c.by c.task c.did → 0 ≡ c.by
by_first p c one comes = let within = slice_get_within p.mutators c.by comes.mutator comes.is in omega (arith, within, one)

pub one_still : (p : Plain) (c : Call) → length p.mutators ≡ 1 → length (after_call p c).mutators ≡ 1
one_still p c one = as_many p (Made c ∷ []) ∙ one

first_is : (p : Plain) (c : Call) → length p.mutators ≡ 1 → ComesTo p c.by c.task c.did → (c.by == 0) ≡ true
first_is p c one comes = eq-eqb c.by 0 (sym (by_first p c one comes))

pub lone_histories : LoneHistories
lone_histories p [] one none each legal = refl
lone_histories p (Made c ∷ es) one none each legal =
    lone_histories (after_call p c) es (one_still p c one) (call_none p c each.0 none) each.1 legal.1
    ∙ ap (λ (b : Bool). after_all p (alone_history (cond b (c ∷ calls_of 0 es) (calls_of 0 es)))) (sym (first_is p c one legal.0))
lone_histories p (Exchanged by asked ∷ es) one none each legal = lone_histories p es one none each legal
lone_histories p (Emptied cells ∷ es) one none each legal =
    let same = emptied_same p none cells in
    ap (λ (z : Plain). after_all z es) same ∙ lone_histories p es one none each (subst (λ (z : Plain). IsLegal z es) same legal)

-- a fact of each call of the mutator is one of each call
pub each_call : (P : Call → Type 0) (p : Plain) (log : List Entry) → length p.mutators ≡ 1 → IsLegal p log → Each P (calls_of 0 log) → EachCall P log
each_call P p [] one legal all = tt
each_call P p (Made c ∷ es) one legal all =
    let both : Each P (c ∷ calls_of 0 es) = subst (λ (b : Bool). Each P (cond b (c ∷ calls_of 0 es) (calls_of 0 es))) (first_is p c one legal.0) all in
    (both.0, each_call P (after_call p c) es (one_still p c one) legal.1 both.1)
each_call P p (Exchanged by asked ∷ es) one legal all = each_call P p es one legal all
each_call P p (Emptied cells ∷ es) one legal all = each_call P (with_emptied p cells) es one legal all

-- ---- a flip since the last call

not_since : (by : ℕ) (was : Bool) → 0 ≡ by → cond (0 == by) false was ≡ true → ⊥
not_since by was e since = cc (eq-eqb 0 by e)

now_after : (t : Tally) (log : List Entry) → length t.now.mutators ≡ 1 → HasNoCells t.now → EachCall MakesNoCell log → IsLegal t.now log → (t.since 0 ≡ true → t.flip ≡ t.now) → (tally t log).since 0 ≡ true → (tally t log).flip ≡ (tally t log).now
now_after t [] one none each legal h = h
now_after t (Made c ∷ es) one none each legal h =
    now_after (after_entry t (Made c)) es (one_still t.now c one) (call_none t.now c each.0 none) each.1 legal.1 (λ since. absurd (not_since c.by (t.since 0) (by_first t.now c one legal.0) since))
now_after t (Exchanged by asked ∷ es) one none each legal h = now_after (after_entry t (Exchanged by asked)) es one none each legal (λ since. refl)
now_after t (Emptied cells ∷ es) one none each legal h =
    now_after (after_entry t (Emptied cells)) es one (emptied_none t.now none cells) each legal (λ since. h since ∙ sym (emptied_same t.now none cells))

pub apart : false ≡ true → ⊥
apart e = cc

pub lone_flips_are_now : LoneFlipsAreNow
lone_flips_are_now plan log one each legal = now_after (opening_tally plan) log (length-replicate plan.mutators opening_mutator ∙ one) (opening_none plan.mutators) each legal (λ e. absurd (apart e))
