-- A heap that is as large as a history needs is never full in it.
use Rattle.std.proofs.Common.{◌≡◌, ℕ, ◌-◌, ◌^◌, ◌≤◌, ◌==◌, ◌⊎◌, inl, inr, ⊎_elim, Bool, true, false, cond, List, ◌∷◌, length, Some, refl, sym, ap, subst, ◌∙◌, arith, eq-eqb, ne_eqb}
use Rattle.std.proofs.lemmas.Bool.{eqb-false}
use Rattle.plain_state.specs.declared.end.End.TheVariants.{HeapFull}
use Rattle.gc_worker.specs.declared.calls.call.Call.{Call}
use Rattle.gc_worker.specs.declared.calls.did.Did.TheVariants.{Trap}
use Rattle.gc_worker.specs.declared.calls.entry.Entry.{Entry}
use Rattle.gc_worker.specs.declared.calls.entry.Entry.TheVariants.{Made}
use Rattle.gc_worker.specs.History.Large.{HasNoFullCall, IsLargeFor, MayFindFull, pages_full}
use Rattle.gc_worker.specs.History.Legal.{worker_call}
use Rattle.gc_worker.specs.History.Tally.{EachEntry, EntryIs, IsFilled, Sizes, Tally, size_now, Tasks, asked_by_task, made_next, next_task, pages_by_task, tally}
use Rattle.gc_worker.proofs.History.Counted.Sums.{sum_below-most}
use Rattle.gc_worker.proofs.History.Counted.Tallies.{entry_at}

-- what the others make next does not depend on whether a call of mutator m is still to come
next_of_others : (t : Tally) (tasks : Tasks) (c : Call) (es : List Entry) → made_next t.now tasks c.by es ≤ made_next t.now tasks c.by (Made c ∷ es)
next_of_others t tasks c es = sum_below-most (length t.now.mutators) _ _ (λ j below. either j (j == c.by) refl)
  where
    either : (j : ℕ) (b : Bool) → (j == c.by) ≡ b
        → cond b 0 (pages_by_task t.now j (next_task j es (tasks j))) ≤ cond b 0 (pages_by_task t.now j (cond (c.by == j) (Some c.task) (next_task j es (tasks j))))
    either j true same = omega arith
    either j false other =
        let not : (c.by == j) ≡ false = ne_eqb c.by j (λ e. eqb-false j c.by other (sym e)) in
        let same : pages_by_task t.now j (cond (c.by == j) (Some c.task) (next_task j es (tasks j))) ≡ pages_by_task t.now j (next_task j es (tasks j)) =
        ap (λ (b : Bool). pages_by_task t.now j (cond b (Some c.task) (next_task j es (tasks j)))) not in
        omega (arith, same)

-- at a full heap so many pages are in use at least
pub least_full : (limit least flips size : ℕ) → least ≤ size → (size ≡ limit) ⊎ (flips ≡ 2 ^ 32 - 1) → pages_full limit least flips ≤ size
least_full limit least flips size fewest grown = by_test (flips == 2 ^ 32 - 1) refl
  where
    by_test : (b : Bool) → (flips == 2 ^ 32 - 1) ≡ b → cond b least limit ≤ size
    by_test true last = fewest
    by_test false early = let other = eqb-false flips (2 ^ 32 - 1) early in omega (arith, grown, other)

pub large_has_no_full : (z : Sizes) (tasks : Tasks) (first : Tally) (log : List Entry) → EachEntry (EntryIs z tasks) first log → IsLargeFor z.limit z.least tasks first log → HasNoFullCall log
large_has_no_full z tasks first log each large front rest m asked room live task is =
    let t : Tally = tally first front in
    let c : Call = worker_call m task (Trap (HeapFull asked room live)) in
    let full : IsFilled z tasks t m task asked room live rest = entry_at (EntryIs z tasks) first front (Made c) rest (subst (EachEntry (EntryIs z tasks) first) (sym is) each) in
    let its : next_task m (Made c ∷ rest) (tasks m) ≡ Some task = ap (λ (b : Bool). cond b (Some task) (next_task m rest (tasks m))) (eq-eqb m m refl) in
    let may : MayFindFull t m = ⊎_elim (λ (flipped : (t.since m ≡ true) × (size_now z t ≡ z.limit)). inl flipped.0) (λ (last : t.flips ≡ 2 ^ 32 - 1). inr last) full.no_flip in
    let grown : (size_now z t ≡ z.limit) ⊎ (t.flips ≡ 2 ^ 32 - 1) =
    ⊎_elim (λ (flipped : (t.since m ≡ true) × (size_now z t ≡ z.limit)). inl flipped.1) (λ (last : t.flips ≡ 2 ^ 32 - 1). inr last) full.no_flip in
    let most = least_full z.limit z.least t.flips (size_now z t) full.within.0 grown in
    let fits = large front (Made c ∷ rest) m is may asked live (ap (asked_by_task t.now m) its ∙ full.asked_is) full.live_is in
    let others = next_of_others t tasks c rest in
    let filled = full.filled in
    let few = full.for_records in
    let short = full.short in
    omega (arith, fits, others, filled, few, short, most)
