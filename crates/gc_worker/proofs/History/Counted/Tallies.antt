-- What is counted along a history that goes on, and what each of its entries then is.
use Rattle.std.proofs.Common.{◌≡◌, ℕ, ◌+◌, ◌-◌, ◌^◌, ◌<◌, ◌≤◌, ◌==◌, ◌⊎◌, Bool, true, false, cond, List, [], ◌∷◌, ◌++◌, length, Option, Some, None, slice_get, refl, sym, ap, subst, ◌∙◌, arith}
use Rattle.std.specs.Option.{option_and_then, option_map}
use Rattle.plain_state.specs.declared.end.End.{End}
use Rattle.plain_state.specs.declared.end.End.TheVariants as ends
use Rattle.plain_state.specs.State.{Mutator, Plain}
use Rattle.mutator_asm.specs.declared.instr.Instr.{Instr}
use Rattle.plain_heap.specs.Step.{new_record, pages_of}
use Rattle.gc_worker.specs.declared.task.Task.{Task}
use Rattle.gc_worker.specs.declared.task.Task.TheVariants.{Calls}
use Rattle.gc_worker.specs.declared.calls.did.Did.{Did}
use Rattle.gc_worker.specs.declared.calls.did.Did.TheVariants.{Done, Trap}
use Rattle.gc_worker.specs.declared.calls.entry.Entry.{Entry}
use Rattle.gc_worker.specs.declared.calls.entry.Entry.TheVariants.{Made, Exchanged, Emptied}
use Rattle.gc_worker.proofs.History.Counted.Sums.{sum_below-most}
use Rattle.gc_worker.specs.History.Tally.{EachEntry, EntryIs, IsFilled, IsFilledBy, IsFilledByEnd, Sizes, Tally, Tasks, after_entry, asked_by_task, asked_unless_ended, made_next, next_task, pages_by_task, tally}
use Rattle.gc_worker.specs.Laws.Growth.{Grows}
use Rattle.gc_worker.specs.Plain.Stories.{story_told}
use Rattle.gc_worker.specs.History.Legal.{EmptiesLost, after_all, extra, flip_from}
use Rattle.gc_worker.specs.Laws.Step.{at_flip}
use Rattle.gc_worker.specs.Steps.Turned.{Told, Silent}

-- ---- two histories, one after the other

pub tally_append : (t : Tally) (xs ys : List Entry) → tally t (xs ++ ys) ≡ tally (tally t xs) ys
tally_append t [] ys = refl
tally_append t (e ∷ es) ys = tally_append (after_entry t e) es ys

pub tally_now : (t : Tally) (es : List Entry) → (tally t es).now ≡ after_all t.now es
tally_now t [] = refl
tally_now t (Made c ∷ es) = tally_now (after_entry t (Made c)) es
tally_now t (Exchanged by asked ∷ es) = tally_now (after_entry t (Exchanged by asked)) es
tally_now t (Emptied cells ∷ es) = tally_now (after_entry t (Emptied cells)) es

pub tally_flip : (t : Tally) (es : List Entry) → (tally t es).flip ≡ flip_from t.now t.flip es
tally_flip t [] = refl
tally_flip t (Made c ∷ es) = tally_flip (after_entry t (Made c)) es
tally_flip t (Exchanged by asked ∷ es) = tally_flip (after_entry t (Exchanged by asked)) es
tally_flip t (Emptied cells ∷ es) = tally_flip (after_entry t (Emptied cells)) es

pub tally_more-now : (t : Tally) (o : Plain) (m : ℕ) (u : Told) → (tally t (extra o m u)).now ≡ story_told t.now o m u
tally_more-now t o m Silent = refl
tally_more-now t o m _ = refl

pub tally_more-flip : (t : Tally) (o : Plain) (m : ℕ) (u : Told) → (tally t (extra o m u)).flip ≡ at_flip t.now t.flip u
tally_more-flip t o m Silent = refl
tally_more-flip t o m _ = refl

-- flips only come
pub flips_most : (t : Tally) (es : List Entry) → t.flips ≤ (tally t es).flips
flips_most t [] = omega arith
flips_most t (Made c ∷ es) = flips_most (after_entry t (Made c)) es
flips_most t (Exchanged by asked ∷ es) = let most = flips_most (after_entry t (Exchanged by asked)) es in omega (arith, most)
flips_most t (Emptied cells ∷ es) = flips_most (after_entry t (Emptied cells)) es

module _ (P Q : Tally → Entry → List Entry → Type 0) (more : List Entry) (last : ℕ)
    (on : (t : Tally) (e : Entry) (es : List Entry) → (after_entry t e).flips ≤ last → P t e es → Q t e (es ++ more)) where
  each_append : (t : Tally) (xs : List Entry) → (tally t xs).flips ≤ last → EachEntry P t xs → EachEntry Q (tally t xs) more → EachEntry Q t (xs ++ more)
  each_append t [] few h k = k
  each_append t (e ∷ es) few h k =
      (on t e es (let most = flips_most (after_entry t e) es in omega (arith, most, few)) h.0, each_append (after_entry t e) es few h.1 k)

pub entry_at : (P : Tally → Entry → List Entry → Type 0) (t : Tally) (xs : List Entry) (e : Entry) (ys : List Entry) → EachEntry P t (xs ++ e ∷ ys) → P (tally t xs) e ys
entry_at P t [] e ys h = h.0
entry_at P t (x ∷ xs) e ys h = entry_at P (after_entry t x) xs e ys h.1

-- the cells that an entry empties are those that lost their targets
pub empties_lost : (z : Sizes) (tasks : Tasks) (t : Tally) (log : List Entry) → EachEntry (EntryIs z tasks) t log → EmptiesLost t.now t.flip log
empties_lost z tasks t [] each = tt
empties_lost z tasks t (Made c ∷ es) each = empties_lost z tasks (after_entry t (Made c)) es each.1
empties_lost z tasks t (Exchanged by asked ∷ es) each = empties_lost z tasks (after_entry t (Exchanged by asked)) es each.1
empties_lost z tasks t (Emptied cells ∷ es) each = (each.0, empties_lost z tasks (after_entry t (Emptied cells)) es each.1)

-- ---- what a task asks for

asks_none : (p : Plain) (j : ℕ) → asked_by_task p j None ≡ None
asks_none p j = by_mutator (slice_get p.mutators j)
  where
    by_end : (q : Mutator) (end : Option End) → asked_unless_ended end q None ≡ None
    by_end q None = refl
    by_end q (Some end) = refl

    by_mutator : (o : Option Mutator) → option_and_then (λ (q : Mutator). asked_unless_ended q.end q None) o ≡ None
    by_mutator None = refl
    by_mutator (Some q) = by_end q q.end

module _ (p : Plain) (j : ℕ) where
  -- who asks for pages has a task
  pub asks_some : (o : Option Task) (pages : ℕ) → asked_by_task p j o ≡ Some pages → (task : Task) × (o ≡ Some task)
  asks_some None pages e = absurd (let none = asks_none p j in let f = sym none ∙ e in cc)
  asks_some (Some task) pages e = (task, refl)

  pub no_pages : pages_by_task p j None ≡ 0
  no_pages = let none = asks_none p j in rw none refl

-- the pages of the record that an instruction makes
pub asks_as : (p : Plain) (j : ℕ) (q : Mutator) (instr : Instr) (pages : ℕ) → slice_get p.mutators j ≡ Some q → q.end ≡ None → option_map pages_of (new_record q instr) ≡ Some pages
    → asked_by_task p j (Some (Calls instr)) ≡ Some pages
asks_as p j q instr pages is none e =
    ap (λ (o : Option Mutator). option_and_then (λ (m : Mutator). asked_unless_ended m.end m (Some (Calls instr))) o) is ∙ (ap (λ (end : Option End). asked_unless_ended end q (Some (Calls instr))) none ∙ e)

-- ---- a history that grows, while workers go on

-- The sizes up to so many flips stay. Each worker's task is still the one that it had, or the call that answers it is what comes.
module _ (tasks later : Tasks) (more : List Entry) (z : Sizes) (in_use : ℕ → ℕ) (last : ℕ) (agree : (e : ℕ) → e ≤ last → in_use e ≡ z.in_use e) (goes_on : (j : ℕ) (task : Task) → tasks j ≡ Some task → next_task j more (later j) ≡ Some task) where
  next_if : (b : Bool) (call was now : Option Task) (task : Task) → (was ≡ Some task → now ≡ Some task) → cond b call was ≡ Some task → cond b call now ≡ Some task
  next_if true call was now task on e = e
  next_if false call was now task on e = on e

  next_on : (j : ℕ) (task : Task) (es : List Entry) → next_task j es (tasks j) ≡ Some task → next_task j (es ++ more) (later j) ≡ Some task
  next_on j task [] e = goes_on j task e
  next_on j task (Made c ∷ es) e = next_if (c.by == j) (Some c.task) (next_task j es (tasks j)) (next_task j (es ++ more) (later j)) task (next_on j task es) e
  next_on j task (Exchanged by asked ∷ es) e = next_on j task es e
  next_on j task (Emptied cells ∷ es) e = next_on j task es e

  asks_on : (p : Plain) (j asked : ℕ) (es : List Entry) → asked_by_task p j (next_task j es (tasks j)) ≡ Some asked → asked_by_task p j (next_task j (es ++ more) (later j)) ≡ Some asked
  asks_on p j asked es e =
      let some = asks_some p j (next_task j es (tasks j)) asked e in
      ap (asked_by_task p j) (next_on j some.0 es some.1) ∙ (sym (ap (asked_by_task p j) some.1) ∙ e)

  pages_on : (p : Plain) (j : ℕ) (es : List Entry) → pages_by_task p j (next_task j es (tasks j)) ≤ pages_by_task p j (next_task j (es ++ more) (later j))
  pages_on p j es = by_task (next_task j es (tasks j)) refl
    where
      by_task : (o : Option Task) → next_task j es (tasks j) ≡ o → pages_by_task p j (next_task j es (tasks j)) ≤ pages_by_task p j (next_task j (es ++ more) (later j))
      by_task None is = let none : pages_by_task p j (next_task j es (tasks j)) ≡ 0 = ap (pages_by_task p j) is ∙ no_pages p j in omega (arith, none)
      by_task (Some task) is =
          let same : pages_by_task p j (next_task j (es ++ more) (later j)) ≡ pages_by_task p j (next_task j es (tasks j)) = ap (pages_by_task p j) (next_on j task es is ∙ sym is) in
          omega (arith, same)

  making_on : (p : Plain) (m : ℕ) (es : List Entry) → made_next p tasks m es ≤ made_next p later m (es ++ more)
  making_on p m es = sum_below-most (length p.mutators) _ _ (λ j below. either (j == m) _ _ (pages_on p j es))
    where
      either : (b : Bool) (was now : ℕ) → was ≤ now → cond b 0 was ≤ cond b 0 now
      either true was now most = omega arith
      either false was now most = most

  abbrev sizes : Sizes
  sizes = record z { in_use = in_use }

  full_on : (t : Tally) (m : ℕ) (task : Task) (asked room live : ℕ) (es : List Entry) → t.flips ≤ last → IsFilled z tasks t m task asked room live es
      → IsFilled sizes later t m task asked room live (es ++ more)
  full_on t m task asked room live es few f =
      let same = agree t.flips few in
      record {
        asked_is = f.asked_is;
        short = f.short;
        no_flip = subst (λ (size : ℕ). ((t.since m ≡ true) × (size ≡ z.limit)) ⊎ (t.flips ≡ 2 ^ 32 - 1)) (sym same) f.no_flip;
        within = subst (λ (size : ℕ). (z.least ≤ size) × (size ≤ z.limit)) (sym same) f.within;
        live_is = f.live_is;
        claims = f.claims;
        filled = (let filled = f.filled in omega (arith, filled, same));
        for_records = (let most = making_on t.now m es in let few = f.for_records in omega (arith, most, few));
        single = f.single;
      }

  end_on : (t : Tally) (m : ℕ) (task : Task) (end : End) (es : List Entry) → t.flips ≤ last → IsFilledByEnd z tasks t m task end es → IsFilledByEnd sizes later t m task end (es ++ more)
  end_on t m task (ends.HeapFull asked room live) es few f = full_on t m task asked room live es few f
  end_on t m task _ es few f = tt

  did_on : (t : Tally) (m : ℕ) (task : Task) (did : Did) (es : List Entry) → t.flips ≤ last → IsFilledBy z tasks t m task did es → IsFilledBy sizes later t m task did (es ++ more)
  did_on t m task Done es few f = tt
  did_on t m task (Trap end) es few f = end_on t m task end es few f

  entry_on : (t : Tally) (e : Entry) (es : List Entry) → (after_entry t e).flips ≤ last → EntryIs z tasks t e es → EntryIs sizes later t e (es ++ more)
  entry_on t (Made c) es few f = did_on t c.by c.task c.did es few f
  entry_on t (Exchanged by asked) es few f =
      let same = agree t.flips (omega (arith, few)) in
      let next = agree (t.flips + 1) few in
      record {
        first = subst (λ (size : ℕ). (t.asked by ≡ false) ⊎ (size < z.limit)) (sym same) f.first;
        makes = asks_on t.now by asked es f.makes;
        grows = subst (λ (size : ℕ). Grows z.limit size (in_use (t.flips + 1))) (sym same) (subst (Grows z.limit (z.in_use t.flips)) (sym next) f.grows);
      }
  entry_on t (Emptied cells) es few f = f

  pub entries_on : (t : Tally) (log : List Entry) → (tally t log).flips ≤ last → EachEntry (EntryIs z tasks) t log → EachEntry (EntryIs sizes later) (tally t log) more
      → EachEntry (EntryIs sizes later) t (log ++ more)
  entries_on = each_append (EntryIs z tasks) (EntryIs sizes later) more last entry_on
