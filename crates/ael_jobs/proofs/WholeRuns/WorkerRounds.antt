-- A round of listed workers, one step after another, and then that round again for ever.
use Rattle.std.proofs.Common.{◌≡◌, ℕ, ◌+◌, ◌-◌, ◌<◌, ◌≤◌, ◌≢◌, zero, suc, Bool, true, false, List, [], ◌∷◌, ◌++◌, length, drop, get_or, replicate, slice_index_or, refl, sym, ◌∙◌, add-one, arith, inl, inr}
use Rattle.std.specs.Prelude.{◌⊎◌, IsTrue}
use Rattle.std.specs.List.{list_all}
use Rattle.std.proofs.Math.Nat.{mod-eq_of_lt, mod-eq-sub-mod}
use Rattle.std.proofs.lemmas.Bool.{cases_lt, true≢false}
use Rattle.std.proofs.lemmas.Bool.Decides.{nat_tests}
use Rattle.std.proofs.lemmas.List.Folds.{list_all_at}
use Rattle.std.proofs.Math.ListN.{drop_of_length-le}
use Rattle.std.proofs.Math.Seq.{drop-cons}
use Rattle.mutator_asm.specs.declared.item.Item.{Item}
use Rattle.mutator_asm.specs.Program.{is_item}
use Rattle.ael_jobs.specs.Runs.Schedulers.{ListedRound, listed_from, then_repeated}
use Rattle.ael_jobs.specs.Runs.Schedule.{repeated, steps_listed}

-- a list's own element, and past its end the other list from its start
then_within : (xs steps : List ℕ) (at : ℕ) → at < length xs → then_repeated xs steps at ≡ slice_index_or xs at 0
then_within [] steps at h = absurd (omega (arith, h))
then_within (x ∷ xs) steps zero h = refl
then_within (x ∷ xs) steps (suc at) h = then_within xs steps at (omega (arith, h))

then_past : (xs steps : List ℕ) (at : ℕ) → length xs ≤ at → then_repeated xs steps at ≡ repeated steps (at - length xs)
then_past [] steps at h = let all : at - 0 ≡ at = omega arith in rw all
then_past (x ∷ xs) steps zero h = absurd (omega (arith, h))
then_past (x ∷ xs) steps (suc at) h = let less : suc at - suc (length xs) ≡ at - length xs = omega arith in rw less (then_past xs steps at (omega (arith, h)))

-- a whole round before its repetition changes nothing
pub once_more : (steps : List ℕ) (at : ℕ) → then_repeated steps steps at ≡ repeated steps at
once_more steps at = by (cases_lt at (length steps)) where
  by : (at < length steps) ⊎ (length steps ≤ at) → then_repeated steps steps at ≡ repeated steps at
  by (inl within) = then_within steps steps at within ∙ rw (mod-eq_of_lt within)
  by (inr past) = then_past steps steps at past ∙ rw (mod-eq-sub-mod past)

-- what is left of a round, where so much is left of an item and those from number next on come after it
abbrev pub rest_of : Item → ℕ → List Item → List ℕ
rest_of now next items = replicate now.times now.worker ++ steps_listed (drop next items)

-- an item at hand that has a step left, and with it the workers to come are those that there were
pub record HasItemAtHand (now : Item) (next : ℕ) (items : List Item) (before : ListedRound) : Type 0 where
  pub some : 0 < now.times
  pub same : (at : ℕ) → then_repeated (rest_of now next items) (steps_listed items) at ≡ listed_from before at

names_first : (times worker : ℕ) (rest steps : List ℕ) → 0 < times → worker ≡ then_repeated (replicate times worker ++ rest) steps 0
names_first zero worker rest steps some = absurd (omega (arith, some))
names_first (suc times) worker rest steps some = refl

names_later : (times worker : ℕ) (rest steps : List ℕ) → 0 < times
    → (at : ℕ) → then_repeated (replicate (times - 1) worker ++ rest) steps at ≡ then_repeated (replicate times worker ++ rest) steps (at + 1)
names_later zero worker rest steps some at = absurd (omega (arith, some))
names_later (suc times) worker rest steps some at = let less : suc times - 1 ≡ times = omega arith in rw (less, add-one)

pub ready_names : (now : Item) (next : ℕ) (items : List Item) (before : ListedRound) → HasItemAtHand now next items before → now.worker ≡ listed_from before 0
ready_names now next items before ready = names_first now.times now.worker _ (steps_listed items) ready.some ∙ ready.same 0

pub ready_later : (now : Item) (next : ℕ) (items : List Item) (before : ListedRound) → HasItemAtHand now next items before
    → (at : ℕ) → then_repeated (rest_of (record now { times = now.times - 1 }) next items) (steps_listed items) at ≡ listed_from before (at + 1)
ready_later now next items before ready at = names_later now.times now.worker _ (steps_listed items) ready.some at ∙ ready.same (at + 1)

-- ---- how an item comes to be at hand

abbrev default : Item
default = record { worker = 0; times = 0 }

some_times : (items : List Item) (i : ℕ) → i < length items → IsTrue (list_all is_item items) → 0 < (get_or items i default).times
some_times items i within valid = by (is_item (get_or items i default)) refl where
  by : (b : Bool) → is_item (get_or items i default) ≡ b → 0 < (get_or items i default).times
  by true is = grind (arith, nat_tests, is)
  by false is = absurd (true≢false (sym valid ∙ list_all_at is_item items i default within is))

-- the first item at hand, and then the others, are a whole round
whole_round : (items : List Item) → 0 < length items → rest_of (get_or items 0 default) 1 items ≡ steps_listed items
whole_round [] some = absurd (omega (arith, some))
whole_round (item ∷ items) some = refl

pub first_round : (items : List Item) → 0 < length items → (at : ℕ) → then_repeated (rest_of (get_or items 0 default) 1 items) (steps_listed items) at ≡ repeated (steps_listed items) at
first_round items some at = rw (whole_round items some) (once_more (steps_listed items) at)

-- it has steps left
pub ready_now : (now : Item) (next : ℕ) (items : List Item) → now.times ≢ 0 → HasItemAtHand now next items (record { rest = rest_of now next items; steps = steps_listed items })
ready_now now next items some = record { some = omega (arith, some); same = λ at. refl }

-- it is the next one
pub ready_next : (now : Item) (next : ℕ) (items : List Item) → now.times ≡ 0 → next < length items → IsTrue (list_all is_item items)
    → HasItemAtHand (get_or items next default) (next + 1) items (record { rest = rest_of now next items; steps = steps_listed items })
ready_next now next items none within valid = record { some = some_times items next within valid; same = λ at. rw (none, drop-cons items next default within, add-one) }

-- it is the first one again
pub ready_again : (now : Item) (next : ℕ) (items : List Item) → now.times ≡ 0 → length items ≤ next → 0 < length items → IsTrue (list_all is_item items)
    → HasItemAtHand (get_or items 0 default) 1 items (record { rest = rest_of now next items; steps = steps_listed items })
ready_again now next items none past some valid = record {
  some = some_times items 0 some valid;
  same = λ at. rw (none, drop_of_length-le items past) (first_round items some at);
}
