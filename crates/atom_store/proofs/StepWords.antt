-- A step changes at most its word, as its kind says.
use Rattle.std.proofs.Common.{◌≡◌, ◌≢◌, ℕ, ◌<◌, ◌↔◌, Bool, true, false, cond, nat_eq, List, length, slice_index, slice_set, refl, arith}
use Rattle.std.proofs.lemmas.Bool.Decides.{nat_tests}
use Rattle.std.proofs.lemmas.List.{get_or-set_same, get_or-set_other}
use Rattle.std.proofs.Math.ListN.{length-set}
use Rattle.atom_store.specs.declared.step.Step.{Step}
use Rattle.atom_store.specs.declared.step.Step.TheVariants.{Load, Store, Exchange}
use Rattle.atom_store.specs.declared.reply.Reply.TheVariants.{Won, Lost}
use Rattle.atom_store.specs.Step.{place_in, words_after, reply_of}
use Rattle.atom_store.specs.StepOn.{StepOn, touched, step_at}
use Rattle.atom_store.specs.StepOn as on

-- ---- an exchange, by whether the word is the old value

length-if : (b : Bool) (words : List ℕ) (place new : ℕ) → length (cond b (slice_set words place new) words) ≡ length words
length-if true words place new = length-set words place new
length-if false words place new = refl

others-if : (b : Bool) (words : List ℕ) (place new other : ℕ) → other ≢ place
    → slice_index (cond b (slice_set words place new) words) other ≡ slice_index words other
others-if true words place new other apart = get_or-set_other words place other new 0 apart
others-if false words place new other apart = refl

won-if : (b : Bool) (found : ℕ) → cond b Won (Lost found) ≡ Won → b ≡ true
won-if true found won = refl
won-if false found won = cc

lost-if : (b : Bool) (found value : ℕ) → cond b Won (Lost found) ≡ Lost value → (b ≡ false) × (value ≡ found)
lost-if true found value lost = cc
lost-if false found value lost = (refl, cc)

same-test : (m n : ℕ) → m ≡ n → nat_eq m n ≡ true
same-test m n same = grind (arith, nat_tests)

test-same : (m n : ℕ) → nat_eq m n ≡ true → m ≡ n
test-same m n test = grind (arith, nat_tests)

test-apart : (m n : ℕ) → nat_eq m n ≡ false → m ≢ n
test-apart m n test same = grind (arith, nat_tests)

-- ---- all steps

pub place_in-step_at : {P : Type 0} (place : P → ℕ) (step : StepOn P) → place_in (step_at place step) ≡ place (touched step)
place_in-step_at place (on.Load _) = refl
place_in-step_at place _ = refl

pub length-words_after : (step : Step) (words : List ℕ) → length (words_after step words) ≡ length words
length-words_after (Load place) words = refl
length-words_after (Store place value) words = length-set words place value
length-words_after (Exchange place old new) words = length-if (nat_eq (slice_index words place) old) words place new

pub slice_index-words_after : (step : Step) (words : List ℕ) (place : ℕ) → place ≢ place_in step
    → slice_index (words_after step words) place ≡ slice_index words place
slice_index-words_after (Load at) words place apart = refl
slice_index-words_after (Store at value) words place apart = get_or-set_other words at place value 0 apart
slice_index-words_after (Exchange at old new) words place apart =
    others-if (nat_eq (slice_index words at) old) words at new place apart

pub slice_index-stored : (place value : ℕ) (words : List ℕ) → place < length words
    → slice_index (words_after (Store place value) words) place ≡ value
slice_index-stored place value words inside = get_or-set_same words place value 0 inside

pub won_exactly : (place old new : ℕ) (words : List ℕ)
    → (reply_of (Exchange place old new) words ≡ Won) ↔ (slice_index words place ≡ old)
won_exactly place old new words = (
  λ won. test-same (slice_index words place) old (won-if _ (slice_index words place) won),
  λ same. let test = same-test (slice_index words place) old same in rw test refl,
)

pub slice_index-won : (place old new : ℕ) (words : List ℕ) → place < length words
    → reply_of (Exchange place old new) words ≡ Won → slice_index (words_after (Exchange place old new) words) place ≡ new
slice_index-won place old new words inside won =
    let test = won-if _ (slice_index words place) won in
    rw test (get_or-set_same words place new 0 inside)

pub lost_tells_another : (place old new value : ℕ) (words : List ℕ) → reply_of (Exchange place old new) words ≡ Lost value
    → (value ≡ slice_index words place) × (value ≢ old)
lost_tells_another place old new value words lost =
    let told = lost-if _ (slice_index words place) value lost in
    (told.1, rw told.1 (test-apart (slice_index words place) old told.0))

pub words_after-lost : (place old new value : ℕ) (words : List ℕ) → reply_of (Exchange place old new) words ≡ Lost value
    → words_after (Exchange place old new) words ≡ words
words_after-lost place old new value words lost =
    let told = lost-if _ (slice_index words place) value lost in
    rw told.0 refl
