-- What is said of each element of a list, and the workers whose calls a history has.
use Rattle.std.specs.Prelude.{◌≡◌, ◌≢◌, ℕ, zero, suc, ◌+◌, ⊤, List, [], ◌∷◌}
use Rattle.std.specs.List.{Contains}
use Rattle.plain_state.specs.State.{Plain}
use Rattle.heap_laws.specs.Opening.{opening_plain}
use Rattle.gc_worker.specs.declared.calls.call.Call.{Call}
use Rattle.gc_worker.specs.declared.calls.entry.Entry.{Entry}
use Rattle.gc_worker.specs.declared.calls.entry.Entry.TheVariants.{Exchanged, Made, Emptied}
use Rattle.gc_worker.specs.Laws.Between.{fresh_worker}
use Rattle.gc_worker.specs.Workers.Held.{Held}
use Rattle.gc_worker.specs.History.Legal.{calls_of}
use Rattle.gc_worker.specs.History.Tally.{Sizes, Tally, first_tally}
use Rattle.ael_threads.specs.declared.view.Hand.{Hand}
use Rattle.ael_threads.specs.declared.view.Plan.{Plan}

-- ---- lists

-- a fact of each element
abbrev pub Each : {A : Type 0} → (A → Type 0) → List A → Type 0
Each P [] = ⊤
Each P (x ∷ xs) = P x × Each P xs

-- a list in which nothing stands twice
abbrev pub IsOnce : {A : Type 0} → List A → Type 0
IsOnce [] = ⊤
IsOnce (x ∷ xs) = Each (λ y. y ≢ x) xs × IsOnce xs

-- ---- the beginning

-- the plain state before the first call
abbrev pub first_plain : Plan → Plain
first_plain plan = opening_plain plan.mutators

-- what is counted before it
abbrev pub opening_tally : Plan → Tally
opening_tally plan = first_tally (first_plain plan)

-- the pages in use of a heap of this plan: at first as many as are the fewest, and never more than a space has
pub record AreSizesOf (plan : Plan) (z : Sizes) : Type 0 where
  pub least : z.least ≡ plan.least
  pub limit : z.limit ≡ plan.spaces.pages
  pub first : z.in_use 0 ≡ plan.least

-- ---- whose calls they are

abbrev pub hand : ℕ → Held → List Call → Hand
hand n x own = record { number = n; worker = x; own = own }

abbrev pub hand_number : Hand → ℕ
hand_number h = h.number

-- the calls that these made are all that the history has of them
abbrev pub HasOwnCalls : List Entry → List Hand → Type 0
HasOwnCalls log hands = Each (λ (h : Hand). calls_of h.number log ≡ h.own) hands

-- each call of the history was made by one of these
abbrev pub AreBy : List ℕ → List Entry → Type 0
AreBy numbers [] = ⊤
AreBy numbers (Made c ∷ es) = Contains numbers c.by × AreBy numbers es
AreBy numbers (Exchanged by asked ∷ es) = AreBy numbers es
AreBy numbers (Emptied cells ∷ es) = AreBy numbers es

-- worker k before its first step
abbrev pub first_held : Plan → ℕ → Held
first_held plan k = fresh_worker plan.prints plan.spaces plan.mutators k

-- so many workers from this number on, before their first steps
abbrev pub new_hands : Plan → (from count : ℕ) → List Hand
new_hands plan from zero = []
new_hands plan from (suc count) = hand from (first_held plan from) [] ∷ new_hands plan (from + 1) count
