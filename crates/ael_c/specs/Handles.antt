-- What C's handles lead to.
use Rattle.std.specs.Prelude.{◌≡◌, ℕ, ℤ, ◌&&◌, Bool, true, false, Option, Some, None, List, [], ◌∷◌, length, map, is_none, is_some, nat_le}
use Rattle.space_map.specs.Table.{whole_length}
use Rattle.space_map.specs.declared.spaces.TheConstants.{MOST_MUTATORS, MOST_SCANNERS}
use Rattle.gc_worker.specs.Config.{has_sizes, layout_by}
use Rattle.gc_worker.specs.declared.config.Config.{Config}
use Rattle.gc_worker.specs.Steps.AtRest.{is_at_rest}
use Rattle.ael_threads.specs.declared.shared.Shared.{Shared}
use Rattle.ael_threads.specs.Opened.{new_scanners, plan_without_printing}
use Rattle.ael_threads.specs.Readers.{SeatedScanner}
use Rattle.ael_threads.specs.Seats.{Seated, new_callers}
use Rattle.ael_c.specs.declared.answer.Answer.{Answer}
use Rattle.ael_c.specs.declared.answer.Answer.TheVariants as answers
use Rattle.ael_c.specs.declared.handle.Handle.{Handle}
use Rattle.ael_c.specs.declared.seat.Seat.{Seat}
use Rattle.ael_c.specs.declared.seat.Seat.TheVariants.{Mutator, Scanner}
use Rattle.ael_c.specs.Answers.{code_of}

-- ---- one handle

abbrev pub is_mutator : Option Seat → Bool
is_mutator (Some (Mutator m)) = true
is_mutator other = false

-- the mutator does this; a scanner's seat is refused, and nothing changes
abbrev pub OnMutator : (Seated → Answer → Seated → Type 0) → Seat → Answer → Seat → Type 0
OnMutator P (Mutator a) answer after = (b : Seated) × (after ≡ Mutator b) × P a answer b
OnMutator P (Scanner s) answer after = (answer ≡ answers.BadHandle) × (after ≡ Scanner s)

-- and the other way round
abbrev pub OnScanner : (SeatedScanner → Answer → SeatedScanner → Type 0) → Seat → Answer → Seat → Type 0
OnScanner P (Scanner a) answer after = (b : SeatedScanner) × (after ≡ Scanner b) × P a answer b
OnScanner P (Mutator m) answer after = (answer ≡ answers.BadHandle) × (after ≡ Mutator m)

-- THE CLAUSE OF A CALL BY A HANDLE: the seat does this, and C is told its answer by a code; null is refused, and stays null
abbrev pub ByHandle : (Seat → Answer → Seat → Type 0) → Option Seat → ℤ → Option Seat → Type 0
ByHandle P None code after = (code ≡ code_of answers.BadHandle) × (after ≡ None)
ByHandle P (Some before) code after = (answer : Answer) × (seat : Seat) × (code ≡ code_of answer) × (after ≡ Some seat) × P before answer seat

-- ---- free

-- nobody waits for it: a mutator has an end and rests, as it does only once it has left; a scanner rests
abbrev pub may_go : Seat → Bool
may_go (Mutator m) = is_some m.worker.account.end && is_at_rest m.worker
may_go (Scanner s) = is_at_rest s.seated.worker

abbrev pub FreesIf : Bool → Seat → ℤ → Option Seat → Type 0
FreesIf true before code after = (code ≡ code_of answers.Done) × (after ≡ None)
FreesIf false before code after = (code ≡ code_of answers.InUse) × (after ≡ Some before)

-- THE CLAUSE OF FREE
abbrev pub Frees : Option Seat → ℤ → Option Seat → Type 0
Frees None code after = (code ≡ code_of answers.BadHandle) × (after ≡ None)
Frees (Some before) code after = FreesIf (may_go before) before code after

-- ---- open

-- what these handles lead to
abbrev pub behind : List Handle → List (Option Seat)
behind handles = map (λ (h : Handle). h.value) handles

-- all are null
abbrev pub are_null : List (Option Seat) → Bool
are_null [] = true
are_null (x ∷ xs) = is_none x && are_null xs

-- a heap may have so many mutators and scanners
abbrev pub are_counts : (mutators scanners : ℕ) → Bool
are_counts mutators scanners = nat_le 1 mutators && (nat_le mutators MOST_MUTATORS && nat_le scanners MOST_SCANNERS)

abbrev pub config_of : (pages limit scanners : ℕ) → Config
config_of pages limit scanners = record { pages = pages; limit = limit; scanners = scanners; snap = false }

abbrev pub mutator_seats : List Seated → List (Option Seat)
mutator_seats ms = map (λ (m : Seated). Some (Mutator m)) ms

abbrev pub scanner_seats : List SeatedScanner → List (Option Seat)
scanner_seats ss = map (λ (s : SeatedScanner). Some (Scanner s)) ss

-- those for mutators, and those for scanners
pub record Handles : Type 0 where
  pub mutators : List (Option Seat)
  pub scanners : List (Option Seat)

abbrev pub handles : (mutators scanners : List Handle) → Handles
handles mutators scanners = record { mutators = behind mutators; scanners = behind scanners }

-- so many mutators, and so many scanners, of a new heap, which have made no act
abbrev pub first_mutators : Shared → ℕ → List Seated
first_mutators heap n = new_callers heap.table.shared.table_id heap.table.shared.key 0 n

abbrev pub first_scanners : Shared → ℕ → List SeatedScanner
first_scanners heap n = new_scanners heap.table.shared.table_id heap.table.shared.key heap.table.shared.key.mutators n

-- each handle leads to one of them
pub record AreDealt (heap : Shared) (before after : Handles) : Type 0 where
  pub mutators : after.mutators ≡ mutator_seats (first_mutators heap (length before.mutators))
  pub scanners : after.scanners ≡ scanner_seats (first_scanners heap (length before.scanners))

-- or memory is wanting, and they are as before
abbrev pub DealsBy : Answer → Shared → (before after : Handles) → Type 0
DealsBy answers.Done heap before after = AreDealt heap before after
DealsBy answers.NoMemory heap before after = after ≡ before
DealsBy answer heap before after = ⊥

-- they lead to the seats of a new heap of this size, whose mutators may not print
pub record IsOpened (config : Config) (before after : Handles) : Type 0 where
  pub heap : Shared
  pub plan : heap.table.shared.key ≡ plan_without_printing (length before.mutators) config
  pub words : heap.table.shared.table_id.words ≡ whole_length (layout_by config)
  pub dealt : AreDealt heap before after

abbrev pub OpensBy : Answer → Config → (before after : Handles) → Type 0
OpensBy answers.Done config before after = IsOpened config before after
OpensBy answers.NoMemory config before after = after ≡ before
OpensBy answer config before after = ⊥

abbrev pub OpensIf : (counts null sizes : Bool) → Config → Handles → Answer → Handles → Type 0
OpensIf false null sizes config before answer after = (answer ≡ answers.BadSize) × (after ≡ before)
OpensIf true false sizes config before answer after = (answer ≡ answers.InUse) × (after ≡ before)
OpensIf true true false config before answer after = (answer ≡ answers.BadSize) × (after ≡ before)
OpensIf true true true config before answer after = OpensBy answer config before after

-- THE CLAUSE OF OPEN: it is refused for the first of three reasons, and nothing changes; or the heap is opened, or memory is wanting
abbrev pub Opens : (pages limit : ℕ) → Handles → Answer → Handles → Type 0
Opens pages limit before answer after =
    let config = config_of pages limit (length before.scanners) in
    OpensIf (are_counts (length before.mutators) (length before.scanners)) (are_null before.mutators && are_null before.scanners) (has_sizes config) config before answer after
