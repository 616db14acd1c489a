-- A heap as it is opened.
use Rattle.std.specs.Prelude.{ℕ, zero, suc, Bool, true, false, ◌+◌, List, [], ◌∷◌, ◌++◌}
use Rattle.atomic_table.specs.Seated.{TableId}
use Rattle.gc_worker.specs.declared.config.Config.{Config}
use Rattle.gc_worker.specs.Config.{layout_by}
use Rattle.ael_threads.specs.declared.view.Plan.{Plan}
use Rattle.ael_threads.specs.Readers.{SeatedScanner}
use Rattle.ael_threads.specs.Seats.{new_seated}

-- the plan of a heap whose mutators may print, or may not
abbrev pub plan_with : (prints : Bool) → (mutators : ℕ) → Config → Plan
plan_with prints mutators config = record { spaces = layout_by config; least = config.pages; mutators = mutators; scanners = config.scanners; prints = prints }

-- of one whose mutators may
abbrev pub plan_of : (mutators : ℕ) → Config → Plan
plan_of mutators config = plan_with true mutators config

-- of one whose mutators may not
abbrev pub plan_without_printing : (mutators : ℕ) → Config → Plan
plan_without_printing mutators config = plan_with false mutators config

abbrev pub new_scanner : TableId → Plan → ℕ → SeatedScanner
new_scanner t plan k = record { seated = new_seated t plan k; steps = 0 }

-- so many scanners from this number on, which have made no steps
abbrev pub new_scanners : TableId → Plan → (from count : ℕ) → List SeatedScanner
new_scanners t plan from zero = []
new_scanners t plan from (suc n) = new_scanners t plan from n ++ new_scanner t plan (from + n) ∷ []
