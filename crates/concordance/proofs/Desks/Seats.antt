-- Clerks of one number on one heap.
use Rattle.std.proofs.Common.{◌∙◌, refl, ◌≡◌, ℕ, Bool}
use Rattle.ael_threads.specs.Seats.{Seated}
use Rattle.concordance.specs.Lone.{IsLone, KeepsSeat, desk_of}
use Rattle.concordance.specs.Notes.Desks.{ChangesAtMost}

pub seat_stays : (a : Seated) → KeepsSeat a a
seat_stays a = record { table = refl; plan = refl; number = refl }

pub seat_then : (a b c : Seated) → KeepsSeat a b → KeepsSeat b c → KeepsSeat a c
seat_then a b c first second = record { table = second.table ∙ first.table; plan = second.plan ∙ first.plan; number = second.number ∙ first.number }

-- A clerk that works on alone, with the same records, and with the same registers but for those of which the test is true.
pub record StaysWith (test : ℕ → Bool) (a b : Seated) : Type 0 where
  pub same : KeepsSeat a b
  pub lone : IsLone b
  pub records : (desk_of b).records ≡ (desk_of a).records
  pub others : ChangesAtMost test (desk_of a) (desk_of b)
