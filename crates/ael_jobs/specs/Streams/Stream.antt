-- What sources give, what sinks take, and the counts of their faults.
use Rattle.std.specs.Prelude.{◌≡◌, ℕ, ◌-◌, ◌^◌, ◌<◌, ◌≤◌, List, [], ◌++◌, length, take, drop, Option, Some, None, IfSome}
use Rattle.std.specs.Option.{option_map}
use Rattle.ael_jobs.specs.declared.streams.source.Got.{Got}
use Rattle.ael_jobs.specs.declared.streams.source.Got.TheVariants as got
use Rattle.ael_jobs.specs.declared.streams.sink.Put.{Put}
use Rattle.ael_jobs.specs.declared.streams.sink.Put.TheVariants as put

-- a count of faults rose; one that stands at its last value counts as risen
abbrev pub Rose : ℕ → ℕ → Type 0
Rose old new = new < 2 ^ 64 - 1 → old < new

-- n bytes come from the front of those still to come, where they are told
abbrev pub Gives : Option (List ℕ) → ℕ → List ℕ → Option (List ℕ) → Type 0
Gives None n buf new = new ≡ None
Gives (Some bytes) n buf new = (n ≤ length bytes) × (take n buf ≡ take n bytes) × (new ≡ Some (drop n bytes))

-- what a read gives, and what is still to come before and after it
abbrev pub Reads : Option (List ℕ) → Got → List ℕ → Option (List ℕ) → Type 0
Reads old (got.Bytes n) buf new = (0 < n) × (n ≤ length buf) × Gives old n buf new
Reads old got.End buf new = (new ≡ old) × IfSome old (λ bytes. bytes ≡ [])
Reads old got.Failed buf new = new ≡ old

-- Where a reader is known to have these bytes left, they are what a read gives, and what is still to
-- come after it: there is an end only where none of them is left.
abbrev pub ReadsKnown : Option (List ℕ) → Got → List ℕ → Option (List ℕ) → Type 0
ReadsKnown old got buf new = IfSome old (λ bytes. Reads (Some bytes) got buf new)

-- the bytes held grow by these at their end, where they are told
abbrev pub Grows : Option (List ℕ) → List ℕ → Option (List ℕ) → Type 0
Grows old bytes new = new ≡ option_map (λ held. held ++ bytes) old

-- what a write takes, and what is held before and after it
abbrev pub Writes : Option (List ℕ) → Put → List ℕ → Option (List ℕ) → Type 0
Writes old (put.Took n) piece new = (0 < n) × (n ≤ length piece) × Grows old (take n piece) new
Writes old put.Failed piece new = new ≡ old

-- where a writer is known to hold these bytes, they grow by what a write takes
abbrev pub WritesKnown : Option (List ℕ) → Put → List ℕ → Option (List ℕ) → Type 0
WritesKnown old put piece new = IfSome old (λ held. Writes (Some held) put piece new)

-- the bytes held grow by some of these from the front
abbrev pub GrowsByPrefix : Option (List ℕ) → List ℕ → Option (List ℕ) → Type 0
GrowsByPrefix old bytes new = (n : ℕ) × (n ≤ length bytes) × Grows old (take n bytes) new

-- these bytes came first of those that were to come, where they are told
abbrev pub IsFront : Option (List ℕ) → List ℕ → Option (List ℕ) → Type 0
IsFront old bytes new = old ≡ option_map (λ rest. bytes ++ rest) new
