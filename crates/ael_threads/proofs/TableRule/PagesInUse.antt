-- The pages in use along a history, and why no flip can help a heap that is full.
use Rattle.std.proofs.Common.{◌≡◌, ℕ, ◌-◌, ◌^◌, ◌<◌, ◌⊎◌, inl, inr, List, ⊎_elim}
use Rattle.gc_worker.specs.declared.calls.entry.Entry.{Entry}
use Rattle.gc_worker.specs.History.Tally.{IsTallied}
use Rattle.gc_worker.specs.Plain.Full.{FindsNoRoom}
use Rattle.gc_worker.specs.Workers.Held.{Held}
use Rattle.ael_threads.specs.declared.view.Plan.{Plan}
use Rattle.ael_threads.specs.Histories.{AreSizesOf, opening_tally}
use Rattle.ael_threads.specs.Workers.{heap_of}

-- what is counted is of a heap of this plan
pub tallied_sizes : (plan : Plan) (words : List ℕ) (workers : List Held) (log : List Entry) → (t : IsTallied plan.least (heap_of plan words workers) (opening_tally plan) log) → AreSizesOf plan t.sizes
tallied_sizes plan words workers log t = record { least = t.began.0; limit = t.counts.limit; first = t.began.1 }

-- it has come into a later epoch since it began, or into the last
pub flipped_or_last : (n : ℕ) (words : List ℕ) (x : Held) (asked room live : ℕ) → FindsNoRoom n words x asked room live → (x.begun < x.epoch) ⊎ (x.epoch ≡ 2 ^ 32 - 1)
flipped_or_last n words x asked room live f = ⊎_elim (λ (all : (x.begun < x.epoch) × (f.size ≡ n)). inl all.0) (λ (last : x.epoch ≡ 2 ^ 32 - 1). inr last) f.no_flip
