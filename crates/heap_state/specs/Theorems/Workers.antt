-- What is proved of functions, sums and teams of which one place changes.
use Rattle.std.specs.Prelude.{◌≡◌, ◌≢◌, ℕ, ◌+◌, ◌<◌, List, length, slice_set}
use Rattle.space_map.specs.declared.gate_word.GateWord.{GateWord}
use Rattle.space_map.specs.declared.page_word.PageWord.{PageWord}
use Rattle.heap_state.specs.Configuration.{team_of}
use Rattle.heap_state.specs.Memory.Era.{Era}
use Rattle.heap_state.specs.Functions.{put, sum_below}
use Rattle.heap_state.specs.Invariant.Parts.Gate.{Counted, Staffed}
use Rattle.heap_state.specs.Invariant.Parts.Pages.{ScannedBy}
use Rattle.heap_state.specs.Invariant.Parts.Stocks.{Stocks, Numbered}
use Rattle.plain_state.specs.declared.value.Identity.{Identity}
use Rattle.heap_state.specs.Known.{Known}

-- ---- functions, sums and teams

-- a function changed at a place is changed there alone
pub record ChangesAt (f : ℕ → ℕ) (place x : ℕ) : Type 0 where
  pub there : put f place x place ≡ x
  pub elsewhere : (a : ℕ) → a ≢ place → put f place x a ≡ f a

-- a sum of which one term changes changes by that term
abbrev pub SumsByTerms : Type 0
SumsByTerms = (n : ℕ) (f : ℕ → ℕ) (a x : ℕ) → a < n → sum_below n (put f a x) + f a ≡ sum_below n f + x

-- a worker changed in the list is changed in the team
pub record TeamChanges (mutators : ℕ) (workers : List Known) (k : ℕ) (w : Known) : Type 0 where
  pub worker : (team_of mutators (slice_set workers k w)).worker ≡ put (team_of mutators workers).worker k w
  pub count : (team_of mutators (slice_set workers k w)).count ≡ (team_of mutators workers).count

abbrev pub TeamsByWorkers : Type 0
TeamsByWorkers = (mutators : ℕ) (workers : List Known) (k : ℕ) (w : Known) → k < length workers → TeamChanges mutators workers k w

-- ---- parts that count over all workers

-- the worker has the same post, epoch, stock, scan and serial
pub record SameStanding (v w : Known) : Type 0 where
  pub post : w.post ≡ v.post
  pub epoch : w.epoch ≡ v.epoch
  pub stock : w.stock ≡ v.stock
  pub scan : w.scan ≡ v.scan
  pub serial : w.account.serial ≡ v.account.serial

-- the parts that speak of all workers are kept where one of them changes
pub record KeptByWorkers (worker after : ℕ → Known) : Type 0 where
  pub counted : (gate : GateWord) (count : ℕ) → Counted gate count worker → Counted gate count after
  pub staffed : (mutators count : ℕ) → Staffed mutators count worker → Staffed mutators count after
  pub scanned : (E : Era) (count : ℕ) (page : ℕ → PageWord) → ScannedBy E count page worker → ScannedBy E count page after
  pub stocks : (E : Era) (low count : ℕ) (size heap : ℕ → ℕ) (page : ℕ → PageWord) → Stocks E low count size heap page worker → Stocks E low count size heap page after
  pub numbered : (mutators : ℕ) (size : ℕ → ℕ) (identity : ℕ → Identity) → Numbered mutators size identity worker → Numbered mutators size identity after

abbrev pub FramesOfWorkers : Type 0
FramesOfWorkers = (worker : ℕ → Known) (k : ℕ) (w : Known) → SameStanding (worker k) w → KeptByWorkers worker (put worker k w)
