-- The invariant that each step keeps, in one place.
use Rattle.std.specs.Prelude.{◌≡◌, ℕ, ◌+◌, ◌*◌, ◌<◌, ◌≤◌, ◌⊎◌, true, false, Some, None, is_some}
use Rattle.space_map.specs.declared.gate_word.GateWord.{GateWord}
use Rattle.space_map.specs.declared.page_word.PageWord.{PageWord}
use Rattle.space_map.specs.declared.page_word.PageWord.TheVariants.{Open}
use Rattle.space_map.specs.declared.spaces.TheConstants.{PAGE_WORDS}
use Rattle.heap_state.specs.Memory.Era.{Era, Memory}
use Rattle.heap_state.specs.Invariant.Ghost.{Ghost}
use Rattle.heap_state.specs.Invariant.Parts.Cells.{Cells}
use Rattle.heap_state.specs.Known.{Known, Team, Outside, Stock, GateStep, Reset, Access, Quest, Copy, Scan, Round, Claim, Look, LastLook, is_mutator, is_running, is_flipper, is_asking, is_late, is_sized}
use Rattle.heap_state.specs.Invariant.Parts.Records.{Laid, Headed, NewArea, NewWritten, RawWords, Counts}
use Rattle.heap_state.specs.Invariant.Parts.Copies.{Copied, Once, Keepers, Room}
use Rattle.heap_state.specs.Invariant.Parts.Pages.{Shut, Filling, Tracing, Aged, OldPages, Sizes, ScannedBy}
use Rattle.heap_state.specs.Invariant.Parts.Leading.{Opened, Landing, Older}
use Rattle.heap_state.specs.Invariant.Parts.Gate.{Counted, Staffed}
use Rattle.heap_state.specs.Invariant.Parts.Stocks.{Stocks, Numbered}
use Rattle.heap_state.specs.Invariant.Parts.OldSpace.{OldSpace, OldArea}
use Rattle.heap_state.specs.Invariant.Parts.Crossing.{Crossing}
use Rattle.heap_state.specs.Invariant.Parts.Knowledge.{Timely, Ends, Passes, Resets, Clean, Accesses}
use Rattle.heap_state.specs.Invariant.Parts.Copying.{IsOrigin, Seeks, Copies, Keeps, Licensed}
use Rattle.heap_state.specs.Invariant.Parts.Scanning.{Scans, Stepping, Rounds, Claims, Looks, LastLooks}

-- what a worker knows of pages, in a round of the duty
pub record KnowsAtPages (E : Era) (traced front behind : ℕ) (size writer : ℕ → ℕ) (page : ℕ → PageWord) (w : Known) : Type 0 where
  pub round : (r : Round) → w.round ≡ Some r → Rounds E traced front w.epoch r
  pub claim : (c : Claim) → w.claim ≡ Some c → Claims E front behind size writer page w.epoch c
  pub look : (l : Look) → w.look ≡ Some l → Looks E behind front page w.epoch l
  pub last_look : (l : LastLook) → w.last_look ≡ Some l → LastLooks E traced behind front page w.epoch l

-- what worker k knows
pub record Knows (E : Era) (gate : GateWord) (traced front low old_front old_low old_owed : ℕ) (g : Ghost) (page : ℕ → PageWord) (cross announced heap : ℕ → ℕ) (k : ℕ) (w : Known) : Type 0 where
  pub timely : Timely E w.post w.epoch w.done
  pub ends : Ends w.post (is_some w.account.end)
  pub outside : w.post ≡ Outside → (j : ℕ) → j < 8 → w.registers j ≡ 0
  pub stock : (q : Stock) → w.stock ≡ Some q → q.epoch ≡ w.epoch
  pub registers : is_mutator w.post ≡ true → w.account.end ≡ None → Clean E g.size g.writer (is_late E.epoch w) w.done w.registers
  pub active : (f : Access) → w.access ≡ Some f → is_running w.post ≡ true
  pub access : (f : Access) → w.access ≡ Some f → Accesses E g.size g.writer g.kind f
  pub opened : (p : ℕ) → w.opened ≡ Some p → (is_running w.post ≡ true) × (page p ≡ Open E.epoch)
  pub origin : (q : Quest) → w.quest ≡ Some q → IsOrigin E g.size g.writer g.kind heap (is_late E.epoch w) w.done w.registers w.scan q.old q.origin
  pub quest : (q : Quest) → w.quest ≡ Some q → Seeks E g.size g.writer g.copy q
  pub licensed : Licensed gate.behind g.kept k (is_late E.epoch w) w.copy w.quest w.scan
  pub copy : (c : Copy) → w.copy ≡ Some c → Copies E front g.size g.writer g.copy g.keeper g.kept announced cross heap k c
  pub keeps : (c : Copy) → w.copy ≡ Some c → Keeps g.kind g.identity heap c
  pub present : (s : Scan) → w.scan ≡ Some s → w.epoch ≡ E.epoch
  pub scan : (s : Scan) → w.scan ≡ Some s → Scans E front g.size g.writer g.kind heap page k s
  pub stepping : (s : Scan) → w.scan ≡ Some s → Stepping E front g.size g.writer g.kind s
  pub pages : KnowsAtPages E traced front gate.behind g.size g.writer page w
  pub seen_traced : w.traced_seen ≡ true → ((is_running w.post ≡ true) ⊎ (is_asking w.post ≡ true)) × (traced ≡ E.epoch + 1)
  pub size_seen : (p : ℕ) → w.size_seen ≡ Some p → (is_running w.post ≡ true) × (E.span ≡ PAGE_WORDS * p)
  pub asks : is_asking w.post ≡ true → w.traced_seen ≡ true
  pub passage : (s : GateStep) → w.gate_step ≡ Some s → Passes w.post w.epoch w.done (is_some w.account.end) w.traced_seen s.read s.passage
  pub resets : (r : Reset) → w.reset ≡ Some r → is_flipper w.post ≡ true
  pub reset : (r : Reset) → w.reset ≡ Some r → Resets E gate front low old_front old_low old_owed r
  pub unsized : is_asking w.post ≡ true → is_sized w.reset ≡ false → E.old_span ≤ E.span

-- the invariant of a memory and its team, with what the proofs know beside
pub record Invariant (E : Era) (m : Memory) (team : Team) (g : Ghost) : Type 0 where
  pub counted : Counted m.gate team.count team.worker
  pub staffed : Staffed team.mutators team.count team.worker
  pub laid : Laid E m.front m.low g.size
  pub headed : Headed g.size g.writer g.copy g.keeper g.kind g.identity m.heap
  pub copied : Copied E m.front g.size g.writer g.copy g.keeper g.kind g.identity g.kept
  pub once : Once g.size g.copy g.identity
  pub kept : Keepers g.size g.keeper team.count
  pub room : Room E m.traced m.front m.low m.owed g.size g.copy
  pub raw_words : RawWords g.size g.writer g.kind m.heap
  pub counts : Counts g.size g.writer g.kind m.heap
  pub shut : Shut E m.front m.low g.size g.writer m.page
  pub filling : Filling E m.gate.behind m.front m.page
  pub tracing : Tracing E m.traced m.gate.behind m.front m.page
  pub aged : Aged E m.page
  pub scanned : ScannedBy E team.count m.page team.worker
  pub opened : Opened E g.size g.writer g.kind m.heap m.page
  pub landing : Landing E g.size g.writer g.kind m.heap
  pub older : Older E g.size g.writer g.kind m.heap
  pub new : NewArea m.low (E.start + E.span) E.epoch g.size m.heap m.page
  pub new_written : NewWritten E m.low g.size g.writer
  pub old_space : OldSpace E m.traced m.old_front m.old_low g.size m.heap m.page
  pub old_area : OldArea E m.old_front m.old_low
  pub old_pages : OldPages E m.old_front m.page
  pub sizes : Sizes E m.gate.request
  pub crossing : Crossing E m.front g.size g.writer m.cross
  pub stocks : Stocks E m.low team.count g.size m.heap m.page team.worker
  pub numbered : Numbered team.mutators g.size g.identity team.worker
  pub cells : Cells E m team g
  pub workers : (k : ℕ) → k < team.count
      → Knows E m.gate m.traced m.front m.low m.old_front m.old_low m.old_owed g m.page m.cross m.announced m.heap k (team.worker k)
