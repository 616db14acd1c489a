-- Atomic steps that are several changes of what a worker knows.
use Rattle.std.specs.Prelude.{◌≡◌, ℕ, ◌+◌, ◌<◌, ◌≤◌, ◌⊎◌, true, Option, Some, None}
use Rattle.heap_words.specs.Decoded.{PointerWord, ForwardWord, decode}
use Rattle.space_map.specs.declared.page_word.PageWord.{PageWord}
use Rattle.space_map.specs.declared.page_word.PageWord.TheVariants.{Open}
use Rattle.heap_state.specs.Memory.Entries.{AnnounceIs}
use Rattle.heap_state.specs.Memory.Era.{Era, Memory}
use Rattle.heap_state.specs.Functions.{put}
use Rattle.heap_state.specs.Invariant.Ghost.{Ghost, Leads}
use Rattle.heap_state.specs.Known.{Known, Team, Register, Quest, Look, is_late}
use Rattle.heap_laws.specs.Composing.{ends_round}
use Rattle.heap_laws.specs.Flipping.Registers.{HasFoundCopy}
use Rattle.heap_laws.specs.Scanning.Claims.{MayClaim, claiming, claim_by_word}
use Rattle.heap_laws.specs.Steps.{Ready, Steps}
use Rattle.heap_laws.specs.Tracing.{IsLooking, looking}
use Rattle.space_map.specs.Spaces.{first_word}
use Rattle.space_map.specs.declared.spaces.TheConstants.{PAGE_WORDS}

-- ---- registers

-- Of registers that lead nowhere old before register j, this is what the worker asks for next: nothing, since all are done, or the
-- copy of the record that register j leads to.
pub data AsksAt (registers : ℕ → ℕ) (j : ℕ) : Option Quest → Type 0 where
  AllDone : j ≡ 8 → AsksAt registers j None
  AsksNext : (a : ℕ) → j < 8 → decode (registers j) ≡ PointerWord a → AsksAt registers j (Some (record { old = a; origin = Register j; found = None }))

-- the registers from one up to another lead nowhere old
abbrev pub LeadNowhere : Era → (registers : ℕ → ℕ) → (from to : ℕ) → Type 0
LeadNowhere E registers from to = (r : ℕ) → from ≤ r → r < to → ¬ (Leads E (registers r))

-- the worker has come to register j, and asks for this
abbrev pub come_to : Known → ℕ → Option Quest → Known
come_to w j q = record w { done = j; quest = q }

-- a late worker that asks for nothing passes its next registers, and asks for the copy of what the first pointer leads to
abbrev pub RegistersArePassed : Type 0
RegistersArePassed = (E : Era) (m : Memory) (team : Team) (g : Ghost) (k j : ℕ) (q : Option Quest) → Ready E m team g k → is_late E.epoch (team.worker k) ≡ true
    → (team.worker k).quest ≡ None → (team.worker k).done ≤ j → j ≤ 8 → LeadNowhere E (team.worker k).registers (team.worker k).done j → AsksAt (team.worker k).registers j q
    → Steps E m team g k None (come_to (team.worker k) j q) g

-- the worker whose register got the pointer v to a copy, and that has come to register j
abbrev pub forwarded_to : Known → (v j : ℕ) → Option Quest → Known
forwarded_to w v j q = record w { registers = put w.registers w.done v; done = j; quest = q }

-- a register's copy is found where its old record's header was loaded: the register gets the pointer, and the next ones are passed
abbrev pub RegistersFindForwards : Type 0
RegistersFindForwards = (E : Era) (m : Memory) (team : Team) (g : Ghost) (k : ℕ) (q : Quest) (len b v j : ℕ) (next : Option Quest) → Ready E m team g k → is_late E.epoch (team.worker k) ≡ true
    → (team.worker k).copy ≡ None → (team.worker k).linking ≡ None → (team.worker k).quest ≡ Some q → q.origin ≡ Register (team.worker k).done → (team.worker k).done < 8
    → decode (m.heap q.old) ≡ ForwardWord len b → decode v ≡ PointerWord b
    → (team.worker k).done < j → j ≤ 8 → LeadNowhere E (team.worker k).registers ((team.worker k).done + 1) j → AsksAt (team.worker k).registers j next
    → Steps E m team g k None (forwarded_to (team.worker k) v j next) g

-- the announce of a copy that was made for a register is cleared, with the same
abbrev pub RegistersAreSettled : Type 0
RegistersAreSettled = (E : Era) (m : Memory) (team : Team) (g : Ghost) (k : ℕ) (q : Quest) (b v j : ℕ) (next : Option Quest) → Ready E m team g k
    → (team.worker k).copy ≡ None → (team.worker k).linking ≡ None → HasFoundCopy E team k q b → decode v ≡ PointerWord b
    → (team.worker k).done < j → j ≤ 8 → LeadNowhere E (team.worker k).registers ((team.worker k).done + 1) j → AsksAt (team.worker k).registers j next
    → Steps E m team g k (Some (AnnounceIs k 0)) (forwarded_to (team.worker k) v j next) g

-- ---- rounds of the duty

-- the last full page is found open, and there is no filling page
abbrev pub LookingAtLastPageKeeps : Type 0
LookingAtLastPageKeeps = (E : Era) (m : Memory) (team : Team) (g : Ghost) (k : ℕ) (l : Look) (p : ℕ) → Ready E m team g k → IsLooking team k l
    → (p ≡ l.upto) ⊎ (first_word p ≡ l.start) → m.page p ≡ Open (team.worker k).epoch → ((q : ℕ) → first_word q < l.front → l.front < first_word q + PAGE_WORDS → ⊥)
    → Steps E m team g k None (looking (team.worker k) (record l { upto = p + 1; filled = true })) g

-- a claim begins, and what the round has read is forgotten
abbrev pub ClaimsBegin : Type 0
ClaimsBegin = (E : Era) (m : Memory) (team : Team) (g : Ghost) (k p : ℕ) (old : PageWord) → Ready E m team g k → (team.worker k).pass ≡ None → MayClaim E m team k p old
    → Steps E m team g k None (claiming (ends_round (team.worker k)) (claim_by_word old p)) g

-- a round ends, whatever it was about to do, but for a walk over the chain
abbrev pub RoundsEnd : Type 0
RoundsEnd = (E : Era) (m : Memory) (team : Team) (g : Ghost) (k : ℕ) → Ready E m team g k → (team.worker k).pass ≡ None → Steps E m team g k None (ends_round (team.worker k)) g
