-- Pages that are claimed, scanned and opened.
use Rattle.std.specs.Prelude.{◌≡◌, ℕ, ◌+◌, ◌<◌, ◌≤◌, ◌⊎◌, true, false, Some, None}
use Rattle.space_map.specs.declared.page_word.PageWord.{PageWord}
use Rattle.space_map.specs.declared.page_word.PageWord.TheVariants.{Open, Scanning}
use Rattle.space_map.specs.PageWord.{age_of}
use Rattle.heap_state.specs.Memory.Era.{Era, Memory}
use Rattle.heap_state.specs.Invariant.Ghost.{Ghost}
use Rattle.heap_state.specs.Known.{Known, Team, Round, Claim, Scan}
use Rattle.heap_state.specs.Memory.Entries.{PageIs}
use Rattle.heap_laws.specs.Steps.{Ready, Steps}
use Rattle.space_map.specs.Spaces.{page_of, first_word}
use Rattle.space_map.specs.declared.spaces.TheConstants.{PAGE_WORDS}

-- ---- a claim is made ready

-- the worker with this claim
abbrev pub claiming : Known → Claim → Known
claiming w q = record w { claim = Some q }

-- Worker k has read, now or before, a page's word of an epoch before its own. Where its epoch is the current one, the page is full
-- by FRONT as it reads it now or has read it in this round, or it is the board.
pub record MayClaim (E : Era) (m : Memory) (team : Team) (k p : ℕ) (old : PageWord) : Type 0 where
  pub earlier : age_of old ≤ (team.worker k).epoch
  pub full : (team.worker k).epoch ≡ E.epoch → (p ≡ page_of E.board)
      ⊎ ((E.start ≤ first_word p) × ((first_word p + PAGE_WORDS ≤ m.front) ⊎ ((r : Round) × (f : ℕ) × ((team.worker k).round ≡ Some r) × (r.front ≡ Some f) × (first_word p + PAGE_WORDS ≤ f))))

abbrev pub claim_by_word : PageWord → ℕ → Claim
claim_by_word old p = record { page = p; old = old; in_place = false; looked = 0; sure = false }

abbrev pub BeginningClaimKeeps : Type 0
BeginningClaimKeeps = (E : Era) (m : Memory) (team : Team) (g : Ghost) (k p : ℕ) (old : PageWord) → Ready E m team g k → MayClaim E m team k p old
    → Steps E m team g k None (claiming (team.worker k) (claim_by_word old p)) g

-- the place that the next worker announces does not begin below the end of the page
pub record SeesNoPlace (m : Memory) (team : Team) (k : ℕ) (q : Claim) : Type 0 where
  pub claims : (team.worker k).claim ≡ Some q
  pub free : (m.announced q.looked ≡ 0) ⊎ (first_word q.page + PAGE_WORDS < m.announced q.looked)

abbrev pub LookingAtPlaceKeeps : Type 0
LookingAtPlaceKeeps = (E : Era) (m : Memory) (team : Team) (g : Ghost) (k : ℕ) (q : Claim) → Ready E m team g k → SeesNoPlace m team k q
    → Steps E m team g k None (claiming (team.worker k) (record q { looked = q.looked + 1 })) g

-- the gate is read again, and is of the worker's epoch
pub record SeesGateAgain (m : Memory) (team : Team) (k : ℕ) (q : Claim) : Type 0 where
  pub claims : (team.worker k).claim ≡ Some q
  pub same : m.gate.epoch ≡ (team.worker k).epoch

abbrev pub LookingAtGateKeeps : Type 0
LookingAtGateKeeps = (E : Era) (m : Memory) (team : Team) (g : Ghost) (k : ℕ) (q : Claim) → Ready E m team g k → SeesGateAgain m team k q
    → Steps E m team g k None (claiming (team.worker k) (record q { sure = true })) g

-- ---- a page is claimed

-- Worker k wins the exchange of a page's word: each announced place was looked at, or the page is the board or claimed as the
-- filling one; the gate was read again; and the page has the word that was read.
pub record WinsPage (E : Era) (m : Memory) (team : Team) (k : ℕ) (q : Claim) : Type 0 where
  pub claims : (team.worker k).claim ≡ Some q
  pub looked : (team.count ≤ q.looked) ⊎ ((q.in_place ≡ true) ⊎ (q.page ≡ page_of E.board))
  pub sure : q.sure ≡ true
  pub idle : (team.worker k).scan ≡ None
  pub unchanged : m.page q.page ≡ q.old

-- the scan that a won claim begins, at the page's first word
abbrev pub scan_from : Claim → Scan
scan_from q = record { page = q.page; cursor = first_word q.page; in_place = q.in_place; over = None; headed = None; current = None; inner = false; ended = false }

-- the worker that scans the page that it claimed
abbrev pub begins_scan : Known → Claim → Known
begins_scan w q = record w { scan = Some (scan_from q); claim = None }

-- only a worker of the current epoch wins a page, and what it does keeps all
pub record ClaimsPage (E : Era) (m : Memory) (team : Team) (g : Ghost) (k : ℕ) (q : Claim) : Type 0 where
  pub now : (team.worker k).epoch ≡ E.epoch
  pub steps : Steps E m team g k (Some (PageIs q.page (Scanning (team.worker k).epoch k))) (begins_scan (team.worker k) q) g

abbrev pub ClaimingKeeps : Type 0
ClaimingKeeps = (E : Era) (m : Memory) (team : Team) (g : Ghost) (k : ℕ) (q : Claim) → Ready E m team g k → WinsPage E m team k q
    → ClaimsPage E m team g k q

-- who slept past a flip finds that the page has another word, once it had read the gate again
abbrev pub SleeperLosesPage : Type 0
SleeperLosesPage = (E : Era) (m : Memory) (team : Team) (g : Ghost) (k : ℕ) (q : Claim) → Ready E m team g k
    → (team.worker k).claim ≡ Some q → q.sure ≡ true → (team.worker k).epoch < E.epoch → ¬ (m.page q.page ≡ q.old)

-- ---- a page is opened

-- worker k scans a page of which nothing is left to pass
pub record HasScanned (team : Team) (k : ℕ) (s : Scan) : Type 0 where
  pub scans : (team.worker k).scan ≡ Some s
  pub ended : s.ended ≡ true

-- the worker that scans no page
abbrev pub ends_scan : Known → Known
ends_scan w = record w { scan = None }

-- who opens a page is of the current epoch, and what it does keeps all
pub record OpensScannedPage (E : Era) (m : Memory) (team : Team) (g : Ghost) (k : ℕ) (s : Scan) : Type 0 where
  pub now : (team.worker k).epoch ≡ E.epoch
  pub was : m.page s.page ≡ Scanning E.epoch k
  pub steps : Steps E m team g k (Some (PageIs s.page (Open (team.worker k).epoch))) (ends_scan (team.worker k)) g

abbrev pub OpeningKeeps : Type 0
OpeningKeeps = (E : Era) (m : Memory) (team : Team) (g : Ghost) (k : ℕ) (s : Scan) → Ready E m team g k → HasScanned team k s
    → OpensScannedPage E m team g k s
