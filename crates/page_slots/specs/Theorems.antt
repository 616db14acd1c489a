-- What is proved of the claim and the opening of a page, by the words on which they make their steps.
use Rattle.std.specs.Prelude.{◌≡◌, ◌≢◌, ℕ, ◌+◌, ◌<◌, ◌≤◌, List, Some}
use Rattle.atom_store.specs.declared.turn.Turn.TheVariants.{Finished}
use Rattle.atom_store.specs.Acts.{MakesStep}
use Rattle.space_map.specs.declared.gate_word.GateWord.{GateWord}
use Rattle.space_map.specs.declared.page_word.PageWord.{PageWord}
use Rattle.space_map.specs.declared.page_word.PageWord.TheVariants as page_word
use Rattle.space_map.specs.declared.spaces.TheConstants.{LAST_WORKER}
use Rattle.space_map.specs.GateWord.{decode_gate}
use Rattle.space_map.specs.PageWord.{IsEarlier, decode_page, encode_page}
use Rattle.space_map.specs.Spaces.{first_word}
use Rattle.space_map.specs.Table.{Gate, Page, Announce}
use Rattle.space_map.specs.TableWords.{row_word, HoldsTable, ChangesOnly}
use Rattle.page_slots.specs.declared.claimed.Claimed.TheVariants.{Won, Taken}
use Rattle.page_slots.specs.declared.opened.Opened.{Opened}
use Rattle.page_slots.specs.Claim.{Claiming, claim_machine}
use Rattle.page_slots.specs.Open.{Opening, open_machine}
use Rattle.page_slots.specs.Soundness.{IsSoundClaim, IsSoundOpening}

-- ---- the claim

-- the page's word said no epoch, or one before the claim's, and says then that this worker scans it; no other word changes
pub record WinsPage (c : Claiming) (before after : List ℕ) : Type 0 where
  pub found : PageWord
  pub was : decode_page (row_word c.layout.pages (Page c.page) before) ≡ Some found
  pub earlier : IsEarlier found c.epoch
  pub is : decode_page (row_word c.layout.pages (Page c.page) after) ≡ Some (page_word.Scanning c.epoch c.worker)
  pub others : ChangesOnly c.layout.pages (Page c.page) before after

abbrev pub WonPagesAreClaimed : Type 0
WonPagesAreClaimed = (c : Claiming) (before after : List ℕ) → IsSoundClaim c → HoldsTable c.layout.pages before
    → MakesStep claim_machine c before after (Finished Won) → WinsPage c before after

-- A word of the table shows that a page is not to be had: a place is announced below the page's end, the gate is of another
-- epoch than the claim, or the page's word is no longer the one that was read.
pub data ShowsTaken (c : Claiming) (words : List ℕ) (word : ℕ) : Type 0 where
  Announced : (k : ℕ) → k ≤ LAST_WORKER → word ≡ row_word c.layout.pages (Announce k) words → 0 < word → word ≤ first_word (c.page + 1) → ShowsTaken c words word
  OtherEpoch : (gate : GateWord) → word ≡ row_word c.layout.pages Gate words → decode_gate word ≡ Some gate → gate.epoch ≢ c.epoch → ShowsTaken c words word
  OtherWord : word ≡ row_word c.layout.pages (Page c.page) words → word ≢ encode_page c.found → ShowsTaken c words word

abbrev pub TakenPagesShowIt : Type 0
TakenPagesShowIt = (c : Claiming) (before after : List ℕ) (word : ℕ) → IsSoundClaim c
    → MakesStep claim_machine c before after (Finished (Taken word)) → ShowsTaken c before word × (after ≡ before)

-- ---- the opening

-- the page's word says then that the page is open in this epoch; no other word changes
pub record LeavesPageOpen (o : Opening) (before after : List ℕ) : Type 0 where
  pub is : decode_page (row_word o.layout.pages (Page o.page) after) ≡ Some (page_word.Open o.epoch)
  pub others : ChangesOnly o.layout.pages (Page o.page) before after

abbrev pub OpenedPagesAreOpen : Type 0
OpenedPagesAreOpen = (o : Opening) (before after : List ℕ) (outcome : Opened) → IsSoundOpening o → HoldsTable o.layout.pages before
    → MakesStep open_machine o before after (Finished outcome) → LeavesPageOpen o before after
