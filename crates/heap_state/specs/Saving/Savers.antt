-- What a worker holds of checkpoints between two steps, by component.
use Rattle.std.specs.Prelude.{◌≡◌, ℕ, ◌*◌, ◌<◌, ◌≤◌, ◌⊎◌, Bool, true, false, Option, None}
use Rattle.space_map.specs.declared.gate_word.GateWord.{GateWord}
use Rattle.space_map.specs.declared.save_word.SaveWord.{SaveWord}
use Rattle.space_map.specs.Spaces.{board_page, to_space}

-- The save of a page: for which checkpoint, and what SAVE said when it was read; whether the exchange of SAVE was won; then how
-- many of the page's words are copied, and the next one, once it is loaded.
pub record SaveStep : Type 0 where
  pub page : ℕ
  pub number : ℕ
  pub found : SaveWord
  pub won : Bool
  pub copied : ℕ
  pub word : Option ℕ

-- A scanner's four reads, with which its round begins: it has read the gate, of this epoch; then SNAP; then DONE, another number.
pub data FirstReads : Type 0 where
  NoReads : FirstReads
  GateRead : (epoch : ℕ) → FirstReads
  SnapRead : (epoch number : ℕ) → FirstReads
  DoneRead : (epoch number : ℕ) → FirstReads

-- A round over the pages of an epoch, for a checkpoint: whether the board is passed, and the pages below `upto` are; whether one
-- of them was being saved by another worker; and the page that was found open and whose SAVE is read next. While it saves a page
-- nothing is passed.
pub record SaveRound : Type 0 where
  pub number : ℕ
  pub epoch : ℕ
  pub board : Bool
  pub upto : ℕ
  pub busy : Bool
  pub opened : Option ℕ

-- the round has passed the page
unfoldable pub HasPassed : (n : ℕ) → SaveRound → (page : ℕ) → Type 0
HasPassed n r page = ((page ≡ board_page n) × (r.board ≡ true)) ⊎ ((n * to_space r.epoch ≤ page) × (page < r.upto))

-- A worker: whether it is a mutator that runs, and whether it holds the request; whether it has read SNAP since it runs, whether
-- it reads DONE next, SNAP as read, and the checkpoint that was in progress then, or 0; whether it found DONE equal to SNAP, on its
-- way to a request or with one; the gate that it found with nobody running, as who begins a checkpoint; the page on which it writes
-- a word next, which it found saved or new; the claimed page that it has marked as new and opens next; the page that it saves; a
-- scanner's first reads; and its round.
pub record Saver : Type 0 where
  pub runs : Bool
  pub asks : Bool
  pub recalled : Bool
  pub reads_done : Bool
  pub snap : ℕ
  pub running : ℕ
  pub settled : Bool
  pub still : Option GateWord
  pub guarded : Option ℕ
  pub marked : Option ℕ
  pub save : Option SaveStep
  pub reads : FirstReads
  pub round : Option SaveRound

-- one that knows nothing of checkpoints
abbrev pub no_saver : Saver
no_saver = record {
  runs = false;
  asks = false;
  recalled = false;
  reads_done = false;
  snap = 0;
  running = 0;
  settled = false;
  still = None;
  guarded = None;
  marked = None;
  save = None;
  reads = NoReads;
  round = None;
}
