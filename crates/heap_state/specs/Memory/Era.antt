-- An epoch with its two spaces, and what of the table its workers speak of.
use Rattle.std.specs.Prelude.{◌≡◌, ℕ, ◌+◌, ◌*◌, ◌%◌, ◌≤◌, ◌⊎◌}
use Rattle.space_map.specs.declared.gate_word.GateWord.{GateWord}
use Rattle.space_map.specs.declared.page_word.PageWord.{PageWord}
use Rattle.space_map.specs.Spaces.{to_space, space_start, first_word, board_page}
use Rattle.heap_state.specs.Memory.Table.{Table}
use Rattle.space_map.specs.declared.spaces.TheConstants.{PAGE_WORDS}

-- An epoch; the first word and the number of words of its space, into which records are copied, and of the old space,
-- which they are copied from; and the board's first word.
pub record Era : Type 0 where
  pub epoch : ℕ
  pub start : ℕ
  pub span : ℕ
  pub old_start : ℕ
  pub old_span : ℕ
  pub board : ℕ

-- the space that is not the epoch's
abbrev pub from_space : ℕ → ℕ
from_space epoch = to_space (epoch + 1)

-- an epoch of a heap with n pages a space, of which these are in use
abbrev pub era_at : ℕ → (ℕ → ℕ) → ℕ → Era
era_at n in_use epoch = record {
  epoch = epoch;
  start = space_start n (to_space epoch);
  span = PAGE_WORDS * in_use (to_space epoch);
  old_start = space_start n (from_space epoch);
  old_span = PAGE_WORDS * in_use (from_space epoch);
  board = first_word (board_page n);
}

abbrev pub era_of : Table → Era
era_of t = era_at t.pages t.in_use t.gate.epoch

-- the spaces are of whole pages, apart, and below the board
pub record IsLaidOut (E : Era) : Type 0 where
  pub start : E.start % PAGE_WORDS ≡ 0
  pub span : E.span % PAGE_WORDS ≡ 0
  pub old_start : E.old_start % PAGE_WORDS ≡ 0
  pub old_span : E.old_span % PAGE_WORDS ≡ 0
  pub board : E.board % PAGE_WORDS ≡ 0
  pub apart : (E.start + E.span ≤ E.old_start) ⊎ (E.old_start + E.old_span ≤ E.start)
  pub below : E.start + E.span ≤ E.board
  pub old_below : E.old_start + E.old_span ≤ E.board

-- ---- the table as the epoch sees it

-- The table in its epoch: FRONT, LOW and owed are the epoch's, and as addresses; the old ones are those of the old space. `weak` is the
-- word of WEAK, and `weak_turn` that of WEAKTURN.
pub record Memory : Type 0 where
  pub gate : GateWord
  pub traced : ℕ
  pub front : ℕ
  pub low : ℕ
  pub owed : ℕ
  pub old_front : ℕ
  pub old_low : ℕ
  pub old_owed : ℕ
  pub weak : ℕ
  pub weak_turn : ℕ
  pub page : ℕ → PageWord
  pub cross : ℕ → ℕ
  pub heap : ℕ → ℕ
  pub announced : ℕ → ℕ

abbrev pub memory_of : Table → Memory
memory_of t = record {
  gate = t.gate;
  traced = t.traced;
  front = space_start t.pages (to_space t.gate.epoch) + (t.area (to_space t.gate.epoch)).front;
  low = space_start t.pages (to_space t.gate.epoch) + (t.area (to_space t.gate.epoch)).low;
  owed = (t.area (to_space t.gate.epoch)).owed;
  old_front = space_start t.pages (from_space t.gate.epoch) + (t.area (from_space t.gate.epoch)).front;
  old_low = space_start t.pages (from_space t.gate.epoch) + (t.area (from_space t.gate.epoch)).low;
  old_owed = (t.area (from_space t.gate.epoch)).owed;
  weak = t.weak;
  weak_turn = t.weak_turn;
  page = t.page;
  cross = t.cross;
  heap = t.heap;
  announced = t.announced;
}
