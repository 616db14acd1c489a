-- A mutator claims pages, makes them 0 and opens them; and it stores words there ahead of a record's header.
use Rattle.std.specs.Prelude.{◌≡◌, ℕ, ◌+◌, ◌-◌, ◌*◌, ◌<◌, ◌≤◌, Bool, true, Some, [], ◌∷◌, ◌++◌, length, if◌then◌else◌}
use Rattle.space_map.specs.declared.area_word.AreaWord.{AreaWord}
use Rattle.space_map.specs.declared.page_word.PageWord.TheVariants.{Open}
use Rattle.space_map.specs.Spaces.{to_space, first_word}
use Rattle.heap_state.specs.Memory.Entries.{AreaIs, PageIs, WordIs}
use Rattle.heap_state.specs.Memory.Era.{Era, Memory}
use Rattle.heap_state.specs.Invariant.Ghost.{Ghost}
use Rattle.heap_state.specs.Known.{Known, Team, Stock, is_running}
use Rattle.heap_laws.specs.Steps.{Ready, IsAreaNow, Steps}
use Rattle.space_map.specs.declared.spaces.TheConstants.{PAGE_WORDS}

-- the worker with this stock
abbrev pub stocked : Known → Stock → Known
stocked w q = record w { stock = Some q }

-- worker k runs, and has this stock
pub record HasStock (team : Team) (k : ℕ) (q : Stock) : Type 0 where
  pub runs : is_running (team.worker k).post ≡ true
  pub has : (team.worker k).stock ≡ Some q

-- ---- pages claimed

-- The area has room for n pages, and so many words are owed from then on. While the epoch is not traced there is room beside the
-- words owed, and these stay.
pub record HasRoomForPages (E : Era) (m : Memory) (area : AreaWord) (n owed : ℕ) : Type 0 where
  pub room : area.front + PAGE_WORDS * n ≤ area.low
  pub beside : m.traced ≤ E.epoch → (owed ≡ area.owed) × (area.front + PAGE_WORDS * n + owed ≤ area.low)
  pub small : owed ≤ area.owed

-- the area with LOW n pages lower, and so much owed
abbrev pub lowered : AreaWord → (n owed : ℕ) → AreaWord
lowered area n owed = record { front = area.front; low = area.low - PAGE_WORDS * n; owed = owed }

-- what is owed beside the words that a worker claims: nothing any more, where it has seen that the epoch is traced
abbrev pub owed_beside : Bool → AreaWord → ℕ
owed_beside traced_seen area = if traced_seen then 0 else area.owed

-- a worker sees room for n pages beside the words owed
abbrev pub SeesRoom : Bool → AreaWord → ℕ → Type 0
SeesRoom traced_seen area n = area.front + PAGE_WORDS * n + owed_beside traced_seen area ≤ area.low

-- what it sees is so
abbrev pub RoomIsSeen : Type 0
RoomIsSeen = (E : Era) (m : Memory) (team : Team) (g : Ghost) (k n : ℕ) (area : AreaWord) → Ready E m team g k → SeesRoom (team.worker k).traced_seen area n
    → HasRoomForPages E m area n (owed_beside (team.worker k).traced_seen area)

-- n pages below LOW, nothing of them 0 or open yet, claimed in an epoch whose space has this first word
abbrev pub claimed : (epoch start : ℕ) → AreaWord → ℕ → Stock
claimed epoch start area n = record {
  epoch = epoch;
  at = start + (area.low - PAGE_WORDS * n);
  end = start + area.low;
  zeroed = start + (area.low - PAGE_WORDS * n);
  opened = start + (area.low - PAGE_WORDS * n);
  ahead = [];
}

-- the area word is exchanged by a running mutator
abbrev pub StocksAreClaimed : Type 0
StocksAreClaimed = (E : Era) (m : Memory) (team : Team) (g : Ghost) (k n owed : ℕ) (area : AreaWord) → Ready E m team g k → is_running (team.worker k).post ≡ true
    → IsAreaNow E m area → HasRoomForPages E m area n owed
    → Steps E m team g k (Some (AreaIs (to_space E.epoch) (lowered area n owed))) (stocked (team.worker k) (claimed (team.worker k).epoch E.start area n)) g

-- ---- words made 0

abbrev pub zeroed_further : Stock → Stock
zeroed_further q = record q { zeroed = q.zeroed + 1 }

-- 0 is stored in the next word of a stock
abbrev pub StocksAreZeroed : Type 0
StocksAreZeroed = (E : Era) (m : Memory) (team : Team) (g : Ghost) (k : ℕ) (q : Stock) → Ready E m team g k → HasStock team k q → q.zeroed < q.end
    → Steps E m team g k (Some (WordIs q.zeroed 0)) (stocked (team.worker k) (zeroed_further q)) g

-- ---- pages opened

abbrev pub opened_further : Stock → Stock
opened_further q = record q { opened = q.opened + PAGE_WORDS }

-- the page is the next one of the stock of worker k to open: all its words are 0
pub record OpensNext (team : Team) (k : ℕ) (q : Stock) (page : ℕ) : Type 0 where
  pub own : HasStock team k q
  pub blank : q.zeroed ≡ q.end
  pub at : first_word page ≡ q.opened
  pub more : q.opened < q.end

-- its word is stored
abbrev pub StocksAreOpened : Type 0
StocksAreOpened = (E : Era) (m : Memory) (team : Team) (g : Ghost) (k page : ℕ) (q : Stock) → Ready E m team g k → OpensNext team k q page
    → Steps E m team g k (Some (PageIs page (Open (team.worker k).epoch))) (stocked (team.worker k) (opened_further q)) g

-- ---- words stored ahead of a header

-- the stock with this word behind those stored ahead
abbrev pub with_ahead : Stock → ℕ → Stock
with_ahead q v = record q { ahead = q.ahead ++ v ∷ [] }

-- worker k runs, and has a run with room for one word more ahead of the next header, less than a page behind its place
pub record StoresAhead (team : Team) (k : ℕ) (q : Stock) : Type 0 where
  pub own : HasStock team k q
  pub run : (q.zeroed ≡ q.end) × (q.opened ≡ q.end)
  pub fits : q.at + 1 + length q.ahead < q.end
  pub near : length q.ahead + 1 < PAGE_WORDS

-- that word is stored
abbrev pub WordsAreStoredAhead : Type 0
WordsAreStoredAhead = (E : Era) (m : Memory) (team : Team) (g : Ghost) (k v : ℕ) (q : Stock) → Ready E m team g k → StoresAhead team k q
    → Steps E m team g k (Some (WordIs (q.at + 1 + length q.ahead) v)) (stocked (team.worker k) (with_ahead q v)) g
