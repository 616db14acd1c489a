-- Words claimed for new records.
use Rattle.std.specs.Prelude.{◌≡◌, ◌≢◌, ℕ, ◌+◌, ◌%◌, ◌<◌, ◌≤◌, ◌⊎◌, Some, length, slice_get}
use Rattle.plain_state.specs.declared.value.Identity.{Identity}
use Rattle.space_map.specs.declared.page_word.PageWord.{PageWord}
use Rattle.space_map.specs.declared.page_word.PageWord.TheVariants.{Open}
use Rattle.space_map.specs.PageWord.{age_of}
use Rattle.heap_state.specs.Memory.Era.{Era}
use Rattle.heap_state.specs.Invariant.Parts.Records.{WalkComesTo}
use Rattle.heap_state.specs.Known.{Known, Stock, IsNotAhead}
use Rattle.space_map.specs.Spaces.{page_of, first_word}
use Rattle.space_map.specs.declared.spaces.TheConstants.{PAGE_WORDS}

-- A stock of this epoch lies from LOW up, and no record in it. Its words are 0 as far as they were stored, its pages open
-- as far as they were opened, which begins when all words are 0. Once all are open, words may be stored ahead of the next
-- record's header, behind the place and before the end; these are as they were stored. It begins a page, or ends a record and is
-- open; then it lies on one page.
pub record Stocked (E : Era) (low : ℕ) (size heap : ℕ → ℕ) (page : ℕ → PageWord) (q : Stock) : Type 0 where
  pub lies : (low ≤ q.at) × (q.at ≤ q.end) × (q.end ≤ E.start + E.span)
  pub so_far : (q.at ≤ q.zeroed) × (q.zeroed ≤ q.end) × (q.opened ≤ q.end)
  pub aligned : (q.end % PAGE_WORDS ≡ 0) × (q.opened % PAGE_WORDS ≡ 0)
  pub empty : (a : ℕ) → 0 < size a → (a + size a ≤ q.at) ⊎ (q.end ≤ a)
  pub zeros : (x : ℕ) → q.at ≤ x → x < q.zeroed → IsNotAhead q x → heap x ≡ 0
  pub ahead : (i w : ℕ) → slice_get q.ahead i ≡ Some w → heap (q.at + 1 + i) ≡ w
  pub fits : 0 < length q.ahead → (q.zeroed ≡ q.end) × (q.opened ≡ q.end) × (q.at + length q.ahead < q.end)
  pub shut : (p : ℕ) → q.opened ≤ first_word p → first_word p + PAGE_WORDS ≤ q.end → age_of (page p) ≤ E.epoch
  pub opens : (x : ℕ) → q.at ≤ x → x < q.opened → page (page_of x) ≡ Open E.epoch
  pub order : (q.opened ≤ q.at) ⊎ (q.zeroed ≡ q.end)
  pub whole : (q.at ≤ q.opened) × ((q.opened ≡ q.end) ⊎ (q.at % PAGE_WORDS ≡ 0))
  pub after : WalkComesTo size q.at
  pub on_page : (q.at % PAGE_WORDS ≡ 0) ⊎ (q.end ≤ first_word (page_of q.at + 1))

-- Each stock of this epoch is as it should be, and no two share a word.
pub record Stocks (E : Era) (low count : ℕ) (size heap : ℕ → ℕ) (page : ℕ → PageWord) (worker : ℕ → Known) : Type 0 where
  pub stocked : (k : ℕ) → k < count → (q : Stock) → (worker k).stock ≡ Some q → q.epoch ≡ E.epoch → Stocked E low size heap page q
  pub apart : (j k : ℕ) → j < count → k < count → j ≢ k → (p q : Stock) → (worker j).stock ≡ Some p → (worker k).stock ≡ Some q
      → p.epoch ≡ E.epoch → q.epoch ≡ E.epoch → (p.end ≤ q.at) ⊎ (q.end ≤ p.at)

-- a record is of a mutator that there is, which has made as many records as its serial says, or more
pub record Numbered (mutators : ℕ) (size : ℕ → ℕ) (identity : ℕ → Identity) (worker : ℕ → Known) : Type 0 where
  pub maker : (a : ℕ) → 0 < size a → (identity a).mutator < mutators
  pub last : (a : ℕ) → 0 < size a → (identity a).serial ≤ (worker (identity a).mutator).account.serial
