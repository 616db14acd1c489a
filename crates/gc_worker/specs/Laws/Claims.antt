-- Which pages are open when an epoch ends, and how they came to be.
use Rattle.std.specs.Prelude.{◌≡◌, ℕ, ◌+◌, ◌<◌, ◌≤◌, ◌⊎◌, List, length, Option, Some}
use Rattle.plain_state.specs.State.{Plain}
use Rattle.atom_store.specs.declared.step.Step.{Step}
use Rattle.atom_store.specs.Step.{words_after, reply_of}
use Rattle.atom_store.specs.declared.reply.Reply.{Reply}
use Rattle.space_map.specs.declared.area_word.AreaWord.{AreaWord}
use Rattle.space_map.specs.declared.page_word.PageWord.TheVariants.{Open}
use Rattle.space_map.specs.AreaWord.{decode_area}
use Rattle.space_map.specs.PageWord.{decode_page}
use Rattle.space_map.specs.Spaces.{board_page, first_word, space_start, to_space}
use Rattle.space_map.specs.Table.{Area, Page}
use Rattle.heap_state.specs.Memory.Table.{word_in}
use Rattle.gc_worker.specs.Laws.Copied.{IsTraced}
use Rattle.gc_worker.specs.Workers.Held.{Held}
use Rattle.gc_worker.specs.Laws.Step.{Heap, WorkersStand, held_at, epoch_of, age}
use Rattle.gc_worker.specs.Steps.Turned.{Marks, PageWon, told, won}
use Rattle.gc_worker.specs.Steps.Wanted.{wanted}

abbrev pub epoch_of_heap : Heap → ℕ
epoch_of_heap h = epoch_of h.pages h.words

-- a page for copies: one of the space of the gate's epoch that begins below FRONT
pub record IsCopiedPage (h : Heap) (page : ℕ) : Type 0 where
  pub area : AreaWord
  pub area_is : decode_area (word_in h.pages h.words (Area (to_space (epoch_of_heap h)))) ≡ Some area
  pub from : space_start h.pages (to_space (epoch_of_heap h)) ≤ first_word page
  pub below : first_word page < space_start h.pages (to_space (epoch_of_heap h)) + area.front

-- the board and all those are open in the gate's epoch
abbrev pub CopiedPagesAreOpen : Heap → Type 0
CopiedPagesAreOpen h = (page : ℕ) → (page ≡ board_page h.pages) ⊎ IsCopiedPage h page → decode_page (word_in h.pages h.words (Page page)) ≡ Some (Open (epoch_of_heap h))

-- they are once the epoch is traced
abbrev pub TracedPagesAreOpen : Type 0
TracedPagesAreOpen = (h : Heap) (p o : Plain) → WorkersStand h p o → IsTraced h → CopiedPagesAreOpen h

-- and no step flips before that
abbrev pub FlipsAreOfTraced : Type 0
FlipsAreOfTraced = (h : Heap) (p o : Plain) (k : ℕ) (x : Held) (reply : Reply) (asked : ℕ) → WorkersStand h p o → k < length h.workers → held_at h k ≡ x
    → told x reply ≡ Marks asked → IsTraced h

-- ---- pages that are claimed

-- a page of the space of the gate's epoch that begins below LOW
pub record IsBelowLow (n : ℕ) (words : List ℕ) (page : ℕ) : Type 0 where
  pub area : AreaWord
  pub area_is : decode_area (word_in n words (Area (to_space (epoch_of n words)))) ≡ Some area
  pub from : space_start n (to_space (epoch_of n words)) ≤ first_word page
  pub below : first_word page < space_start n (to_space (epoch_of n words)) + area.low

-- the board, or such a page
abbrev pub IsForCopies : ℕ → List ℕ → (page : ℕ) → Type 0
IsForCopies n words page = (page ≡ board_page n) ⊎ IsBelowLow n words page

-- and its word is of the gate's epoch: it is open in it, or being scanned
pub record IsOfEpoch (n : ℕ) (words : List ℕ) (page : ℕ) : Type 0 where
  pub for_copies : IsForCopies n words page
  pub word : age n words page ≡ epoch_of n words + 1

-- a page that is so after a step was so before it, in the same epoch, or the step won it
abbrev pub ComesByClaim : (n : ℕ) (words later : List ℕ) → Option PageWon → (page : ℕ) → Type 0
ComesByClaim n words later w page =
    ((epoch_of n later ≡ epoch_of n words) × IsOfEpoch n words page) ⊎ (w ≡ Some (record { page = page; epoch = epoch_of n later }))

abbrev pub PagesAreOpenedByClaims : Type 0
PagesAreOpenedByClaims = (h : Heap) (p o : Plain) (k : ℕ) (x : Held) (q : Step) (page : ℕ) → WorkersStand h p o → k < length h.workers → held_at h k ≡ x
    → wanted x ≡ Some q → IsOfEpoch h.pages (words_after q h.words) page → ComesByClaim h.pages h.words (words_after q h.words) (won x (reply_of q h.words)) page

-- LOW rises at a flip alone
abbrev pub LowRisesAtFlips : Type 0
LowRisesAtFlips = (h : Heap) (p o : Plain) (k : ℕ) (x : Held) (q : Step) (page : ℕ) → WorkersStand h p o → k < length h.workers → held_at h k ≡ x
    → wanted x ≡ Some q → epoch_of h.pages (words_after q h.words) ≡ epoch_of h.pages h.words
    → IsBelowLow h.pages (words_after q h.words) page → IsBelowLow h.pages h.words page

-- and the pages into which records were copied lie below it
abbrev pub CopiedPagesAreBelowLow : Type 0
CopiedPagesAreBelowLow = (h : Heap) (p o : Plain) (page : ℕ) → WorkersStand h p o → IsCopiedPage h page → IsBelowLow h.pages h.words page
