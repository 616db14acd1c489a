-- What is proved of allocation, by the words on which it makes its steps.
use Rattle.std.specs.Prelude.{◌≡◌, ◌≢◌, ℕ, ◌+◌, ◌-◌, ◌*◌, ◌<◌, ◌≤◌, ◌↔◌, ⊤, Bool, IsTrue, List, Some}
use Rattle.atom_store.specs.declared.turn.Turn.{Turn}
use Rattle.atom_store.specs.declared.turn.Turn.TheVariants.{Finished}
use Rattle.atom_store.specs.Acts.{MakesStep, after_next_step}
use Rattle.atom_store.specs.StepOn.{Store}
use Rattle.heap_words.specs.declared.kind.Kind.{Kind}
use Rattle.heap_words.specs.declared.kind.Kind.TheVariants.{Fields, Raw, Mixed, Weak}
use Rattle.heap_words.specs.Decoded.{encode}
use Rattle.heap_words.specs.Word.{number_word}
use Rattle.record_layout.specs.declared.header.Header.{Header}
use Rattle.record_layout.specs.Layout.{header_says}
use Rattle.space_map.specs.declared.area_word.AreaWord.{AreaWord}
use Rattle.space_map.specs.declared.page_word.PageWord.TheVariants.{Open}
use Rattle.space_map.specs.declared.save_word.SaveWord.TheVariants.{New}
use Rattle.space_map.specs.AreaWord.{decode_area, encode_area}
use Rattle.space_map.specs.PageWord.{decode_page}
use Rattle.space_map.specs.SaveWord.{decode_save}
use Rattle.space_map.specs.Spaces.{Layout, to_space, page_of}
use Rattle.space_map.specs.Table.{Traced, Area, Size, Page, HeapWord, SaveOf}
use Rattle.space_map.specs.TableWords.{row_word, HoldsTable, ChangesOnly}
use Rattle.space_map.specs.WholeTable.{Within, Behind, HoldsWhole, whole_word}
use Rattle.alloc_end.specs.declared.fitting.Fitting.{Fitting}
use Rattle.alloc_end.specs.declared.new_pages.NewPages.{NewPages}
use Rattle.alloc_end.specs.declared.run.Run.{Run}
use Rattle.alloc_end.specs.declared.shortage.Shortage.{Shortage}
use Rattle.alloc_end.specs.declared.allocated.Allocated.{Allocated}
use Rattle.alloc_end.specs.declared.allocated.Allocated.TheVariants.{Placed, Full}
use Rattle.alloc_end.specs.declared.place_stage.PlaceStage.{PlaceStage}
use Rattle.alloc_end.specs.declared.place_stage.PlaceStage.TheVariants.{LoadsTraced, LoadsSize, LoadsArea, ExchangesArea, StoresZero, StoresNew, OpensPage, StoresCount, StoresTarget, StoresLink, StoresHeader, Ended}
use Rattle.alloc_end.specs.Place.{Placing, begun, wants_at, at_stage, size_of, pages_for, words_for, kept_room, room_in, area_after, first_claimed, shortage, place_machine}
use Rattle.alloc_end.specs.Soundness.{IsSoundPlacing}

-- the area of the space that is copied into
abbrev pub area_word : Placing → List ℕ → ℕ
area_word p words = row_word p.layout.pages (Area (to_space p.epoch)) words

-- ---- TRACED

-- whether room has to be kept is told by TRACED as it is read: that the epoch is traced or not; no word changes
pub record LooksAtTraced (p : Placing) (before after : List ℕ) : Type 0 where
  pub traced : Bool
  pub exactly : IsTrue traced ↔ (row_word p.layout.pages Traced before ≡ p.epoch + 1)
  pub goes : (after_next_step place_machine (at_stage p LoadsTraced) before).stage ≡ LoadsSize traced
  pub stays : after ≡ before

abbrev pub TracedIsRead : Type 0
TracedIsRead = (p : Placing) (before after : List ℕ) (turn : Turn Allocated)
    → MakesStep place_machine (at_stage p LoadsTraced) before after turn → LooksAtTraced p before after

-- ---- SIZE

-- the number of the space's pages in use is that of its row; no word changes
pub record LooksAtSize (p : Placing) (traced : Bool) (before after : List ℕ) : Type 0 where
  pub goes : (after_next_step place_machine (at_stage p (LoadsSize traced)) before).stage
      ≡ LoadsArea traced (row_word p.layout.pages (Size (to_space p.epoch)) before)
  pub stays : after ≡ before

abbrev pub SizeIsRead : Type 0
SizeIsRead = (p : Placing) (traced : Bool) (before after : List ℕ) (turn : Turn Allocated)
    → MakesStep place_machine (at_stage p (LoadsSize traced)) before after turn → LooksAtSize p traced before after

-- ---- the claim of pages

-- The area that was read stood. Then LOW is lower by the pages asked for, and the room that has to be kept is left.
pub record ClaimsPages (p : Placing) (f : Fitting) (before after : List ℕ) : Type 0 where
  pub is : decode_area (area_word p after) ≡ Some (area_after (words_for p.header) f)
  pub kept : (area_after (words_for p.header) f).owed ≤ room_in (area_after (words_for p.header) f)
  pub goes : (after_next_step place_machine (at_stage p (ExchangesArea f)) before).stage
      ≡ StoresZero (record { first = first_claimed p f; next = first_claimed p f })
  pub others : ChangesOnly p.layout.pages (Area (to_space p.epoch)) before after

-- another area stood: no word changes, and TRACED is looked at again
pub record LosesPages (p : Placing) (f : Fitting) (before after : List ℕ) : Type 0 where
  pub stays : after ≡ before
  pub goes : (after_next_step place_machine (at_stage p (ExchangesArea f)) before).stage ≡ LoadsTraced

abbrev pub PagesAreClaimed : Type 0
PagesAreClaimed = (p : Placing) (f : Fitting) (before after : List ℕ) (turn : Turn Allocated)
    → IsSoundPlacing (at_stage p (ExchangesArea f)) → HoldsTable p.layout.pages before
    → MakesStep place_machine (at_stage p (ExchangesArea f)) before after turn → area_word p before ≡ encode_area f.area → ClaimsPages p f before after

abbrev pub PagesAreLost : Type 0
PagesAreLost = (p : Placing) (f : Fitting) (before after : List ℕ) (turn : Turn Allocated)
    → MakesStep place_machine (at_stage p (ExchangesArea f)) before after turn → area_word p before ≢ encode_area f.area → LosesPages p f before after

-- ---- the record

-- the words from one to another are 0
abbrev pub AreZero : (pages from upto : ℕ) → List ℕ → Type 0
AreZero n from upto words = (a : ℕ) → from ≤ a → a < upto → row_word n (HeapWord a) words ≡ 0

-- the pages from one to another are open in an epoch
abbrev pub AreOpen : (pages epoch from upto : ℕ) → List ℕ → Type 0
AreOpen n epoch from upto words = (page : ℕ) → from ≤ page → page < upto → decode_page (row_word n (Page page) words) ≡ Some (Open epoch)

-- at which word behind its place a new record's zeros begin: a mixed one's behind the count of its fields, a cell's behind its target
abbrev pub zeros_from : Kind → ℕ
zeros_from Fields = 1
zeros_from Raw = 1
zeros_from Mixed = 2
zeros_from Weak = 2

-- the count of a mixed record's fields stands behind the record's place
abbrev pub IsCounted : Placing → (at : ℕ) → List ℕ → Type 0
IsCounted p at words = p.header.kind ≡ Mixed → row_word p.layout.pages (HeapWord (at + 1)) words ≡ number_word p.fields

-- a cell's target stands behind the cell's place
abbrev pub IsTargeted : Placing → (at : ℕ) → List ℕ → Type 0
IsTargeted p at words = p.header.kind ≡ Weak → row_word p.layout.pages (HeapWord (at + 1)) words ≡ p.target

-- the run's words are 0, and its pages are open
abbrev pub IsRunReady : Placing → List ℕ → Type 0
IsRunReady p words = AreZero p.layout.pages p.run.at p.run.end words × AreOpen p.layout.pages p.epoch (page_of p.run.at) (page_of p.run.end) words

-- the run but for the header: of a mixed record the count of its fields stands behind the place, of a cell its target, all other words are 0,
-- its link with them, and the pages are open
pub record AwaitsHeader (p : Placing) (words : List ℕ) : Type 0 where
  pub place : row_word p.layout.pages (HeapWord p.run.at) words ≡ 0
  pub counted : IsCounted p p.run.at words
  pub targeted : IsTargeted p p.run.at words
  pub zero : AreZero p.layout.pages (p.run.at + zeros_from p.header.kind) p.run.end words
  pub opened : AreOpen p.layout.pages p.epoch (page_of p.run.at) (page_of p.run.end) words

-- all words of the pages that were claimed are 0, and the pages before the next one are open
abbrev pub AreCleared : Placing → NewPages → List ℕ → Type 0
AreCleared p new words =
    AreZero p.layout.pages new.first (new.first + words_for p.header) words × AreOpen p.layout.pages p.epoch (page_of new.first) new.next words

-- What an allocation has made ready: words that are 0, a count or a target, pages that are open. A run that it is given is to be so.
abbrev pub IsReady : Placing → PlaceStage → List ℕ → Type 0
IsReady p LoadsTraced words = ⊤
IsReady p (LoadsSize traced) words = ⊤
IsReady p (LoadsArea traced size) words = ⊤
IsReady p (ExchangesArea f) words = ⊤
IsReady p (StoresZero new) words = AreZero p.layout.pages new.first new.next words
IsReady p (StoresNew new) words = AreCleared p new words
IsReady p (OpensPage new) words = AreCleared p new words
IsReady p StoresCount words = IsRunReady p words
IsReady p StoresTarget words = IsRunReady p words
IsReady p StoresLink words = AwaitsHeader p words
IsReady p StoresHeader words = AwaitsHeader p words
IsReady p (Ended result) words = ⊤

-- nobody else writes these words; and the allocation's own steps keep it
abbrev pub PagesAreMadeReady : Type 0
PagesAreMadeReady = (p : Placing) (before after : List ℕ) (turn : Turn Allocated) → IsSoundPlacing p → HoldsTable p.layout.pages before
    → IsReady p p.stage before → MakesStep place_machine p before after turn
    → IsReady (after_next_step place_machine p before) (after_next_step place_machine p before).stage after

-- The record's header stands where the run was, inside it and on open pages; of a mixed record the count of its fields stands behind
-- it, of a cell its target. The record's other words are 0, so a cell's link is, and what is left of the run, which goes on behind the
-- record. No other word changes.
pub record PlacesRecord (p : Placing) (before after : List ℕ) (at : ℕ) : Type 0 where
  pub at_run : at ≡ p.run.at
  pub in_run : at + size_of p.header ≤ p.run.end
  pub header : row_word p.layout.pages (HeapWord at) after ≡ encode (header_says p.header)
  pub counted : IsCounted p at after
  pub targeted : IsTargeted p at after
  pub zero : AreZero p.layout.pages (at + zeros_from p.header.kind) p.run.end after
  pub opened : AreOpen p.layout.pages p.epoch (page_of at) (page_of p.run.end) after
  pub run_goes_on : (after_next_step place_machine p before).run ≡ record { at = at + size_of p.header; end = p.run.end }
  pub others : ChangesOnly p.layout.pages (HeapWord at) before after

abbrev pub RecordsArePlaced : Type 0
RecordsArePlaced = (p : Placing) (before after : List ℕ) (at : ℕ) → IsSoundPlacing p → HoldsTable p.layout.pages before
    → IsReady p p.stage before → MakesStep place_machine p before after (Finished (Placed at)) → PlacesRecord p before after at

-- ---- where a checkpoint was begun

-- it is said of the pages from one to another that they are new since this checkpoint
abbrev pub AreNew : (pages snap from upto : ℕ) → List ℕ → Type 0
AreNew n snap from upto words = (page : ℕ) → from ≤ page → page < upto → decode_save (whole_word n (Behind (SaveOf page)) words) ≡ Some (New snap)

-- it is said so of the claimed pages that are open, and before a page is opened, of that one too
abbrev pub AreMarked : Placing → PlaceStage → List ℕ → Type 0
AreMarked p (StoresNew new) words = AreNew p.layout.pages p.snap (page_of new.first) new.next words
AreMarked p (OpensPage new) words = 0 < p.snap → AreNew p.layout.pages p.snap (page_of new.first) (new.next + 1) words
AreMarked p stage words = ⊤

-- when an allocation begins, it has no page to open
abbrev pub NoneIsMarkedYet : Type 0
NoneIsMarkedYet = (layout : Layout) (run : Run) (header : Header) (epoch fields snap target : ℕ) (words : List ℕ)
    → AreMarked (begun layout run header epoch fields snap target) (begun layout run header epoch fields snap target).stage words

-- nobody else writes these words; and the allocation's own steps keep it
abbrev pub PagesAreMarked : Type 0
PagesAreMarked = (p : Placing) (before after : List ℕ) (turn : Turn Allocated) → IsSoundPlacing p → HoldsWhole p.layout before
    → AreMarked p p.stage before → MakesStep place_machine p before after turn
    → AreMarked (after_next_step place_machine p before) (after_next_step place_machine p before).stage after

-- so whichever page is opened, it is said to be new before that
abbrev pub OpenedPagesAreNew : Type 0
OpenedPagesAreNew = (p : Placing) (words : List ℕ) (page value : ℕ) → IsSoundPlacing p → AreMarked p p.stage words → 0 < p.snap
    → wants_at p p.stage ≡ Some (Store (Within (Page page)) value) → decode_save (whole_word p.layout.pages (Behind (SaveOf page)) words) ≡ Some (New p.snap)

-- ---- heap full

-- The area as it was read has less room than the pages asked for and what has to be kept: these are the numbers, beside what was read
-- before it. No word changes.
pub record ShowsShortage (p : Placing) (before after : List ℕ) (s : Shortage) : Type 0 where
  pub found : p.stage ≡ LoadsArea s.traced s.size
  pub area : AreaWord
  pub read : decode_area (area_word p before) ≡ Some area
  pub asked : s.asked ≡ pages_for (size_of p.header)
  pub room : s.room ≡ area.low - area.front
  pub owed : s.owed ≡ kept_room s.traced area
  pub live : s.live ≡ area.front
  pub short : s.room < 64 * s.asked + s.owed
  pub stays : after ≡ before

abbrev pub FullHeapsAreShort : Type 0
FullHeapsAreShort = (p : Placing) (before after : List ℕ) (s : Shortage)
    → MakesStep place_machine p before after (Finished (Full s)) → ShowsShortage p before after s

-- and where the claim doesn't fit, that is what is told
abbrev pub ShortHeapsAreFull : Type 0
ShortHeapsAreFull = (p : Placing) (traced : Bool) (size : ℕ) (area : AreaWord) (words : List ℕ) → decode_area (area_word p words) ≡ Some area
    → room_in area < words_for p.header + kept_room traced area
    → MakesStep place_machine (at_stage p (LoadsArea traced size)) words words (Finished (Full (shortage traced size p.header area)))
