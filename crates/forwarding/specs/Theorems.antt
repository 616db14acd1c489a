-- What is proved of the copy of a record.
use Rattle.std.specs.Prelude.{◌≡◌, true, false, ℕ, ◌+◌, ◌-◌, ◌*◌, ◌<◌, ◌≤◌, ◌≢◌, ◌⊎◌, ◌↔◌, List, Option, Some, slice_index, take}
use Rattle.atom_store.specs.Machine.{RunsTo, after_replies}
use Rattle.atom_store.specs.Runs.{alone, among}
use Rattle.atom_store.specs.Step.{reply_of}
use Rattle.atom_store.specs.declared.reply.Reply.{Reply}
use Rattle.atom_store.specs.declared.reply.Reply.TheVariants.{Value, Done, Won, Lost}
use Rattle.atom_store.specs.declared.step.Step.{Step}
use Rattle.atom_store.specs.declared.step.Step.TheVariants.{Load, Store, Exchange}
use Rattle.atom_store.specs.declared.turn.Turn.TheVariants.{Finished}
use Rattle.heap_words.specs.Decoded.{HeaderWord, ForwardWord, decode}
use Rattle.heap_words.specs.Word.{busy_word, forward_word}
use Rattle.space_map.specs.declared.area_word.AreaWord.{AreaWord}
use Rattle.space_map.specs.AreaWord.{encode_area}
use Rattle.space_map.specs.Spaces.{first_page_from, first_word, to_space}
use Rattle.space_map.specs.Table.{Row, Area, WeakHead, Cross, HeapWord, Announce, place_of}
use Rattle.forwarding.specs.declared.evac_stage.EvacStage.TheVariants.{LoadsHeader, TakesHeader, Announces, Reserves, StoresHeader, StoresForward, LoadsWeak, StoresLink, TakesWeak, Clears, Ended}
use Rattle.forwarding.specs.declared.kept_header.KeptHeader.{KeptHeader}
use Rattle.forwarding.specs.declared.reserved.Reserved.{Reserved}
use Rattle.forwarding.specs.Evacuation.{Evacuation, IsGoing, area_past, front_of, is_cell, link_of, size_of, wanted}
use Rattle.forwarding.specs.Keeping.{address_reserved, header_kept}
use Rattle.forwarding.specs.Left.{IsHeldUp, advances}
use Rattle.forwarding.specs.Taken.{evac_machine, first_page, taken, told}
use Rattle.forwarding.specs.Worked.{worked, copy, second, taken_by_another, header_lost, low_moved, front_moved, over_two_pages, header_alone, cell, weak_lost, longest, longest_replies, words_before, words_after}

-- the place of a row of the machine's table
abbrev pub place : Evacuation → Row → ℕ
place v row = place_of v.layout.pages row

-- ---- what a copy's address comes from

-- who looks at the old address comes to an address exactly where a forward to it is there
abbrev pub FollowsForwards : Type 0
FollowsForwards = (v : Evacuation) (word to : ℕ) → v.stage ≡ LoadsHeader
    → (told (taken v (Value word)).stage ≡ Finished (record { 0 = to })) ↔ ((len : ℕ) × (decode word ≡ ForwardWord len to))

-- else it comes to one only behind its own forward
abbrev pub EndsBehindForwards : Type 0
EndsBehindForwards = (v : Evacuation) (reply : Reply) (to : ℕ) → IsGoing v.stage → (taken v reply).stage ≡ Ended to
    → (v.stage ≡ LoadsHeader) ⊎ ((v.stage ≡ Clears to) × (reply ≡ Done))

-- a header is to be taken only where it was read at the old address
abbrev pub ReadsHeaders : Type 0
ReadsHeaders = (v : Evacuation) (reply : Reply) (kept : KeptHeader) → (taken v reply).stage ≡ TakesHeader kept
    → (v.stage ≡ TakesHeader kept)
    ⊎ ((v.stage ≡ LoadsHeader) × (reply ≡ Value kept.word) × ((serial : ℕ) × (mutator : ℕ) × (decode kept.word ≡ HeaderWord kept.kind kept.len serial mutator)))

-- a header is kept only from a won exchange on, of the header that was read for the word of this worker
abbrev pub TakesByExchange : Type 0
TakesByExchange = (v : Evacuation) (reply : Reply) (kept : KeptHeader) → header_kept (taken v reply).stage ≡ Some kept
    → (header_kept v.stage ≡ Some kept)
    ⊎ ((reply ≡ Won) × (v.stage ≡ TakesHeader kept) × (wanted v ≡ Some (Exchange (place v (HeapWord v.addr)) kept.word (busy_word kept.len v.worker))))

-- an area is exchanged only where its FRONT was announced
abbrev pub AnnouncesFirst : Type 0
AnnouncesFirst = (v : Evacuation) (reply : Reply) (kept : KeptHeader) (area : AreaWord) → (taken v reply).stage ≡ Reserves kept area
    → ((other : AreaWord) × (v.stage ≡ Reserves kept other) × (other.front ≡ area.front))
    ⊎ ((reply ≡ Done) × (v.stage ≡ Announces kept area) × (wanted v ≡ Some (Store (place v (Announce v.worker)) (front_of v.layout v.epoch area + 1))))

-- an address is reserved only by a won exchange of the area, whose FRONT it was and then is behind the copy
abbrev pub ReservesByExchange : Type 0
ReservesByExchange = (v : Evacuation) (reply : Reply) (to : ℕ) → address_reserved (taken v reply).stage ≡ Some to
    → (address_reserved v.stage ≡ Some to)
    ⊎ ((kept : KeptHeader) × (area : AreaWord) × (reply ≡ Won) × (v.stage ≡ Reserves kept area) × (to ≡ front_of v.layout v.epoch area)
    × (wanted v ≡ Some (Exchange (place v (Area (to_space v.epoch))) (encode_area area) (encode_area (area_past (size_of kept) area)))))

-- ---- the links of cells

-- the step that publishes a copy: its forward is stored
abbrev pub publishing : Evacuation → Reserved → Step
publishing v r = Store (place v (HeapWord v.addr)) (forward_word r.kept.len r.to)

-- the step that links a copied cell: WEAK is exchanged, from what was read of it
abbrev pub linking : Evacuation → (to head : ℕ) → Step
linking v to head = Exchange (place v WeakHead) head (to + 1)

-- WEAK is exchanged only where the copy's link has what was read of it
abbrev pub StoresLinksFirst : Type 0
StoresLinksFirst = (v : Evacuation) (reply : Reply) (to head : ℕ) → (taken v reply).stage ≡ TakesWeak to head
    → (v.stage ≡ TakesWeak to head)
    ⊎ ((reply ≡ Done) × (v.stage ≡ StoresLink to head) × (wanted v ≡ Some (Store (place v (HeapWord (link_of to))) head)))

-- a link gets only what was read of WEAK, for this try
abbrev pub LinksToHead : Type 0
LinksToHead = (v : Evacuation) (reply : Reply) (to head : ℕ) → (taken v reply).stage ≡ StoresLink to head
    → (v.stage ≡ StoresLink to head)
    ⊎ ((reply ≡ Value head) × (v.stage ≡ LoadsWeak to) × (wanted v ≡ Some (Load (place v WeakHead))))

-- WEAK is read only for a cell whose copy has just been published, or where its exchange was lost
abbrev pub LinksPublished : Type 0
LinksPublished = (v : Evacuation) (reply : Reply) (to : ℕ) → (taken v reply).stage ≡ LoadsWeak to
    → (v.stage ≡ LoadsWeak to)
    ⊎ ((r : Reserved) × (reply ≡ Done) × (v.stage ≡ StoresForward r) × (r.to ≡ to) × (is_cell r.kept ≡ true) × (wanted v ≡ Some (publishing v r)))
    ⊎ ((head : ℕ) × (other : ℕ) × (reply ≡ Lost other) × (v.stage ≡ TakesWeak to head) × (wanted v ≡ Some (linking v to head)))

-- what was announced is taken back only where a record that is no cell was published, or a cell was linked
abbrev pub ClearsBehindLinks : Type 0
ClearsBehindLinks = (v : Evacuation) (reply : Reply) (to : ℕ) → (taken v reply).stage ≡ Clears to
    → (v.stage ≡ Clears to)
    ⊎ ((r : Reserved) × (reply ≡ Done) × (v.stage ≡ StoresForward r) × (r.to ≡ to) × (is_cell r.kept ≡ false) × (wanted v ≡ Some (publishing v r)))
    ⊎ ((head : ℕ) × (reply ≡ Won) × (v.stage ≡ TakesWeak to head) × (wanted v ≡ Some (linking v to head)))

-- ---- the steps left

-- whatever words a step meets, its reply takes the machine on, where what is left falls, or is one of those that hold it up
abbrev pub GoesOn : Type 0
GoesOn = (v : Evacuation) (step : Step) (met : List ℕ) → wanted v ≡ Some step
    → advances v.stage (reply_of step met) ≡ false → IsHeldUp v.stage (reply_of step met)

-- ---- the copy, in order

-- what the machine wants after so many steps, whatever words each of them met
abbrev pub wants : Evacuation → (met : ℕ → List ℕ) → ℕ → Option Step
wants v met n = wanted (among evac_machine v met n)

-- the number of pages that begin in the copy
abbrev pub pages_begun : Reserved → ℕ
pages_begun r = first_page_from (r.to + size_of r.kept) - first_page r

-- what was announced is taken back after so many steps, and that is the end
pub record EndsAfter (v : Evacuation) (r : Reserved) (met : ℕ → List ℕ) (n : ℕ) : Type 0 where
  pub clear : wants v met n ≡ Some (Store (place v (Announce v.worker)) 0)
  pub ends : told (among evac_machine v met (n + 1)).stage ≡ Finished (record { 0 = r.to })

-- the word of WEAK that is met after so many steps
abbrev pub head_met : Evacuation → (met : ℕ → List ℕ) → ℕ → ℕ
head_met v met n = slice_index (met n) (place v WeakHead)

-- A try to link the copy of a cell, after so many steps: WEAK is loaded, what was met there is stored in the copy's link, and
-- WEAK is exchanged from that. If it still has that word, the cell is linked.
pub record TriesToLink (v : Evacuation) (r : Reserved) (met : ℕ → List ℕ) (n : ℕ) : Type 0 where
  pub loads : wants v met n ≡ Some (Load (place v WeakHead))
  pub stores : wants v met (n + 1) ≡ Some (Store (place v (HeapWord (link_of r.to))) (head_met v met n))
  pub exchanges : wants v met (n + 2) ≡ Some (linking v r.to (head_met v met n))
  pub linked : head_met v met (n + 2) ≡ head_met v met n → EndsAfter v r met (n + 3)

-- the number of steps from the reserved address up to the try of this number, from 0, if there is one
abbrev pub try_begins : Reserved → ℕ → ℕ
try_begins r try = 2 * r.kept.len + 2 + pages_begun r + 3 * try

-- the exchange of this try is lost
abbrev pub LosesTry : Evacuation → Reserved → (met : ℕ → List ℕ) → ℕ → Type 0
LosesTry v r met try = head_met v met (try_begins r try + 2) ≢ head_met v met (try_begins r try)

-- From the reserved address on: the header is stored; each word is loaded from the old record and stored; of each page that
-- begins in the copy it is said that the copy lies over its first word; then the forward is stored. A cell is then linked, by
-- as many tries as are lost and one more. At last what was announced is taken back.
pub record CopiesInOrder (v : Evacuation) (r : Reserved) (met : ℕ → List ℕ) : Type 0 where
  pub header : wants v met 0 ≡ Some (Store (place v (HeapWord r.to)) r.kept.word)
  pub loads : (i : ℕ) → i < r.kept.len → wants v met (2 * i + 1) ≡ Some (Load (place v (HeapWord (v.addr + (i + 1)))))
  pub stores : (i : ℕ) → i < r.kept.len → wants v met (2 * i + 2)
      ≡ Some (Store (place v (HeapWord (r.to + (i + 1)))) (slice_index (met (2 * i + 1)) (place v (HeapWord (v.addr + (i + 1))))))
  pub crosses : (page : ℕ) → r.to ≤ first_word page → first_word page < r.to + size_of r.kept
      → wants v met (2 * r.kept.len + 1 + (page - first_page r)) ≡ Some (Store (place v (Cross page)) r.to)
  pub forward : wants v met (2 * r.kept.len + 1 + pages_begun r) ≡ Some (Store (place v (HeapWord v.addr)) (forward_word r.kept.len r.to))
  pub clear : is_cell r.kept ≡ false → EndsAfter v r met (2 * r.kept.len + 2 + pages_begun r)
  pub link : is_cell r.kept ≡ true → (try : ℕ) → ((before : ℕ) → before < try → LosesTry v r met before) → TriesToLink v r met (try_begins r try)

abbrev pub EachCopiesInOrder : Type 0
EachCopiesInOrder = (v : Evacuation) (r : Reserved) (met : ℕ → List ℕ) → v.stage ≡ StoresHeader r → CopiesInOrder v r met

-- ---- the copy worked out by hand

-- what the longest copy wants after so many replies
abbrev pub after_replies_to : ℕ → Option Step
after_replies_to n = wanted (after_replies evac_machine longest (take n longest_replies))

-- where it is replied to so, the machine wants these steps and comes to this address
pub record IsWorkedOut : Type 0 where
  pub copy : RunsTo evac_machine worked copy (record { 0 = 256 })
  pub second : RunsTo evac_machine worked second (record { 0 = 256 })
  pub taken_by_another : RunsTo evac_machine worked taken_by_another (record { 0 = 256 })
  pub header_lost : RunsTo evac_machine worked header_lost (record { 0 = 256 })
  pub low_moved : RunsTo evac_machine worked low_moved (record { 0 = 256 })
  pub front_moved : RunsTo evac_machine worked front_moved (record { 0 = 261 })
  pub over_two_pages : RunsTo evac_machine worked over_two_pages (record { 0 = 318 })
  pub header_alone : RunsTo evac_machine worked header_alone (record { 0 = 256 })
  pub cell : RunsTo evac_machine worked cell (record { 0 = 256 })
  pub weak_lost : RunsTo evac_machine worked weak_lost (record { 0 = 256 })
  pub reserves_longest : after_replies_to 4 ≡ Some (Exchange 5 0x0001_0000_4000_0000 0x0000_0000_4000_1000)
  pub crosses_first : after_replies_to (6 + 2 * 4095) ≡ Some (Store (17 + 128 + 64) 4096)
  pub crosses_last : after_replies_to (6 + 2 * 4095 + 63) ≡ Some (Store (17 + 128 + 127) 4096)
  pub forwards_longest : after_replies_to (6 + 2 * 4095 + 64) ≡ Some (Store (17 + 256 + 0) 0x0000_0000_1000_fff3)
  pub ends_longest : evac_machine.told (after_replies evac_machine longest longest_replies) ≡ Finished (record { 0 = 4096 })
  pub words : alone evac_machine 13 (record { machine = worked; words = words_before })
      ≡ record { machine = record worked { stage = Ended 256 }; words = words_after }
  pub words_stay : alone evac_machine 1 (record { machine = worked; words = words_after })
      ≡ record { machine = record worked { stage = Ended 256 }; words = words_after }
