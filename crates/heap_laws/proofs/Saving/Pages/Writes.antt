-- The pages that mutators write, and mark as new, and what they find in SAVE.
use Rattle.std.proofs.Common.{◌≡◌, ℕ, ◌+◌, ◌*◌, ◌<◌, ◌≤◌, inl, inr, List, Some, refl, sym, ◌∙◌, arith, slice_index}
use Rattle.space_map.specs.declared.save_word.SaveWord.{SaveWord}
use Rattle.space_map.specs.SaveWord.{SaveFits, encode_save, decode_save}
use Rattle.space_map.specs.Spaces.{to_space, page_of}
use Rattle.space_map.specs.Table.{SaveOf, save_place_of}
use Rattle.space_map.proofs.SaveWords.{decode_save-encode_save}
use Rattle.heap_state.specs.Invariant.Ghost.{Ghost}
use Rattle.heap_state.specs.Invariant.Inductive.{Knows}
use Rattle.heap_state.specs.Invariant.Parts.Stocks.{Stocked}
use Rattle.heap_state.specs.Memory.Era.{Era, Memory, era_of, memory_of}
use Rattle.heap_state.specs.Memory.Table.{Table}
use Rattle.heap_state.specs.Saving.Frozen.{IsPageOf}
use Rattle.heap_state.specs.Saving.Words.{saves_of, AreFormedSaves}
use Rattle.heap_state.specs.Known.{Team, Stock}
use Rattle.heap_laws.specs.Allocation.Stocks.{HasStock}
use Rattle.heap_laws.specs.Saving.Pages.{MarksNew, SaysAreFound, NoneIsOfLater, WritesOn, WritesRecord, WritesBoard, WritesStock, IsOpenNow, WrittenPagesAreOpen, StockPagesAreMarked}
use Rattle.heap_laws.specs.Steps.{Ready}
use Rattle.heap_laws.proofs.Saving.Pages.PageSaves.{pages_are_saved}
use Rattle.heap_laws.proofs.Saving.Pictures.{used_fits, within_pages}
use Rattle.heap_laws.proofs.Saving.Sparing.{new_pages_are_loose}
use Rattle.heap_laws.proofs.Saving.Stores.{saves_are_read}

-- ---- SAVE

loaded : (n : ℕ) (words : List ℕ) (page : ℕ) → AreFormedSaves n words → page ≤ 2 * n
    → decode_save (slice_index words (save_place_of n (SaveOf page))) ≡ Some ((saves_of n words).save page)
loaded n words page formed most =
    rw (saves_are_read.rows n words (SaveOf page) most, saves_are_read.saves n words formed page most)
    (decode_save-encode_save ((saves_of n words).save page) (saves_are_read.fits n words formed page most))

exchanged : (n : ℕ) (words : List ℕ) (page : ℕ) (found : SaveWord) → page ≤ 2 * n → SaveFits found
    → slice_index words (save_place_of n (SaveOf page)) ≡ encode_save found → (saves_of n words).save page ≡ found
unfolding saves_of
exchanged n words page found most fits is =
    let word = sym (saves_are_read.rows n words (SaveOf page) most) ∙ is in rw (word, decode_save-encode_save found fits) refl

pub says_are_found : SaysAreFound
says_are_found = record { loaded = loaded; exchanged = exchanged }

pub none_is_of_later : NoneIsOfLater
none_is_of_later t s z count saver k page stands in_team recalled some =
    let same = (((stands.workers.each k in_team).recalls recalled).one some).0 in
    let young = stands.words.young page in
    omega (arith, same, young)

-- ---- pages

module _ (t : Table) (team : Team) (g : Ghost) (k : ℕ) (ready : Ready (era_of t) (memory_of t) team g k) where
  abbrev E : Era
  E = era_of t

  abbrev m : Memory
  m = memory_of t

  me : Knows E m.gate m.traced m.front m.low m.old_front m.old_low m.old_owed g m.page m.cross m.announced m.heap k (team.worker k)
  me = ready.invariant.workers k ready.member

  -- a word of the epoch's space lies on one of its pages
  in_space : (x page : ℕ) → E.start ≤ x → x < E.start + E.span → page_of x ≡ page → IsPageOf t.pages t.gate.epoch page
  unfolding IsPageOf
  in_space x page least below is =
      let space = to_space t.gate.epoch in
      let most = used_fits t.pages t.gate.epoch t.in_use ready.laid_out in
      rw (← is) (inr (within_pages (t.pages * space) (t.in_use space) t.pages x most least below))

  on_board : (page : ℕ) → page_of E.board ≡ page → IsPageOf t.pages t.gate.epoch page
  unfolding IsPageOf
  on_board page is = inl (omega (arith, is))

  -- a record of the epoch's space ends there
  within : (a x : ℕ) → 0 < g.size a → (E.start ≤ a) × (a < E.start + E.span) → x < g.size a → a + x < E.start + E.span
  within a x stands inside small =
      let order = ready.invariant.laid.order in
      let apart = ready.laid_out.apart in
      let lies = ready.invariant.laid.lies a stands in
      omega (arith, order, apart, lies, inside, small)

  stock_now : (q : Stock) → HasStock team k q → Stocked E m.low g.size m.heap m.page q
  stock_now q has =
      let own = me.stock q has.has in
      let now = me.timely.running has.runs in
      ready.invariant.stocks.stocked k ready.member q has.has (own ∙ now)

  open_now : (page : ℕ) → WritesOn E team g k page → IsOpenNow t page
  open_now page (WritesRecord a x opened stands inside small is) = record {
    is_of = in_space (a + x) page (let first = inside.0 in omega (arith, first)) (within a x stands inside small) is;
    opened = (me.opened page opened).1;
  }
  open_now page (WritesBoard opened is) = record { is_of = on_board page is; opened = (me.opened page opened).1 }
  open_now page (WritesStock q x has least below is) =
      let stocked = stock_now q has in
      let lies = stocked.lies in
      let so_far = stocked.so_far in
      let order = ready.invariant.laid.order in
      record {
        is_of = in_space x page (omega (arith, lies, order, least)) (omega (arith, lies, so_far, below)) is;
        opened = rw (← is) (stocked.opens x least below);
      }

pub written_pages_are_open : WrittenPagesAreOpen
written_pages_are_open t team g k page ready writes = open_now t team g k ready page writes

pub stock_pages_are_marked : StockPagesAreMarked
stock_pages_are_marked t s z team g saver k page number q stands ready next recalled snap =
    let loose = (new_pages_are_loose t s z team g saver k page q stands ready next).held in
    pages_are_saved t s z team.count saver k _ _ stands ready.member (MarksNew page number recalled snap loose)
