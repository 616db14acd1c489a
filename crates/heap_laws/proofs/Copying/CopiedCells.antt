-- A cell that was copied: WEAK is read, the word is stored as the cell's link, and then WEAK is exchanged.
use Rattle.std.proofs.Common.{◌≡◌, ℕ, ◌+◌, ◌^◌, ◌<◌, true, false, Option, Some, None, refl, sym, ap, ◌∙◌, arith, inl, inr}
use Rattle.plain_state.specs.declared.kind.Kind.TheVariants.{Mixed, Weak}
use Rattle.plain_state.specs.Layout.{is_field, is_raw, values_at, word_of_value}
use Rattle.plain_state.specs.State as plain
use Rattle.heap_state.specs.Cells.{IsCopiedCell, Links}
use Rattle.heap_state.specs.Invariant.Parts.Cells.{Cells}
use Rattle.heap_state.specs.Cycles.Cycle.{Cycle}
use Rattle.heap_state.specs.Memory.Entries.{WordIs, WeakIs}
use Rattle.heap_state.specs.Memory.Era.{Era, Memory}
use Rattle.heap_state.specs.Functions.{put}
use Rattle.heap_state.specs.Invariant.Ghost.{Ghost, Here}
use Rattle.heap_state.specs.Invariant.Inductive.{Invariant}
use Rattle.heap_state.specs.Meaning.Values.{Shown, Shows, TargetsShow, value_of}
use Rattle.heap_state.specs.Known.{Known, Team, Linking, Pass}
use Rattle.heap_state.proofs.Workers.Frames.{rooted_put}
use Rattle.heap_state.proofs.Puts.{put_other}
use Rattle.heap_state.proofs.Records.Layouts.{count_stays, value_within}
use Rattle.heap_laws.specs.Copying.{WeakIsLoaded, WeakIsForgotten, LinksAreStored, CellsAreLinked, with_linking}
use Rattle.heap_laws.specs.Cells.Links.{SameBesideLinking, one_more}
use Rattle.heap_laws.specs.Steps.{Ready, NoRow, InWord, InWeak, Steps, Preserves, with_weak, with_word, with_worker}
use Rattle.heap_laws.proofs.Cells.Kept.{targets_stay, words_no_targets}
use Rattle.heap_laws.proofs.Cells.Linked.{reading_weak_carries_chain, storing_link_carries_chain, linking_carries_chain}
use Rattle.heap_laws.proofs.Fields.Cycle.{store_keeps_cycle}
use Rattle.heap_laws.proofs.Fields.Slots.{IsRecordWord, here_field}
use Rattle.heap_laws.proofs.Fields.Stored.{Stores, with_chain_part, slot_keeps}
use Rattle.heap_laws.proofs.Frames.Values.{one_place}
use Rattle.heap_laws.proofs.Steps.Learning.{links, shown_put}
use Rattle.heap_laws.proofs.Steps.RowPlaces.{below_board}
use Rattle.heap_laws.proofs.Targets.Carried.{cell_of}
use Rattle.heap_laws.proofs.Targets.Frames.{made_put, shown_beside}
use Rattle.heap_laws.proofs.Targets.TargetRows.{storing_link_carries_targets}

-- ---- a word of a cell

-- A word of a copied cell is stored, by a worker that knows something else of the chain then, if the chain stands after it, and targets
-- show what they showed.
abbrev pub CellWordsAreStored : Type 0
CellWordsAreStored = (E : Era) (m : Memory) (team : Team) (g : Ghost) (k b i v : ℕ) (l : Option Linking) (p : Option Pass) → Ready E m team g k
    → IsCopiedCell E m.front g b → 0 < i → i < g.size b → v < 2 ^ 62 → Cells E (with_word m (b + i) v) (with_worker team k (with_chain_part (team.worker k) l p)) g
    → ((records : plain.Heap) → TargetsShow E m g records → TargetsShow E (with_word m (b + i) v) g records)
    → Steps E m team g k (Some (WordIs (b + i) v)) (with_chain_part (team.worker k) l p) g

module _ (E : Era) (m : Memory) (team : Team) (g : Ghost) (k b i v : ℕ) (l : Option Linking) (p : Option Pass) (ready : Ready E m team g k) (cell : IsCopiedCell E m.front g b) (inner : 0 < i) (room : i < g.size b) (small : v < 2 ^ 62)
    (cells : Cells E (with_word m (b + i) v) (with_worker team k (with_chain_part (team.worker k) l p)) g)
    (targets : (records : plain.Heap) → TargetsShow E m g records → TargetsShow E (with_word m (b + i) v) g records) where
  abbrev inv : Invariant E m team g
  inv = ready.invariant

  word : IsRecordWord E g.size g.writer b i
  word = record {
    stands = cell.stands;
    written = cell.written;
    inside = (cell.inside.0, let t = cell.inside in let o = inv.laid.order in omega (arith, t, o));
    first = inner;
    last = room;
  }

  -- a word of a record that is this one is one of a cell
  of_cell : (a j : ℕ) → j < g.size a → a + j ≡ b + i → g.kind a ≡ Weak
  of_cell a j below e = ap g.kind (one_place g.size a b j i inv.laid.apart below room e) ∙ cell.weak

  unread : ¬ (Here E g.size g.writer g.kind (b + i))
  unread h = let f = here_field ready.laid_out inv.laid g.writer g.kind (b + i) h b i room refl in let t : is_field Weak i ≡ true = ap (λ z. is_field z i) (sym cell.weak) ∙ f.1 in absurd (cc)

  store : Stores E m g (b + i) v
  store = record {
    slot = record {
      lay = ready.laid_out;
      laid = inv.laid;
      place = inl (record { a = b; i = i; word = word; at = refl });
      held = λ h. absurd (unread h);
      number = λ _ _ _ _ _. small;
      value = λ a count l e f. let z : Mixed count ≡ Weak = sym e ∙ of_cell a 1 l f in absurd (cc);
    };
    opens = inr unread;
  }

  -- ---- what is shown

  abbrev stored : ℕ → ℕ
  stored = put m.heap (b + i) v

  no_field : (a j : ℕ) → j < g.size a → is_field (g.kind a) j ≡ true → stored (a + j) ≡ m.heap (a + j)
  no_field a j l f = put_other m.heap (b + i) v (a + j) (λ e. let z : is_field Weak j ≡ true = ap (λ y. is_field y j) (sym (of_cell a j l e)) ∙ f in absurd (cc))

  no_number : (a j : ℕ) → j < g.size a → is_raw (g.kind a) j ≡ true → stored (a + j) ≡ m.heap (a + j)
  no_number a j l f = put_other m.heap (b + i) v (a + j) (λ e. let z : is_raw Weak j ≡ true = ap (λ y. is_raw y j) (sym (of_cell a j l e)) ∙ f in absurd (cc))

  no_count : (a : ℕ) → 1 < values_at (g.kind a) → 1 < g.size a → stored (a + 1) ≡ m.heap (a + 1)
  no_count a more l = put_other m.heap (b + i) v (a + 1) (λ e. let z : values_at (g.kind a) ≡ 1 = ap values_at (of_cell a 1 l e) in omega (arith, z, more))

  shows : (a : ℕ) (r : plain.Record) → Shows (value_of g.identity) m.heap a (g.kind a) (g.size a) r → Shows (value_of g.identity) stored a (g.kind a) (g.size a) r
  shows a r s = record {
    kind = s.kind;
    size = s.size;
    fields = λ y l f. rw (no_field a (word_of_value (g.kind a) y) (value_within r s y l).1 f) (s.fields y l f);
    numbers = λ y l f. rw (no_number a (word_of_value (g.kind a) y) (value_within r s y l).1 f) (s.numbers y l f);
    count = count_stays r s stored a (λ more l _. no_count a more l);
  }

  board_same : (x : ℕ) → stored (E.board + x) ≡ m.heap (E.board + x)
  board_same x =
      let lies = inv.laid.lies b cell.stands in
      put_other m.heap (b + i) v (E.board + x) (λ e. omega (arith, e, lies, room, ready.laid_out.below, ready.laid_out.old_below, inv.laid.order))

  shown : (p : plain.Plain) → Shown E m team g p → Shown E (with_word m (b + i) v) team g p
  shown p s = record {
    objects = record { shows = λ a st w y. let o = s.objects.shows a st w y in (o.0, o.1, shows a o.0 o.2) };
    targets = targets p.heap s.targets;
    board = record { sixteen = s.board.sixteen; board = λ x l. rw (board_same x) (s.board.board x l) };
    as_many = s.as_many;
    makers = s.makers;
    accounts = s.accounts;
    registers = s.registers;
  }

  -- ---- the step

  abbrev later : Memory
  later = with_word m (b + i) v

  abbrev w : Known
  w = with_chain_part (team.worker k) l p

  cycle : (y : plain.Plain) → Cycle E m team g y → Cycle E later (with_worker team k w) g y
  cycle y before =
      let c = store_keeps_cycle E m team g y (b + i) v store inv before in
      record { copying = c.copying; rooted = rooted_put team.worker k w refl refl refl (λ _ _ late done. (late, done)) c.rooted; made = made_put team.worker k w refl c.made }

  pub stores_cell : Steps E m team g k (Some (WordIs (b + i) v)) w g
  stores_cell = record {
    later = later;
    writes = InWord (b + i) v (let below = below_board ready b cell.stands in omega (arith, below, room));
    keeps = record { invariant = slot_keeps E m team g k (b + i) v l p store ready cells; shown = λ y s. shown_put E later later team g k w y refl refl refl refl refl (λ e. e) (shown y s); cycle = cycle; ages = λ page. omega arith };
  }

pub cell_words_are_stored : CellWordsAreStored
cell_words_are_stored = stores_cell

-- ---- what a worker knows of the chain

module _ (E : Era) (m : Memory) (team : Team) (g : Ghost) (k : ℕ) (l : Linking) (ready : Ready E m team g k) (has : (team.worker k).linking ≡ Some l) where
  abbrev me : Known
  me = team.worker k

  abbrev before : Cells E m team g
  before = ready.invariant.cells

  mine : Links E m g before.ranks me l
  mine = before.chain.linking k l ready.member has

  -- worker k with another cell to link, or with something else known of it
  abbrev after : Option Linking → Team
  after n = with_worker team k (with_linking me n)

  like : (n : Option Linking) → SameBesideLinking (with_linking me n) me
  like n = record { post = refl; ground = (refl, refl); scan = refl; asked = λ y. y; reset = refl; pass = refl }

  -- WEAK has this word, and the cells are known
  relinked : (n : Option Linking) (word : ℕ) → Cells E (with_weak m word) (after n) g → Preserves E m (with_weak m word) team (after n) g g
  relinked n word cells = links E m team g k (with_linking me n) ready.invariant (assumption) (λ s e. (s, e, refl)) word m.weak_turn (λ e. e) cells (let u = ready.invariant.workers k ready.member in assumption)

  reads : (n : Linking) → n.cell ≡ l.cell → n.stored ≡ false → Steps E m team g k None (with_linking me (Some n)) g
  reads n cell loose = record {
    later = m;
    writes = NoRow;
    keeps = relinked (Some n) m.weak (record {
      ranks = before.ranks;
      chain = reading_weak_carries_chain E m m m.weak m.weak_turn team g before.ranks k l n (with_linking me (Some n)) ready has refl cell loose NoRow (like (Some n)) before.chain;
      targets = before.targets;
    });
  }

  pub loads_weak : Steps E m team g k None (with_linking me (Some (record { cell = l.cell; read = Some m.weak; stored = false }))) g
  loads_weak = reads (record { cell = l.cell; read = Some m.weak; stored = false }) refl refl

  pub forgets_weak : Steps E m team g k None (with_linking me (Some (record { cell = l.cell; read = None; stored = false }))) g
  forgets_weak = reads (record { cell = l.cell; read = None; stored = false }) refl refl

  pub stores_link : (v : ℕ) → v < 2 ^ 62 → Steps E m team g k (Some (WordIs (l.cell + 2) v)) (with_linking me (Some (record { cell = l.cell; read = Some v; stored = true }))) g
  stores_link v small =
      let n : Linking = record { cell = l.cell; read = Some v; stored = true } in
      let room : 2 < g.size l.cell = (let z = before.chain.three l.cell mine.cell.stands mine.cell.weak in omega (arith, z)) in
      let below = below_board ready l.cell mine.cell.stands in
      stores_cell E m team g k l.cell 2 v (Some n) me.pass ready mine.cell (omega arith) room small (record {
        ranks = before.ranks;
        chain = storing_link_carries_chain E m (with_word m (l.cell + 2) v) m.weak m.weak_turn team g before.ranks k l v (with_linking me (Some n)) ready has refl (InWord (l.cell + 2) v (omega (arith, below, room))) (like (Some n)) before.chain;
        targets = storing_link_carries_targets E m (with_word m (l.cell + 2) v) m.weak m.weak_turn team g before.ranks k l v ready has (InWord (l.cell + 2) v (omega (arith, below, room))) before.chain before.targets;
      }) (shown_beside E m g (l.cell + 2) v ((words_no_targets ready).link l.cell (cell_of E m.front g l.cell mine.cell)))

  pub links_cell : l.read ≡ Some m.weak → l.stored ≡ true → l.cell + 1 < 2 ^ 62 → Steps E m team g k (Some (WeakIs (l.cell + 1))) (with_linking me None) g
  links_cell read stored small = record {
    later = with_weak m (l.cell + 1);
    writes = InWeak (l.cell + 1) small;
    keeps = relinked None (l.cell + 1) (record {
      ranks = one_more before.ranks l.cell;
      chain = linking_carries_chain E m (with_weak m (l.cell + 1)) m.weak m.weak_turn team g before.ranks k l (with_linking me None) ready has read stored refl (InWeak (l.cell + 1) small) (like None) before.chain;
      targets = targets_stay (InWeak (l.cell + 1) small) tt before.targets;
    });
  }

pub weak_is_loaded : WeakIsLoaded
weak_is_loaded = loads_weak

pub weak_is_forgotten : WeakIsForgotten
weak_is_forgotten = forgets_weak

pub links_are_stored : LinksAreStored
links_are_stored E m team g k l v ready has small = stores_link E m team g k l ready has v small

pub cells_are_linked : CellsAreLinked
cells_are_linked E m team g k l ready has read stored small = links_cell E m team g k l ready has read stored small
