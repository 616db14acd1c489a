-- A new heap with its workers stands, and each worker is sound.
use Rattle.std.proofs.Common.{◌≡◌, ℕ, zero, suc, ◌+◌, ◌<◌, ◌≤◌, Bool, true, false, cond, nat_lt, List, [], ◌∷◌, ◌++◌, length, map, replicate, get_or, slice_index, refl, sym, ap, subst, ◌∙◌, arith, ⊎_elim, lt-ltb, le-ltb}
use Rattle.std.specs.Prelude.{slice_set}
use Rattle.std.proofs.lemmas.Bool.{cases_lt}
use Rattle.std.proofs.lemmas.List.{get_or-replicate, get_or_past, length-replicate}
use Rattle.std.proofs.Math.ListN.{length-set}
use Rattle.heap_words.specs.Decoded.{decode}
use Rattle.plain_state.specs.declared.sizes.TheConstants.{REGISTERS}
use Rattle.space_map.specs.declared.spaces.TheConstants.{LAST_WORKER, MOST_MUTATORS, MOST_SCANNERS}
use Rattle.space_map.specs.Spaces.{Layout, IsPageCount}
use Rattle.space_map.specs.Table.{whole_length}
use Rattle.heap_state.specs.Configuration.{Configuration, Stands, table, era, memory, team}
use Rattle.heap_state.specs.Cycles.Cycle.{Cycle}
use Rattle.heap_state.specs.Memory.Entries.{EachFits, Entry, row_of, table_with, whole_place_of, word_of}
use Rattle.heap_state.specs.Memory.Table.{IsFormed, table_of}
use Rattle.heap_state.specs.Saving.Words.{Saves}
use Rattle.heap_state.specs.Saving.Written.{blank_saves}
use Rattle.heap_state.specs.Theorems.Rows.{Written}
use Rattle.heap_state.specs.Theorems.Saves.{WrittenWhole}
use Rattle.heap_state.specs.Known.{Outside, Scanner}
use Rattle.heap_state.specs.Known as workers
use Rattle.heap_state.proofs.Table.Writing.{writes_whole_tables}
use Rattle.heap_laws.specs.Opening.{opening_entries, opening_plain}
use Rattle.heap_laws.specs.Opening as laws
use Rattle.heap_laws.proofs.Frames.Values.{zero_word}
use Rattle.heap_laws.specs.Saving.Rows.{KnowsNothing, NoneWasBegun, nothing_frozen}
use Rattle.heap_laws.proofs.Opening.Heap.{opening_stands, opening_written}
use Rattle.heap_laws.proofs.Saving.SavingWorkers.{saves_open}
use Rattle.gc_worker.specs.Laws.Between.{HeapsOpen, fresh_mutator, fresh_scanner, fresh_worker, fresh_workers, opening_heap, opening_words}
use Rattle.gc_worker.specs.Workers.Fits.{Fits}
use Rattle.gc_worker.specs.Workers.Held.{Held}
use Rattle.gc_worker.specs.Workers.Knows.{knows}
use Rattle.gc_worker.specs.Workers.Saves.{saver_of}
use Rattle.gc_worker.specs.Laws.Step.{Heap, StandIf, held_at, nobody, read, saves_in}
use Rattle.record_access.specs.Seen.{IsValueAs, IsValueWord}
use Rattle.gc_worker.proofs.Workers.KeptParts.{new_worker}

-- ---- one worker

no_word : (r : ℕ) → slice_index (replicate REGISTERS 0) r ≡ 0
no_word r = ⊎_elim
    (λ (l : r < 8). get_or-replicate 8 r 0 0 l)
    (λ (l : 8 ≤ r). get_or_past (replicate 8 0) r 0 (let n = length-replicate {A = ℕ} 8 0 in omega (arith, l, n)))
    (cases_lt r 8)

module _ (prints : Bool) (s : Layout) (mutators k : ℕ) where
  known_mutator : knows (fresh_mutator prints s mutators k) ≡ workers.fresh Outside
  known_mutator = λ i. record (workers.fresh Outside) { registers = λ r. no_word r i }

  known_scanner : knows (fresh_scanner prints s mutators k) ≡ workers.fresh Scanner
  known_scanner = λ i. record (workers.fresh Scanner) { registers = λ r. no_word r i }

  is_value : (r : ℕ) → r < REGISTERS → IsValueWord (slice_index (replicate REGISTERS 0) r)
  is_value r l = subst IsValueAs (sym (ap decode (no_word r) ∙ zero_word)) tt

  module _ (size : IsPageCount s.pages) (few : k ≤ LAST_WORKER) where
    pub mutator_fits : nat_lt k mutators ≡ true → Fits s.pages mutators k (fresh_mutator prints s mutators k)
    mutator_fits side = record {
      worker = new_worker s mutators k size few is_value;
      end = refl;
      side = side;
      task = tt;
      stage = record { layout = refl; passage = tt; going = tt; sound = record { pages = size; stage = tt } };
    }

    pub scanner_fits : nat_lt k mutators ≡ false → Fits s.pages mutators k (fresh_scanner prints s mutators k)
    scanner_fits side = record {
      worker = new_worker s mutators k size few is_value;
      end = refl;
      side = side;
      task = refl;
      stage = (
        record {
          layout = refl;
          worker = refl;
          caller = refl;
          epoch = tt;
          going = tt;
          sound = record { pages = size; caller = tt; epoch = omega arith; worker = few; stage = tt };
        },
        refl,
      );
    }

    by_side : (b : Bool) → nat_lt k mutators ≡ b → Fits s.pages mutators k (cond b (fresh_mutator prints s mutators k) (fresh_scanner prints s mutators k))
    by_side true side = mutator_fits side
    by_side false side = scanner_fits side

    fresh_fits : Fits s.pages mutators k (fresh_worker prints s mutators k)
    fresh_fits = by_side (nat_lt k mutators) refl

-- ---- all workers

module _ (prints : Bool) (s : Layout) (mutators : ℕ) where
  as_mutator : (k : ℕ) → k < mutators → knows (fresh_worker prints s mutators k) ≡ workers.fresh Outside
  as_mutator k l = ap (λ (b : Bool). knows (cond b (fresh_mutator prints s mutators k) (fresh_scanner prints s mutators k))) (lt-ltb k mutators l) ∙ known_mutator prints s mutators k

  as_scanner : (k : ℕ) → mutators ≤ k → knows (fresh_worker prints s mutators k) ≡ workers.fresh Scanner
  as_scanner k l = ap (λ (b : Bool). knows (cond b (fresh_mutator prints s mutators k) (fresh_scanner prints s mutators k))) (le-ltb k mutators l) ∙ known_scanner prints s mutators k

  scanners_known : (from count : ℕ) → mutators ≤ from → map knows (fresh_workers prints s mutators from count) ≡ replicate count (workers.fresh Scanner)
  unfolding fresh_workers
  scanners_known from zero l = refl
  scanners_known from (suc count) l = λ i. as_scanner from l i ∷ scanners_known (from + 1) count (omega (arith, l)) i

  known : (from count scanners total : ℕ) → from + count ≡ mutators → total ≡ count + scanners
      → map knows (fresh_workers prints s mutators from total) ≡ replicate count (workers.fresh Outside) ++ replicate scanners (workers.fresh Scanner)
  unfolding fresh_workers
  known from zero scanners total at all =
      let same : total ≡ scanners = omega (arith, all) in
      ap (λ (m : ℕ). map knows (fresh_workers prints s mutators from m)) same ∙ scanners_known from scanners (omega (arith, at))
  known from (suc count) scanners zero at all = absurd (omega (arith, all))
  known from (suc count) scanners (suc total) at all = λ i. as_mutator from (omega (arith, at)) i ∷ known (from + 1) count scanners total (omega (arith, at)) (omega (arith, all)) i

  pub many : (from count : ℕ) → length (fresh_workers prints s mutators from count) ≡ count
  unfolding fresh_workers
  many from zero = refl
  many from (suc count) = ap suc (many (from + 1) count)

  pub is_there : (from count j k : ℕ) → j < count → k ≡ from + j → get_or (fresh_workers prints s mutators from count) j nobody ≡ fresh_worker prints s mutators k
  unfolding fresh_workers
  is_there from zero j k l at = absurd (omega (arith, l))
  is_there from (suc count) zero k l at = ap (fresh_worker prints s mutators) (let same : from ≡ k = omega (arith, at) in same)
  is_there from (suc count) (suc j) k l at = is_there (from + 1) count j k (omega (arith, l)) (omega (arith, at))

-- ---- the words

-- the words after these rows were written in some, the last of the list first
abbrev pub written_in : (n : ℕ) → List ℕ → List Entry → List ℕ
written_in n words [] = words
written_in n words (e ∷ entries) = slice_set (written_in n words entries) (whole_place_of n (row_of e)) (word_of e)

-- at first the rows of the opening were written in a table whose words are all 0
pub opening_words_are : (layout : Layout) (least : ℕ) → opening_words layout least ≡ written_in layout.pages (replicate (whole_length layout) 0) (opening_entries layout.pages least)
opening_words_are layout least = by_room layout.checkpoints refl
  where
    by_room : (room : Bool) → layout.checkpoints ≡ room → opening_words layout least ≡ written_in layout.pages (replicate (whole_length layout) 0) (opening_entries layout.pages least)
    by_room true is = rw is refl
    by_room false is = rw is refl

-- they are just as many as the layout has
pub opening_words-length : (layout : Layout) (least : ℕ) → length (opening_words layout least) ≡ whole_length layout
opening_words-length layout least = ap length (opening_words_are layout least) ∙ simp (length-set, length-replicate)

entries_fit : (n least : ℕ) → IsPageCount n → 4 ≤ least → least ≤ n → EachFits n (opening_entries n least)
entries_fit n least size some short = (
  tt,
  (
    (omega arith, record { front_fits = omega arith; low_fits = omega (arith, size, short); owed_fits = omega arith }),
    ((omega arith, record { front_fits = omega arith; low_fits = omega (arith, size, short); owed_fits = omega arith }), (tt, ((omega arith, some, short), ((omega arith, some, short), ((omega arith, omega arith), tt))))),
  ),
)

-- a layout of so many pages a space, with room for checkpoints or without
abbrev pub layout : ℕ → Bool → Layout
layout n room = record { pages = n; checkpoints = room }

-- words of the whole length that say what is said at first
pub record AreOpening (n least : ℕ) (room : Bool) (words : List ℕ) : Type 0 where
  pub formed : IsFormed n words
  pub says : table_of n words ≡ table_with n (opening_entries n least)
  pub whole : whole_length (layout n room) ≤ length words

module _ (n least : ℕ) (size : IsPageCount n) (some : 4 ≤ least) (short : least ≤ n) where
  opened : Written n (opening_entries n least)
  opened = opening_written n least size some short

  opened_whole : WrittenWhole n (opening_entries n least)
  opened_whole = writes_whole_tables n (opening_entries n least) (entries_fit n least size some short) (record { first = (least, (4, omega arith, refl)); second = (least, (5, omega arith, refl)) })

  pub are_opening : (room : Bool) → AreOpening n least room (opening_words (layout n room) least)
  are_opening true = record { formed = opened_whole.formed; says = opened_whole.says; whole = opened_whole.saves_formed.whole }
  are_opening false = record { formed = opened.formed; says = opened.says; whole = opened.formed.whole }

-- ---- the heap

module _ (prints : Bool) (n : ℕ) (room : Bool) (least mutators scanners : ℕ) (size : IsPageCount n) (fewest : 4 ≤ least) (most : least ≤ n) (all : mutators + scanners ≤ MOST_MUTATORS + MOST_SCANNERS) where
  abbrev s : Layout
  s = layout n room

  abbrev h : Heap
  h = opening_heap prints s least mutators scanners

  words : AreOpening n least room h.words
  words = are_opening n least size fewest most room

  in_team : (k : ℕ) → k < length h.workers → k < mutators + scanners
  in_team k l = let e = many prints s mutators 0 (mutators + scanners) in omega (arith, l, e)

  there : (k : ℕ) → k < length h.workers → held_at h k ≡ fresh_worker prints s mutators k
  there k l = is_there prints s mutators 0 (mutators + scanners) k k (in_team k l) (omega arith)

  -- what is so of a new mutator and of a new scanner is so of each
  each_fresh : (P : Held → Type 0) (k : ℕ) → k < length h.workers → P (fresh_mutator prints s mutators k) → P (fresh_scanner prints s mutators k) → P (held_at h k)
  each_fresh P k l mutator scanner = subst P (sym (there k l)) (by_kind (nat_lt k mutators))
    where
      by_kind : (b : Bool) → P (cond b (fresh_mutator prints s mutators k) (fresh_scanner prints s mutators k))
      by_kind true = mutator
      by_kind false = scanner

  fits : (k : ℕ) → k < length h.workers → Fits n mutators k (held_at h k)
  fits k l =
      let below = in_team k l in
      subst (λ (x : Held). Fits n mutators k x) (sym (there k l)) (fresh_fits prints s mutators k size (omega (arith, below, all)))

  -- with its words the opening of the laws is this heap
  abbrev with_words : Configuration
  with_words = record (laws.opening_configuration n least mutators scanners) { words = h.words }

  as_read : with_words ≡ read h
  as_read = λ i. record with_words { workers = sym (known prints s mutators 0 mutators scanners (mutators + scanners) (omega arith) refl) i }

  abbrev Begins : Configuration → Type 0
  Begins c = (st : Stands c (opening_plain mutators)) × Cycle (era c) (memory c) (team c) st.ghost (opening_plain mutators)

  begins : mutators ≤ MOST_MUTATORS → Begins (read h)
  begins few =
      let o = opening_stands n least mutators scanners size fewest most few all in
      let same = words.says ∙ sym (opened n least size fewest most).says in
      let st : Stands with_words (opening_plain mutators) =
      record { size = size; formed = words.formed; ghost = o.stands.ghost; invariant = rw same o.stands.invariant; shown = rw same o.stands.shown } in
      subst Begins as_read (st, rw same o.cycle)

-- ---- checkpoints

module _ (prints : Bool) (n least mutators scanners : ℕ) (size : IsPageCount n) (fewest : 4 ≤ least) (most : least ≤ n) (all : mutators + scanners ≤ MOST_MUTATORS + MOST_SCANNERS) where
  abbrev whole : Heap
  whole = opening_heap prints (layout n true) least mutators scanners

  says_nothing : saves_in whole ≡ blank_saves
  says_nothing = (opened_whole n least size fewest most).saves

  none_begun : NoneWasBegun (saves_in whole) nothing_frozen
  none_begun = subst (λ (v : Saves). NoneWasBegun v nothing_frozen) (sym says_nothing) (record { snap = refl; done = refl; save = λ page. refl; held = λ page. refl })

  knows_nothing : (k : ℕ) → k < length whole.workers → KnowsNothing (saver_of (held_at whole k))
  knows_nothing k l = each_fresh prints n true least mutators scanners size fewest most all (λ (x : Held). KnowsNothing (saver_of x)) k l
      (record { recalled = refl; settled = refl; still = refl; guarded = refl; marked = refl; save = refl; reads = refl; round = refl })
      (record { recalled = refl; settled = refl; still = refl; guarded = refl; marked = refl; save = refl; reads = refl; round = refl })

  saving : (room : Bool) → StandIf room (opening_heap prints (layout n room) least mutators scanners) (opening_plain mutators)
  saving false = tt
  saving true = record {
    formed = (opened_whole n least size fewest most).saves_formed;
    frozen = nothing_frozen;
    stands = saves_open (table (read whole)) (saves_in whole) nothing_frozen (length whole.workers) (λ k. saver_of (held_at whole k)) none_begun knows_nothing;
    shows = record { number = none_begun.snap; keeps = λ some. absurd (let none = none_begun.snap in omega (arith, some, none)) };
  }

pub heaps_open : HeapsOpen
heaps_open prints s least mutators scanners size fewest most few all =
    let b = begins prints s.pages s.checkpoints least mutators scanners size fewest most all few in
    record {
      stands = b.0;
      cycle = b.1;
      fit = fits prints s.pages s.checkpoints least mutators scanners size fewest most all;
      laid_out = λ k l. each_fresh prints s.pages s.checkpoints least mutators scanners size fewest most all (λ (x : Held). x.layout.checkpoints ≡ s.checkpoints) k l refl refl;
      whole = (are_opening s.pages least size fewest most s.checkpoints).whole;
      saving = saving prints s.pages least mutators scanners size fewest most all s.checkpoints;
    }
