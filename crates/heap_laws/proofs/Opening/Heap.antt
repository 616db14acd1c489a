-- The opening keeps the invariant, and shows the plain state in which nothing was made.
use Rattle.std.proofs.Common.{◌≡◌, ◌≢◌, ℕ, ◌+◌, ◌*◌, ◌/◌, ◌<◌, ◌≤◌, [], length, replicate, List, None, refl, sym, ap, ◌∙◌, arith, ⊎_elim, inl}
use Rattle.std.proofs.lemmas.Bool.{cases_eq, cases_lt}
use Rattle.std.proofs.lemmas.List.{get_or-replicate, length-replicate, get_or_past}
use Rattle.plain_state.specs.declared.kind.Kind.TheVariants.{Fields}
use Rattle.plain_state.specs.declared.value.Value.TheVariants.{Number, Reference}
use Rattle.plain_state.specs.declared.value.Identity.{Identity}
use Rattle.plain_state.specs.State as plain
use Rattle.space_map.specs.declared.spaces.TheConstants.{MOST_MUTATORS, MOST_SCANNERS}
use Rattle.space_map.specs.declared.page_word.PageWord.TheVariants.{Unset, Open, Scanning}
use Rattle.space_map.specs.PageWord.{age_of}
use Rattle.space_map.specs.Spaces.{IsPageCount}
use Rattle.heap_state.specs.Invariant.Parts.Cells.{Cells}
use Rattle.heap_state.specs.Cycles.Cycle.{Cycle, IsRoot, InRegister, OnTheBoard, StillLeads}
use Rattle.heap_state.specs.Memory.Entries.{table_with, EachFits}
use Rattle.heap_state.specs.Theorems.Rows.{Written}
use Rattle.heap_state.specs.Memory.Era.{Era, era_of, Memory, memory_of}
use Rattle.heap_state.specs.Functions.{put}
use Rattle.heap_state.specs.Invariant.Ghost.{Ghost}
use Rattle.heap_state.specs.Invariant.Inductive.{Invariant, Knows}
use Rattle.heap_state.specs.Invariant.Parts.Pages.{Quiet}
use Rattle.heap_state.specs.Memory.Table.{Table}
use Rattle.heap_state.specs.Meaning.Values.{value_of, Accounts, RegistersShow, Shown}
use Rattle.heap_state.specs.Known.{Known, Outside, Scanner, fresh}
use Rattle.heap_state.proofs.Cells.NoCells.{no_cells}
use Rattle.heap_state.proofs.Workers.Idle.{idle_knows}
use Rattle.heap_state.proofs.Puts.{put_at, put_other, none≢some, true_false}
use Rattle.heap_state.proofs.Table.Writing.{writes_tables}
use Rattle.heap_laws.specs.Opening.{opening_entries, opening_plain, opening_mutator, OpeningStands}
use Rattle.heap_laws.proofs.Opening.FreshWorkers.{opening_team, each_fresh, counted, staffed}
use Rattle.plain_state.proofs.Elements.{slice_get-replicate, slice_get-of_replicate}
use Rattle.heap_laws.proofs.Frames.Values.{zero_word, zero_clean, zero_lands, zero_value}

-- ---- nothing stands

abbrev pub nothing : Ghost
nothing = record { size = λ a. 0; writer = λ a. 0; copy = λ a. 0; keeper = λ a. 0; kind = λ a. Fields; identity = λ a. record { mutator = 0; serial = 0 }; kept = λ k. 0 }

-- ---- the pages

module _ (n least : ℕ) where
  abbrev T : Table
  T = table_with n (opening_entries n least)

  abbrev E : Era
  E = era_of T

  abbrev m : Memory
  m = memory_of T

  front : m.front ≡ E.start
  unfolding put
  front = omega arith

  low : m.low ≡ E.start + 64 * least
  unfolding put
  low = omega arith

  old_front : m.old_front ≡ E.old_start
  unfolding put
  old_front = omega arith

  old_order : (E.old_start ≤ m.old_front) × (m.old_front ≤ m.old_low) × (m.old_low ≤ E.old_start + E.old_span)
  unfolding put
  old_order = (omega arith, omega arith, omega arith)

  owes_nothing : m.owed ≤ E.span
  unfolding put
  owes_nothing = omega arith

  as_large : E.old_span ≤ E.span
  unfolding put
  as_large = omega arith

  span : E.span ≡ 64 * least
  unfolding put
  span = omega arith

  heap : (x : ℕ) → m.heap x ≡ 0
  heap x = refl

  board : m.page (E.board / 64) ≡ Open 0
  board = put_at (λ p. Unset) (2 * n) (Open 0) (E.board / 64) (omega arith)

  free : (p : ℕ) → p ≢ 2 * n → m.page p ≡ Unset
  free p d = put_other (λ p. Unset) (2 * n) (Open 0) p d

  young : (p : ℕ) → age_of (m.page p) ≤ 1
  young p = ⊎_elim
      (λ (e : p ≡ 2 * n). rw (put_at (λ p. Unset) (2 * n) (Open 0) p e) (omega arith))
      (λ (d : p ≢ 2 * n). rw (free p d) (omega arith))
      (cases_eq p (2 * n))

  idle : (p k : ℕ) {A : Type 0} → m.page p ≡ Scanning 0 k → A
  idle p k s = ⊎_elim
      (λ (e : p ≡ 2 * n). absurd (let q : Open 0 ≡ Scanning 0 k = rw (put_at (λ p. Unset) (2 * n) (Open 0) p e) at s in cc))
      (λ (d : p ≢ 2 * n). absurd (let q : Unset ≡ Scanning 0 k = rw (free p d) at s in cc))
      (cases_eq p (2 * n))

  quiet : Quiet E 0 m.front m.page
  quiet = record { none = refl; board = board; full = λ p l u. absurd (let f = front in omega arith) }

  -- ---- the workers

  abbrev KnowsHere : ℕ → Known → Type 0
  KnowsHere k w = Knows E m.gate m.traced m.front m.low m.old_front m.old_low m.old_owed nothing m.page m.cross m.announced m.heap k w

  outside : (k : ℕ) → KnowsHere k (fresh Outside)
  outside k = idle_knows (fresh Outside) refl
      (record { past = omega arith; live = λ l. true_false refl l; running = λ r. refl; asking = λ f. refl; rest = λ r. refl; below = omega arith })
      (record { stays = λ e. true_false refl e; gone = λ e. true_false refl e })
      (λ e j l. refl)
      (λ q e. none≢some e)
      (λ u n. record { clean = λ j l t. zero_clean E 0 refl; lands = λ j l. zero_lands (λ a. 0) (λ a. 0) 0 refl; old = λ t. true_false refl t })
      (λ e. true_false refl e)
      refl

  scanner : (k : ℕ) → KnowsHere k (fresh Scanner)
  scanner k = idle_knows (fresh Scanner) refl
      (record { past = omega arith; live = λ l. true_false refl l; running = λ r. refl; asking = λ f. refl; rest = λ r. refl; below = omega arith })
      (record { stays = λ e. true_false refl e; gone = λ e. true_false refl e })
      (λ e. absurd (cc))
      (λ q e. none≢some e)
      (λ u n. true_false refl u)
      (λ e. true_false refl e)
      refl

  -- ---- the whole

  module _ (mutators scanners : ℕ) where
    no_stock : (k : ℕ) → ((opening_team mutators scanners).worker k).stock ≡ None
    no_stock k = each_fresh mutators scanners k (λ w. w.stock ≡ None) refl refl

    -- no cell stands, nobody has one to link or walks, and the epoch is traced
    cells : Cells E m (opening_team mutators scanners) nothing
    cells = no_cells E m (opening_team mutators scanners) nothing (omega arith, omega arith) refl refl (λ k _. each_fresh mutators scanners k (λ w. (w.linking ≡ None) × (w.pass ≡ None)) (refl, refl) (refl, refl)) (λ a st. absurd (omega (arith, st)))

    keeps : least ≤ n → mutators ≤ MOST_MUTATORS → mutators + scanners ≤ MOST_MUTATORS + MOST_SCANNERS → Invariant E m (opening_team mutators scanners) nothing
    keeps short few all =
        let f = front in
        let l = low in
        record {
          counted = counted mutators scanners m.gate refl;
          staffed = staffed mutators scanners few all;
          laid = record { apart = λ a b st. absurd (omega (arith, st)); lies = λ a st. absurd (omega (arith, st)); order = (omega (arith, f), omega (arith, f, l), omega (arith, l, span)); aligned = omega arith; start = inl (sym f); next = λ a s u st. absurd (omega (arith, st)) };
          headed = record { own = λ a st. absurd (omega (arith, st)); kept = λ a k st. absurd (omega (arith, st)); gone = λ a b st. absurd (omega (arith, st)) };
          copied = record { target = λ a b st. absurd (omega (arith, st)); blank = λ a y. (refl, refl); origin = λ b st. absurd (omega (arith, st)); keeper_of = λ a k st. absurd (omega (arith, st)) };
          once = record { once = λ a b st. absurd (omega (arith, st)) };
          kept = record { kept = λ a k st. absurd (omega (arith, st)) };
          room = record { needs = λ t. absurd (omega (arith, t)); fits = λ t. absurd (omega (arith, t)); small = owes_nothing };
          raw_words = record { raw = λ a i st. absurd (omega (arith, st)) };
          counts = record { counts = λ a count st. absurd (omega (arith, st)) };
          shut = record { free = λ p a b. rw (free p (omega (arith, b, l, short))) (omega arith); held = λ b x st. absurd (omega (arith, st)); by = λ b x k st. absurd (omega (arith, st)) };
          filling = record { filling = λ p a b e. quiet };
          tracing = record { begun = omega arith; bottom = omega arith; top = omega arith; quiet = λ t. quiet; last = λ t p a b. absurd (omega (arith, a, f)) };
          aged = record { young = young; board = omega arith };
          scanned = record { scanned = λ p k s. idle p k s };
          opened = record { opened = λ x h o. zero_clean E 0 refl };
          landing = record { lands = λ x h. zero_lands (λ a. 0) (λ a. 0) 0 refl };
          older = record { older = λ a i b y. absurd (omega (arith, y.stands)); written = λ a st s u. refl };
          new = record { opened = λ a x st. absurd (omega (arith, st)); prior = λ b st. absurd (omega (arith, st)); blank = λ x a b w o none. refl };
          new_written = record { written = λ a st. absurd (omega (arith, st)) };
          old_space = record { walks = λ t. absurd (omega (arith, t)) };
          old_area = record { order = old_order };
          old_pages = record { old = λ p a b. absurd (let o = old_front in omega (arith, a, b, o)) };
          sizes = record { below = λ e. as_large };
          crossing = record { crossing = λ p a s u st. absurd (omega (arith, st)) };
          stocks = record { stocked = λ k u q e. absurd (let z = no_stock k in none≢some (sym z ∙ e)); apart = λ i k u v d p q e. absurd (let z = no_stock i in none≢some (sym z ∙ e)) };
          numbered = record { maker = λ a st. absurd (omega (arith, st)); last = λ a st. absurd (omega (arith, st)) };
          cells = cells;
          workers = λ k u. each_fresh mutators scanners k (λ w. KnowsHere k w) (outside k) (scanner k);
        }

    -- ---- the plain state

    no_records : (k : ℕ) → plain.made_by (opening_plain mutators).heap k ≡ []
    no_records k = ⊎_elim
        (λ (l : k < mutators). get_or-replicate mutators k [] [] l)
        (λ (l : mutators ≤ k). get_or_past (replicate mutators []) k [] (let e = length-replicate {A = List plain.Record} mutators [] in omega arith))
        (cases_lt k mutators)

    shows : Shown E m (opening_team mutators scanners) nothing (opening_plain mutators)
    shows = record {
      objects = record { shows = λ a st. absurd (omega (arith, st)) };
      targets = record { shows = λ a v c. absurd (let st = c.cell.stands in omega (arith, st)) };
      board = record { sixteen = refl; board = λ x l. zero_value nothing.identity 0 refl ∙ sym (slice_get-of_replicate 16 x (Number 0) l) };
      as_many = length-replicate mutators opening_mutator;
      makers = length-replicate mutators [];
      accounts = λ k q e.
          let s : q ≡ opening_mutator = slice_get-replicate mutators k opening_mutator q e in
          let none = no_records k in
          each_fresh mutators scanners k (λ w. Accounts (opening_plain mutators).heap k w.account q)
          (rw s (record { counter = refl; printed = refl; executed = refl; end = refl; serial = sym (ap length none) }))
          (rw s (record { counter = refl; printed = refl; executed = refl; end = refl; serial = sym (ap length none) }));
      registers = λ k q e.
          let s : q ≡ opening_mutator = slice_get-replicate mutators k opening_mutator q e in
          each_fresh mutators scanners k (λ w. RegistersShow (value_of nothing.identity) w.registers q)
          (rw s (record { eight = refl; registers_show = λ n j l. zero_value nothing.identity 0 refl ∙ sym (slice_get-of_replicate 8 j (Number 0) l) }))
          (rw s (record { eight = refl; registers_show = λ n j l. zero_value nothing.identity 0 refl ∙ sym (slice_get-of_replicate 8 j (Number 0) l) }));
    }

    -- ---- the cycle

    no_root : (i : Identity) → ¬ (IsRoot (opening_plain mutators) i)
    no_root i (InRegister k j q e n f) =
        let s : q ≡ opening_mutator = slice_get-replicate mutators k opening_mutator q e in
        let t : Reference i ≡ Number 0 = slice_get-replicate 8 j (Number 0) (Reference i) (rw s at f) in
        absurd (cc)
    no_root i (OnTheBoard x e) = let t : Reference i ≡ Number 0 = slice_get-replicate 16 x (Number 0) (Reference i) e in absurd (cc)

    number_leads : (i : Identity) → ¬ (StillLeads E nothing.identity 0 i)
    number_leads i s = absurd (let q = sym zero_word ∙ s.points in cc)

    cycle : Cycle E m (opening_team mutators scanners) nothing (opening_plain mutators)
    cycle = record {
      copying = record {
        old = λ a st. absurd (omega (arith, st));
        sound = λ x i h s. absurd (number_leads i s);
        reached = λ a st. absurd (omega (arith, st));
        sizes = λ b st. absurd (omega (arith, st));
        complete = λ b k r i st. absurd (omega (arith, st));
        only = λ b st. absurd (omega (arith, st));
      };
      rooted = record {
        roots = λ i r. absurd (no_root i r);
        sound = λ k j i l mu e b s. absurd (number_leads i (rw (zero_registers k j) at s));
      };
      made = record { new = λ a st. absurd (omega (arith, st)); grown = λ k l. rw (no_records k) (omega arith) };
    }
      where
        zero_registers : (k j : ℕ) → ((opening_team mutators scanners).worker k).registers j ≡ 0
        zero_registers k j = each_fresh mutators scanners k (λ w. w.registers j ≡ 0) refl refl

-- ---- the words

entries_fit : (n least : ℕ) → IsPageCount n → 4 ≤ least → least ≤ n → EachFits n (opening_entries n least)
entries_fit n least size some short = (tt, ((omega arith, record { front_fits = omega arith; low_fits = omega (arith, size, short); owed_fits = omega arith }), ((omega arith, record { front_fits = omega arith; low_fits = omega (arith, size, short); owed_fits = omega arith }), (tt, ((omega arith, some, short), ((omega arith, some, short), ((omega arith, omega arith), tt)))))))

pub opening_written : (n least : ℕ) → IsPageCount n → 4 ≤ least → least ≤ n → Written n (opening_entries n least)
opening_written n least size some short =
    writes_tables n (opening_entries n least) (entries_fit n least size some short) (record { first = (least, (4, omega arith, refl)); second = (least, (5, omega arith, refl)) })

pub opening_stands : OpeningStands
opening_stands n least mutators scanners size some short few all =
    let w = opening_written n least size some short in
    record {
      stands = record {
        size = size;
        formed = w.formed;
        ghost = nothing;
        invariant = rw w.says (keeps n least mutators scanners short few all);
        shown = rw w.says (shows n least mutators scanners);
      };
      cycle = rw w.says (cycle n least mutators scanners);
    }
