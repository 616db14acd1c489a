-- The header of the record over the page's first word is loaded, and that of the next record: the scan enters the record, or reads a
-- mixed one's count next.
use Rattle.std.proofs.Common.{◌≡◌, ◌≢◌, ℕ, ◌+◌, ◌*◌, ◌/◌, ◌<◌, ◌≤◌, ◌⊎◌, Bool, true, false, None, refl, sym, ap, ◌∙◌, arith, max, inl, inr}
use Rattle.std.proofs.Math.Nat.{max_comm}
use Rattle.plain_state.specs.State.{Plain}
use Rattle.atom_store.specs.declared.step.Step.TheVariants.{Load}
use Rattle.atom_store.specs.declared.reply.Reply.TheVariants.{Value}
use Rattle.plain_state.specs.declared.kind.Kind.TheVariants.{Fields, Raw, Weak}
use Rattle.heap_words.specs.declared.kind.Kind.{Kind as HeaderKind}
use Rattle.heap_words.specs.declared.kind.Kind.TheVariants as header_kinds
use Rattle.heap_words.specs.Decoded.{HeaderWord, decode}
use Rattle.heap_words.proofs.Ranges.{header_bounds}
use Rattle.space_map.specs.Spaces.{first_word}
use Rattle.space_map.specs.Table.{HeapWord, place_of}
use Rattle.page_scan.specs.Scanning.{Scanning}
use Rattle.page_scan.specs.declared.scanned_record.ScannedRecord.{ScannedRecord}
use Rattle.page_scan.specs.declared.scan_stage.ScanStage.TheVariants as scan_stage
use Rattle.heap_state.specs.Configuration.{Configuration, Stands, era, memory, team}
use Rattle.heap_state.specs.Memory.Table.{table_of, word_in}
use Rattle.heap_state.specs.Known.{Known, Scan}
use Rattle.heap_laws.specs.Answers.{MeetsHeader, ScanAnswers}
use Rattle.heap_laws.specs.Scanning.Words.{scanning, IsScanning, scan_headed, scan_in_record}
use Rattle.heap_laws.proofs.Lifting.Configurations.{board_at}
use Rattle.heap_laws.proofs.Scanning.ScannedRecords.{reads_first_header, reads_first_mixed, reads_next_header, reads_next_mixed}
use Rattle.heap_laws.proofs.Steps.Answers.{scans_are_answered}
use Rattle.gc_worker.specs.declared.stage.back.Back.{Back}
use Rattle.gc_worker.specs.declared.stage.Stage.TheVariants.{Scans}
use Rattle.gc_worker.specs.Steps.Goes.{Is, Goes, StepsSo}
use Rattle.gc_worker.specs.Workers.Held.{Held}
use Rattle.gc_worker.specs.Workers.Knows.{knows, scan_of, seen_record}
use Rattle.gc_worker.proofs.Stages.Gate.GateWords.{wants}
use Rattle.gc_worker.proofs.Stages.Scan.Entering.{IsEntered, entered, headed, not_board}
use Rattle.gc_worker.proofs.Words.RowSteps.{Law, loads, prepared}

-- a heap word is the word that stands in its row
pub heap_word : (c : Configuration) (a : ℕ) → (memory c).heap a ≡ word_in c.pages c.words (HeapWord a)
unfolding table_of
heap_word c a = refl

-- the fields of a record that isn't mixed
entered_fields : (n page a len : ℕ) → page < 2 * n → a < 128 * n → 64 * page < a + (len + 1) → len ≤ 4095 → IsEntered n page a (len + 1) Fields
entered_fields n page a len space inside reaches short =
    record { space = space; inside = inside; reaches = reaches; short = omega (arith, short); some = omega arith; fits = omega arith; behind = omega arith; begins = omega arith }

entered_raw : (n page a len : ℕ) → page < 2 * n → a < 128 * n → 64 * page < a + (len + 1) → len ≤ 4095 → IsEntered n page a (len + 1) Raw
entered_raw n page a len space inside reaches short =
    record { space = space; inside = inside; reaches = reaches; short = omega (arith, short); some = omega arith; fits = omega arith; behind = omega arith; begins = omega arith }

entered_cell : (n page a len : ℕ) → page < 2 * n → a < 128 * n → 64 * page < a + (len + 1) → len ≤ 4095 → IsEntered n page a (len + 1) Weak
entered_cell n page a len space inside reaches short =
    record { space = space; inside = inside; reaches = reaches; short = omega (arith, short); some = omega arith; fits = omega arith; behind = omega arith; begins = omega arith }

-- ---- the record over the page's first word

module _ (c : Configuration) (p : Plain) (s : Stands c p) (k : ℕ) (y : Held) (u : Scanning) (back : Back) (a : ℕ) where
  abbrev v1 : Scanning
  v1 = record u { stage = scan_stage.LoadsFirst a }

  abbrev x1 : Held
  x1 = record y { stage = Scans v1 back }

  abbrev now1 : Scan
  now1 = scan_of v1 (scan_stage.LoadsFirst a)

  module _ (is : Is c k x1) where
    space1 : u.page < 2 * c.pages
    space1 = let f = is.fits.stage.0.sound.fits.0 in let l = is.fits.stage.0.layout in let n = is.fits.pages in rw (l, n) at f

    inside1 : a < 128 * c.pages
    inside1 = let f = is.fits.stage.0.sound.fits.1 in let l = is.fits.stage.0.layout in let n = is.fits.pages in rw (l, n) at f

    apart1 : u.page ≢ (era c).board / 64
    apart1 = not_board c p s k y v1 back a 0 Fields space1

    scans1 : IsScanning (team c) k now1
    scans1 = record { scans = ap (λ (w : Known). w.scan) is.as_known; asks_nothing = ap (λ (w : Known). w.quest) is.as_known }

    answers1 : ScanAnswers (era c) (memory c) s.ghost now1
    answers1 = scans_are_answered (era c) (memory c) (team c) s.ghost k now1 (prepared c p s k x1 is) scans1

    below_board1 : (memory c).front ≤ 128 * c.pages
    below_board1 = let f = answers1.front in let b = board_at c in omega (arith, f, b)

    -- where it has that header
    module _ (len serial mutator : ℕ) (within : a + (len + 1) ≤ (memory c).front) (first : a ≤ 64 * u.page) (reaches : 64 * u.page < a + (len + 1)) where
      goes1 : (kind : HeaderKind) → decode ((memory c).heap a) ≡ HeaderWord kind len serial mutator → (kind ≡ header_kinds.Mixed → 0 < len) → Goes c p s k None x1 (Value (word_in c.pages c.words (HeapWord a)))
      goes1 header_kinds.Fields says counted =
          let said : decode (word_in c.pages c.words (HeapWord a)) ≡ HeaderWord header_kinds.Fields len serial mutator = ap decode (sym (heap_word c a)) ∙ says in
          let l = reads_first_header (era c) (memory c) (team c) s.ghost k now1 a len serial mutator header_kinds.Fields (prepared c p s k x1 is) scans1 apart1 refl refl says in
          let law : Law c p s k x1 None (scanning (knows x1) (scan_in_record (era c) now1 a Fields (len + 1))) s.ghost = rw is.as_known at l in
          entered c p s k y v1 back a (len + 1) Fields is (entered_fields c.pages u.page a len space1 inside1 reaches (header_bounds _ _ _ _ _ said).0)
          (word_in c.pages c.words (HeapWord a)) (rw (max_comm (a + 1) (first_word u.page)) law) (rw said refl) (λ sound. rw said sound) refl
      goes1 header_kinds.Raw says counted =
          let said : decode (word_in c.pages c.words (HeapWord a)) ≡ HeaderWord header_kinds.Raw len serial mutator = ap decode (sym (heap_word c a)) ∙ says in
          let l = reads_first_header (era c) (memory c) (team c) s.ghost k now1 a len serial mutator header_kinds.Raw (prepared c p s k x1 is) scans1 apart1 refl refl says in
          let law : Law c p s k x1 None (scanning (knows x1) (scan_in_record (era c) now1 a Raw (len + 1))) s.ghost = rw is.as_known at l in
          entered c p s k y v1 back a (len + 1) Raw is (entered_raw c.pages u.page a len space1 inside1 reaches (header_bounds _ _ _ _ _ said).0)
          (word_in c.pages c.words (HeapWord a)) (rw (max_comm (a + 1) (first_word u.page)) law) (rw said refl) (λ sound. rw said sound) refl
      goes1 header_kinds.Mixed says counted =
          let said : decode (word_in c.pages c.words (HeapWord a)) ≡ HeaderWord header_kinds.Mixed len serial mutator = ap decode (sym (heap_word c a)) ∙ says in
          let l = reads_first_mixed (era c) (memory c) (team c) s.ghost k now1 a len serial mutator (prepared c p s k x1 is) scans1 apart1 refl refl says in
          let law : Law c p s k x1 None (scanning (knows x1) (scan_headed now1 a (len + 1))) s.ghost = rw is.as_known at l in
          let some = counted refl in
          let short = (header_bounds _ _ _ _ _ said).0 in
          let b = below_board1 in
          headed c p s k y v1 back (record { at = a; size = len + 1 }) is
          (record { low = space1; counted = omega (arith, some); short = omega (arith, short); inside = omega (arith, within, b); begins = omega (arith, first); reaches = reaches })
          (word_in c.pages c.words (HeapWord a)) now1 refl refl refl (omega (arith, first)) law (rw said refl) (λ sound. rw said sound) refl
      goes1 header_kinds.Weak says counted =
          let said : decode (word_in c.pages c.words (HeapWord a)) ≡ HeaderWord header_kinds.Weak len serial mutator = ap decode (sym (heap_word c a)) ∙ says in
          let l = reads_first_header (era c) (memory c) (team c) s.ghost k now1 a len serial mutator header_kinds.Weak (prepared c p s k x1 is) scans1 apart1 refl refl says in
          let law : Law c p s k x1 None (scanning (knows x1) (scan_in_record (era c) now1 a Weak (len + 1))) s.ghost = rw is.as_known at l in
          entered c p s k y v1 back a (len + 1) Weak is (entered_cell c.pages u.page a len space1 inside1 reaches (header_bounds _ _ _ _ _ said).0)
          (word_in c.pages c.words (HeapWord a)) (rw (max_comm (a + 1) (first_word u.page)) law) (rw said refl) (λ sound. rw said sound) refl

    -- its header stands there, and it reaches past that word
    pub first_header : (h : MeetsHeader (memory c) a) × (64 * u.page < a + (h.len + 1))
    first_header = (answers1.first a apart1 refl).1

    pub reads_first : StepsSo c p s k x1
    reads_first =
        let f = first_header in
        wants c p s k x1 (Load (place_of c.pages (HeapWord a))) (rw (is.fits.stage.0.layout, is.fits.pages) refl)
        (loads c p s k x1 (HeapWord a) (let i = inside1 in omega (arith, i)) (goes1 f.0.len f.0.serial f.0.mutator f.0.within (answers1.first a apart1 refl).0 f.1 f.0.kind f.0.header f.0.counted))

-- ---- the next record

module _ (c : Configuration) (p : Plain) (s : Stands c p) (k : ℕ) (y : Held) (u : Scanning) (back : Back) (q : ScannedRecord) where
  abbrev v2 : Scanning
  v2 = record u { stage = scan_stage.LoadsNext q }

  abbrev x2 : Held
  x2 = record y { stage = Scans v2 back }

  abbrev now2 : Scan
  now2 = scan_of v2 (scan_stage.LoadsNext q)

  module _ (is : Is c k x2) where
    space2 : u.page < 2 * c.pages
    space2 = let f = is.fits.stage.0.sound.fits.1 in let l = is.fits.stage.0.layout in let n = is.fits.pages in rw (l, n) at f

    on_page : (first_word u.page ≤ q.next) × (q.next < first_word (u.page + 1))
    on_page = let f = is.fits.stage.0.sound.fits in (f.2, f.3)

    apart2 : u.page ≢ (era c).board / 64
    apart2 = not_board c p s k y v2 back q.next 0 Fields space2

    scans2 : IsScanning (team c) k now2
    scans2 = record { scans = ap (λ (w : Known). w.scan) is.as_known; asks_nothing = ap (λ (w : Known). w.quest) is.as_known }

    inner_or_not : (b : Bool) → u.in_place ≡ b → (u.in_place ≡ true) ⊎ (u.in_place ≡ false)
    inner_or_not true e = inl e
    inner_or_not false e = inr e

    below2 : q.next < 64 * u.page + 64
    below2 = let o = on_page in omega (arith, o)

    answers2 : ScanAnswers (era c) (memory c) s.ghost now2
    answers2 = scans_are_answered (era c) (memory c) (team c) s.ghost k now2 (prepared c p s k x2 is) scans2

    pub answer2 : MeetsHeader (memory c) q.next
    answer2 = answers2.next (seen_record q) apart2 refl refl below2 (inner_or_not u.in_place refl)

    below_board2 : (memory c).front ≤ 128 * c.pages
    below_board2 = let f = answers2.front in let b = board_at c in omega (arith, f, b)

    inside2 : q.next < 128 * c.pages
    inside2 = let o = on_page in let i = space2 in omega (arith, o, i)

    -- where it has that header
    module _ (len serial mutator : ℕ) (within : q.next + (len + 1) ≤ (memory c).front) where
      reaches2 : 64 * u.page < q.next + (len + 1)
      reaches2 = let o = on_page in omega (arith, o)

      entry : max (q.next + 1) (first_word u.page) ≡ max q.next (q.next + 1)
      entry = let o = on_page in omega (arith, o)

      goes2 : (kind : HeaderKind) → decode ((memory c).heap q.next) ≡ HeaderWord kind len serial mutator → (kind ≡ header_kinds.Mixed → 0 < len) → Goes c p s k None x2 (Value (word_in c.pages c.words (HeapWord q.next)))
      goes2 header_kinds.Fields says counted =
          let said : decode (word_in c.pages c.words (HeapWord q.next)) ≡ HeaderWord header_kinds.Fields len serial mutator = ap decode (sym (heap_word c q.next)) ∙ says in
          let l = reads_next_header (era c) (memory c) (team c) s.ghost k now2 (seen_record q) len serial mutator header_kinds.Fields (prepared c p s k x2 is) scans2 apart2 refl refl below2 (inner_or_not u.in_place refl) says in
          let law : Law c p s k x2 None (scanning (knows x2) (scan_in_record (era c) now2 q.next Fields (len + 1))) s.ghost = rw is.as_known at l in
          entered c p s k y v2 back q.next (len + 1) Fields is (entered_fields c.pages u.page q.next len space2 inside2 reaches2 (header_bounds _ _ _ _ _ said).0)
          (word_in c.pages c.words (HeapWord q.next)) (rw entry law) (rw said refl) (λ sound. rw said sound) refl
      goes2 header_kinds.Raw says counted =
          let said : decode (word_in c.pages c.words (HeapWord q.next)) ≡ HeaderWord header_kinds.Raw len serial mutator = ap decode (sym (heap_word c q.next)) ∙ says in
          let l = reads_next_header (era c) (memory c) (team c) s.ghost k now2 (seen_record q) len serial mutator header_kinds.Raw (prepared c p s k x2 is) scans2 apart2 refl refl below2 (inner_or_not u.in_place refl) says in
          let law : Law c p s k x2 None (scanning (knows x2) (scan_in_record (era c) now2 q.next Raw (len + 1))) s.ghost = rw is.as_known at l in
          entered c p s k y v2 back q.next (len + 1) Raw is (entered_raw c.pages u.page q.next len space2 inside2 reaches2 (header_bounds _ _ _ _ _ said).0)
          (word_in c.pages c.words (HeapWord q.next)) (rw entry law) (rw said refl) (λ sound. rw said sound) refl
      goes2 header_kinds.Mixed says counted =
          let said : decode (word_in c.pages c.words (HeapWord q.next)) ≡ HeaderWord header_kinds.Mixed len serial mutator = ap decode (sym (heap_word c q.next)) ∙ says in
          let l = reads_next_mixed (era c) (memory c) (team c) s.ghost k now2 (seen_record q) len serial mutator (prepared c p s k x2 is) scans2 apart2 refl refl below2 (inner_or_not u.in_place refl) says in
          let law : Law c p s k x2 None (scanning (knows x2) (scan_headed now2 q.next (len + 1))) s.ghost = rw is.as_known at l in
          let some = counted refl in
          let short = (header_bounds _ _ _ _ _ said).0 in
          let b = below_board2 in
          let o = on_page in
          headed c p s k y v2 back (record { at = q.next; size = len + 1 }) is
          (record { low = space2; counted = omega (arith, some); short = omega (arith, short); inside = omega (arith, within, b); begins = o.1; reaches = reaches2 })
          (word_in c.pages c.words (HeapWord q.next)) now2 refl refl refl (omega (arith, o)) law (rw said refl) (λ sound. rw said sound) refl
      goes2 header_kinds.Weak says counted =
          let said : decode (word_in c.pages c.words (HeapWord q.next)) ≡ HeaderWord header_kinds.Weak len serial mutator = ap decode (sym (heap_word c q.next)) ∙ says in
          let l = reads_next_header (era c) (memory c) (team c) s.ghost k now2 (seen_record q) len serial mutator header_kinds.Weak (prepared c p s k x2 is) scans2 apart2 refl refl below2 (inner_or_not u.in_place refl) says in
          let law : Law c p s k x2 None (scanning (knows x2) (scan_in_record (era c) now2 q.next Weak (len + 1))) s.ghost = rw is.as_known at l in
          entered c p s k y v2 back q.next (len + 1) Weak is (entered_cell c.pages u.page q.next len space2 inside2 reaches2 (header_bounds _ _ _ _ _ said).0)
          (word_in c.pages c.words (HeapWord q.next)) (rw entry law) (rw said refl) (λ sound. rw said sound) refl

    pub reads_next : StepsSo c p s k x2
    reads_next =
        wants c p s k x2 (Load (place_of c.pages (HeapWord q.next))) (rw (is.fits.stage.0.layout, is.fits.pages) refl)
        (loads c p s k x2 (HeapWord q.next) (let o = on_page in let i = space2 in omega (arith, o, i))
        (let h = answer2 in goes2 h.len h.serial h.mutator h.within h.kind h.header h.counted))
