-- What a scan has left goes down with each reply that takes it on: by six where it asks for a copy, of which five may pay for the copy.
use Rattle.std.proofs.Common.{◌≡◌, ℕ, ◌+◌, ◌-◌, ◌*◌, ◌<◌, ◌≤◌, Bool, true, false, cond, nat_eq, nat_lt, max, Option, Some, None, refl, arith, ⊎_elim}
use Rattle.std.specs.Prelude.{is_some}
use Rattle.std.proofs.lemmas.Bool.{cases_lt, cond_both, le-ltb, lt-ltb, ne_eqb}
use Rattle.std.proofs.lemmas.Bool.Decides.{nat_tests}
use Rattle.atom_store.specs.declared.reply.Reply.{Reply}
use Rattle.atom_store.specs.declared.reply.Reply.TheVariants.{Value, Done}
use Rattle.plain_state.specs.declared.kind.Kind.{Kind}
use Rattle.plain_state.specs.declared.kind.Kind.TheVariants.{Fields, Raw, Mixed, Weak}
use Rattle.heap_words.specs.declared.kind.Kind.{Kind as HeaderKind}
use Rattle.heap_words.specs.declared.kind.Kind.TheVariants as header_kinds
use Rattle.heap_words.specs.Decoded.{Decoded, NumberWord, PointerWord, HeaderWord, decode}
use Rattle.heap_words.specs.FirstWords.{is_header}
use Rattle.heap_state.specs.Memory.FieldSpan.{first_field}
use Rattle.space_map.specs.declared.area_word.AreaWord.{AreaWord}
use Rattle.space_map.specs.AreaWord.{decode_area}
use Rattle.space_map.specs.Spaces.{Layout, board_page, first_word}
use Rattle.page_scan.specs.declared.headed_record.HeadedRecord.{HeadedRecord}
use Rattle.page_scan.specs.declared.scan_stage.ScanStage.{ScanStage}
use Rattle.page_scan.specs.declared.scan_stage.ScanStage.TheVariants.{LoadsCross, LoadsFirst, LoadsCount, LoadsWord, Asks, StoresCopy, LoadsFront, LoadsNext}
use Rattle.page_scan.specs.declared.scanned_record.ScannedRecord.{ScannedRecord}
use Rattle.page_scan.specs.declared.spot.Spot.{Spot}
use Rattle.page_scan.specs.declared.spot.Spot.TheVariants.{OnBoard, InRecord}
use Rattle.page_scan.specs.Left.{left_at, advances}
use Rattle.page_scan.specs.Scanning.{address_of}
use Rattle.page_scan.specs.Soundness.{IsHeadedOn, IsOnPage, FitsStage}
use Rattle.page_scan.specs.Taken.{board_words, by_area, by_count, by_header, by_kind, by_word, enters, goes_on_at, is_count, is_old, passes_word, record_at, scan_end, stage_after}

-- what a copy costs that is asked for, before its room is reserved
abbrev pub asks_cost : ScanStage → ℕ
asks_cost (Asks asked) = 5
asks_cost stage = 0

-- what is left with what it asks for
abbrev pub cost : (end : ℕ) → ScanStage → ℕ
cost end stage = left_at end stage + asks_cost stage

scan_end-page : (l : Layout) (p : ℕ) → p < board_page l.pages → scan_end l p ≡ first_word (p + 1)
scan_end-page l p low = let other = ne_eqb p (board_page l.pages) (λ (e : p ≡ board_page l.pages). absurd (omega (arith, low, e))) in rw other refl

-- ---- a word

-- from a word on, it is no more than what the words from there on have left
goes_on-cost : (end page : ℕ) (in_place : Bool) (r : ScannedRecord) (x from : ℕ) → from ≤ x → from ≤ r.next → cost end (goes_on_at page in_place r x) ≤ 7 * (end - from)
goes_on-cost end page in_place r x from low next =
    let P : (ScanStage → Type 0) = (λ (stage : ScanStage). cost end stage ≤ 7 * (end - from)) in
    cond_both (nat_lt x r.fields_end) _ _ P
    (λ _. cond_both (nat_lt x (first_word (page + 1))) _ _ P (λ _. omega (arith, low)) (λ _. omega arith))
    (λ _. cond_both (nat_lt r.next (first_word (page + 1))) _ _ P
    (λ _. cond_both in_place (LoadsFront r) (LoadsNext r) P (λ _. omega (arith, next)) (λ _. omega (arith, next))) (λ _. omega arith))

passed-cost : (l : Layout) (p : ℕ) (in_place : Bool) (spot : Spot) → IsOnPage l.pages p spot
    → cost (scan_end l p) (passes_word p in_place spot) < 7 * (scan_end l p - address_of spot - 1) + 1
passed-cost l p in_place (OnBoard x) fits =
    cond_both (nat_lt (x + 1) (first_word p + board_words)) (LoadsWord (OnBoard (x + 1))) _ (λ (stage : ScanStage). cost (scan_end l p) stage < 7 * (scan_end l p - x - 1) + 1)
    (λ _. omega arith) (λ _. omega arith)
passed-cost l p in_place (InRecord r x) fits =
    let order = fits.0 in
    let inside = fits.5 in
    let few = goes_on-cost (scan_end l p) p in_place r (x + 1) (x + 1) (omega arith) (omega (arith, order, inside)) in
    omega (arith, few)

asked-cost : (l : Layout) (p : ℕ) (spot : Spot) → IsOnPage l.pages p spot
    → 7 * (scan_end l p - address_of spot - 1) + 1 + 5 < 7 * (scan_end l p - address_of spot)
asked-cost l p (OnBoard x) fits = grind (arith, nat_tests)
asked-cost l p (InRecord r x) fits = grind (arith, nat_tests)

by_old : (l : Layout) (p : ℕ) (in_place old : Bool) (spot : Spot) (address : ℕ) → IsOnPage l.pages p spot
    → cost (scan_end l p) (cond old (Asks (record { spot = spot; old = address })) (passes_word p in_place spot)) < 7 * (scan_end l p - address_of spot)
by_old l p in_place true spot address fits = asked-cost l p spot fits
by_old l p in_place false spot address fits =
    let passed = passed-cost l p in_place spot fits in let asked = asked-cost l p spot fits in omega (arith, passed, asked)

by_word-cost : (l : Layout) (p e : ℕ) (in_place : Bool) (spot : Spot) (d : Decoded) → IsOnPage l.pages p spot
    → cost (scan_end l p) (by_word l p e in_place spot d) < 7 * (scan_end l p - address_of spot)
by_word-cost l p e in_place spot (PointerWord address) fits = by_old l p in_place (is_old l e address) spot address fits
by_word-cost l p e in_place spot d fits = by_old l p in_place false spot 0 fits

pub by_word-lt : (l : Layout) (p e : ℕ) (in_place : Bool) (spot : Spot) (d : Decoded) → IsOnPage l.pages p spot
    → left_at (scan_end l p) (by_word l p e in_place spot d) < 7 * (scan_end l p - address_of spot)
by_word-lt l p e in_place spot d fits = let few = by_word-cost l p e in_place spot d fits in omega (arith, few)

-- ---- a count

-- the count of a mixed record is to be read, which begins before the page
counts-before : (end : ℕ) (h : HeadedRecord) → h.at < end - 64 → left_at end (LoadsCount h) ≡ 449
counts-before end h before = rw (lt-ltb h.at (end - 64) before) refl

-- or on it
counts-on : (end : ℕ) (h : HeadedRecord) → end - 64 ≤ h.at → left_at end (LoadsCount h) ≡ 7 * (end - h.at) - 2
counts-on end h on = rw (le-ltb h.at (end - 64) on) refl

counts-lt : (end : ℕ) (h : HeadedRecord) → left_at end (LoadsCount h) < 450
counts-lt end h = ⊎_elim
    (λ (before : h.at < end - 64). let e = counts-before end h before in omega (arith, e))
    (λ (on : end - 64 ≤ h.at). let e = counts-on end h on in omega (arith, e, on))
    (cases_lt h.at (end - 64))

-- it is read
counted-cost : (l : Layout) (p : ℕ) (in_place : Bool) (h : HeadedRecord) (count : ℕ) → IsHeadedOn l.pages p h
    → cost (scan_end l p) (enters p in_place h.at (Mixed count) h.size) < left_at (scan_end l p) (LoadsCount h)
counted-cost l p in_place h count fits =
    let end = scan_end-page l p fits.low in
    let begins = fits.begins in
    let reaches = fits.reaches in
    let counted = fits.counted in
    let r : ScannedRecord = record_at h.at (Mixed count) h.size in
    let x : ℕ = max (h.at + 2) (first_word p) in
    ⊎_elim
    (λ (before : h.at < scan_end l p - 64).
    let few = goes_on-cost (scan_end l p) p in_place r x (first_word p) (omega arith) (omega (arith, reaches)) in
    let left = counts-before (scan_end l p) h before in
    omega (arith, few, left, end))
    (λ (on : scan_end l p - 64 ≤ h.at).
    let few = goes_on-cost (scan_end l p) p in_place r x (h.at + 2) (omega arith) (omega (arith, counted)) in
    let left = counts-on (scan_end l p) h on in
    omega (arith, few, left, end, begins))
    (cases_lt h.at (scan_end l p - 64))

count-cost : (l : Layout) (p : ℕ) (in_place : Bool) (h : HeadedRecord) (d : Decoded) → IsHeadedOn l.pages p h → is_count h.size d ≡ true
    → cost (scan_end l p) (by_count p in_place h d) < left_at (scan_end l p) (LoadsCount h)
count-cost l p in_place h (NumberWord count) fits is = rw is (counted-cost l p in_place h count fits)
count-cost l p in_place h d fits is = absurd (cc)

-- ---- the header over the page's first word

-- on a page it is no more than what a page has
entered-cost : (n page end : ℕ) (in_place : Bool) (r : ScannedRecord) (x : ℕ) → end ≡ first_word (page + 1) → FitsStage n page (goes_on_at page in_place r x)
    → cost end (goes_on_at page in_place r x) ≤ 448
entered-cost n page end in_place r x is =
    let P : (ScanStage → Type 0) = (λ (stage : ScanStage). FitsStage n page stage → cost end stage ≤ 448) in
    cond_both (nat_lt x r.fields_end) _ _ P
    (λ _. cond_both (nat_lt x (first_word (page + 1))) _ _ P (λ _ fits. let low = fits.2 in omega (arith, low, is)) (λ _ fits. omega arith))
    (λ _. cond_both (nat_lt r.next (first_word (page + 1))) _ _ P
    (λ _. cond_both in_place (LoadsFront r) (LoadsNext r) P (λ _ fits. let low = fits.2 in omega (arith, low, is)) (λ _ fits. let low = fits.2 in omega (arith, low, is)))
    (λ _ fits. omega arith))

first_entered-cost : (l : Layout) (p : ℕ) (in_place : Bool) (at size : ℕ) (kind : Kind) → p < board_page l.pages
    → FitsStage l.pages p (enters p in_place at kind size) → cost (scan_end l p) (enters p in_place at kind size) < 450
first_entered-cost l p in_place at size kind low fits =
    let few = entered-cost l.pages p (scan_end l p) in_place (record_at at kind size) (max (at + first_field kind) (first_word p)) (scan_end-page l p low) fits in
    omega (arith, few)

first_kind-cost : (l : Layout) (p : ℕ) (in_place : Bool) (at size : ℕ) (kind : HeaderKind) → p < board_page l.pages
    → FitsStage l.pages p (by_kind p in_place at kind size) → cost (scan_end l p) (by_kind p in_place at kind size) < 450
first_kind-cost l p in_place at size header_kinds.Fields low fits = first_entered-cost l p in_place at size Fields low fits
first_kind-cost l p in_place at size header_kinds.Raw low fits = first_entered-cost l p in_place at size Raw low fits
first_kind-cost l p in_place at size header_kinds.Mixed low fits = let few = counts-lt (scan_end l p) (record { at = at; size = size }) in omega (arith, few)
first_kind-cost l p in_place at size header_kinds.Weak low fits = first_entered-cost l p in_place at size Weak low fits

first-cost : (l : Layout) (p : ℕ) (in_place : Bool) (at : ℕ) (d : Decoded) → p < board_page l.pages → is_header d ≡ true
    → FitsStage l.pages p (by_header p in_place at (LoadsFirst at) d) → cost (scan_end l p) (by_header p in_place at (LoadsFirst at) d) < 450
first-cost l p in_place at (HeaderWord kind len serial mutator) low head fits = first_kind-cost l p in_place at (len + 1) kind low fits
first-cost l p in_place at d low head fits = absurd (cc)

-- ---- the next header

next_entered-cost : (end page : ℕ) (in_place : Bool) (at : ℕ) (kind : Kind) (len : ℕ) → 0 < first_field kind → at < end → cost end (enters page in_place at kind (len + 1)) < 7 * (end - at) - 1
next_entered-cost end page in_place at kind len first inside =
    let fewer = goes_on-cost end page in_place (record_at at kind (len + 1)) (max (at + first_field kind) (first_word page)) (at + 1) (omega (arith, first)) (omega arith) in
    omega (arith, fewer, inside)

next_kind-cost : (end page : ℕ) (in_place : Bool) (at len : ℕ) (kind : HeaderKind) → end - 64 ≤ at → at < end → cost end (by_kind page in_place at kind (len + 1)) < 7 * (end - at) - 1
next_kind-cost end page in_place at len header_kinds.Fields on inside = next_entered-cost end page in_place at Fields len (omega arith) inside
next_kind-cost end page in_place at len header_kinds.Raw on inside = next_entered-cost end page in_place at Raw len (omega arith) inside
next_kind-cost end page in_place at len header_kinds.Mixed on inside = let few = counts-on end (record { at = at; size = len + 1 }) on in omega (arith, few, inside)
next_kind-cost end page in_place at len header_kinds.Weak on inside = next_entered-cost end page in_place at Weak len (omega arith) inside

next-cost : (end page : ℕ) (in_place : Bool) (r : ScannedRecord) (d : Decoded) → end - 64 ≤ r.next → r.next < end → is_header d ≡ true
    → cost end (by_header page in_place r.next (LoadsNext r) d) < 7 * (end - r.next) - 1
next-cost end page in_place r (HeaderWord kind len serial mutator) on inside head = next_kind-cost end page in_place r.next len kind on inside
next-cost end page in_place r d on inside head = absurd (cc)

area-cost : (l : Layout) (e end : ℕ) (r : ScannedRecord) (o : Option AreaWord) → is_some o ≡ true → r.next < end → cost end (by_area l e r o) < 7 * (end - r.next)
area-cost l e end r (Some area) some inside =
    cond_both (nat_eq _ r.next) _ (LoadsNext r) (λ (stage : ScanStage). cost end stage < 7 * (end - r.next)) (λ _. omega (arith, inside)) (λ _. omega (arith, inside))
area-cost l e end r None some inside = absurd (cc)

-- ---- all

-- with each reply that takes the scan on
pub lowers : (l : Layout) (p e : ℕ) (in_place : Bool) (stage : ScanStage) (reply : Reply) → FitsStage l.pages p stage
    → FitsStage l.pages p (stage_after l p e in_place stage reply) → advances stage reply ≡ true
    → cost (scan_end l p) (stage_after l p e in_place stage reply) < left_at (scan_end l p) stage
lowers l p e in_place LoadsCross (Value w) fits after on = omega arith
lowers l p e in_place (LoadsFirst at) (Value w) fits after on = first-cost l p in_place at (decode w) fits.0 on after
lowers l p e in_place (LoadsCount h) (Value w) fits after on = count-cost l p in_place h (decode w) fits on
lowers l p e in_place (LoadsWord spot) (Value w) fits after on = by_word-cost l p e in_place spot (decode w) fits
lowers l p e in_place (StoresCopy asked to) Done fits after on = passed-cost l p in_place asked.spot fits
lowers l p e in_place (LoadsFront r) (Value w) fits after on =
    area-cost l e (scan_end l p) r (decode_area w) on (let end = scan_end-page l p fits.1 in let inside = fits.3 in omega (arith, end, inside))
lowers l p e in_place (LoadsNext r) (Value w) fits after on =
    let end = scan_end-page l p fits.1 in
    let low = fits.2 in
    let inside = fits.3 in
    next-cost (scan_end l p) p in_place r (decode w) (omega (arith, end, low)) (omega (arith, end, inside)) on
lowers l p e in_place stage reply fits after on = absurd (cc)
