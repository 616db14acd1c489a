-- What one step of a scan looks at, stores and asks.
use Rattle.std.proofs.Common.{◌≡◌, ℕ, ◌+◌, ◌*◌, ◌<◌, ◌≤◌, Bool, true, false, Option, Some, None, refl, sym, ap, ◌∙◌, subst, arith, ⊎_elim, max, if◌then◌else◌}
use Rattle.std.specs.Prelude.{◌==◌}
use Rattle.std.proofs.lemmas.Bool.{cases_lt, lt-ltb, le-ltb, le-leb, lt-leb, eqb-true}
use Rattle.std.proofs.lemmas.Bool.Decides.{nat_tests}
use Rattle.std.proofs.lemmas.Option.{same_Some}
use Rattle.atom_store.specs.declared.reply.Reply.{Reply}
use Rattle.atom_store.specs.declared.reply.Reply.TheVariants.{Value, Done}
use Rattle.atom_store.specs.declared.step.Step.{Step}
use Rattle.atom_store.specs.declared.turn.Turn.TheVariants.{Finished}
use Rattle.plain_state.specs.declared.kind.Kind.{Kind}
use Rattle.plain_state.specs.declared.kind.Kind.TheVariants.{Fields, Raw, Mixed, Weak}
use Rattle.heap_state.specs.Memory.FieldSpan.{first_field}
use Rattle.heap_words.specs.declared.kind.Kind.{Kind as HeaderKind}
use Rattle.heap_words.specs.declared.kind.Kind.TheVariants as header
use Rattle.heap_words.specs.Decoded.{Decoded, NumberWord, PointerWord, HeaderWord, decode}
use Rattle.space_map.specs.declared.area_word.AreaWord.{AreaWord}
use Rattle.space_map.specs.AreaWord.{decode_area}
use Rattle.space_map.specs.Spaces.{Layout, to_space, space_start, first_word}
use Rattle.page_scan.specs.declared.asked.Asked.{Asked}
use Rattle.page_scan.specs.declared.ending.Ending.{Ending}
use Rattle.page_scan.specs.declared.headed_record.HeadedRecord.{HeadedRecord}
use Rattle.page_scan.specs.declared.scan_stage.ScanStage.{ScanStage}
use Rattle.page_scan.specs.declared.scan_stage.ScanStage.TheVariants.{LoadsCross, LoadsFirst, LoadsCount, LoadsWord, Asks, StoresCopy, LoadsFront, LoadsNext, Ended}
use Rattle.page_scan.specs.declared.scanned.Scanned.TheVariants as comes_to
use Rattle.page_scan.specs.declared.scanned_record.ScannedRecord.{ScannedRecord}
use Rattle.page_scan.specs.declared.spot.Spot.{Spot}
use Rattle.page_scan.specs.declared.spot.Spot.TheVariants.{OnBoard, InRecord}
use Rattle.page_scan.specs.Scanning.{Scanning, HasStep, address_of, wanted_at}
use Rattle.page_scan.specs.Soundness.{IsOnPage, FitsStage}
use Rattle.page_scan.specs.Taken.{board_words, by_area, by_count, by_header, by_kind, by_word, enters, goes_on_at, is_old, passes_word, record_at, scan_end, stage_after, told}
use Rattle.page_scan.specs.Theorems.{AsksAtWords, AsksOfPointers, CursorRises, EndsInPlace, StoresAnswer, StoresOnlyAnswers, cursor_at}

-- ---- stores

stores : (v : Scanning) (x : ScanStage) (step : Step) → v.stage ≡ x → wanted_at v.layout v.page v.epoch x ≡ Some step → StoresAnswer v step
stores v (Asks asked) step is wants = absurd (cc)
stores v (StoresCopy asked to) step is wants = subst (StoresAnswer v) (same_Some _ _ wants) (asked, to, is, refl, refl)
stores v (Ended ending) step is wants = absurd (cc)
stores v _ step is wants = subst (StoresAnswer v) (same_Some _ _ wants) tt

pub stores_only_answers : StoresOnlyAnswers
stores_only_answers v step wants = stores v v.stage step refl wants

-- ---- what holds of each stage that a reply can lead to

module _ (P : ScanStage → Type 0) where
  pub of_goes_on : (page : ℕ) (in_place : Bool) (r : ScannedRecord) (x : ℕ)
      → (x < r.fields_end → x < 64 * (page + 1) → P (LoadsWord (InRecord r x)))
      → (x < r.fields_end → 64 * (page + 1) ≤ x → P (Ended (record { cursor = x; at_front = false })))
      → (r.fields_end ≤ x → r.next < 64 * (page + 1) → P (LoadsFront r))
      → (r.fields_end ≤ x → r.next < 64 * (page + 1) → P (LoadsNext r))
      → (r.fields_end ≤ x → 64 * (page + 1) ≤ r.next → P (Ended (record { cursor = r.next; at_front = false })))
      → P (goes_on_at page in_place r x)
  of_goes_on page in_place r x word end front next behind = ⊎_elim
      (λ (a : x < r.fields_end). rw (lt-ltb x r.fields_end a) (⊎_elim
      (λ (b : x < 64 * (page + 1)). rw (lt-ltb x (64 * (page + 1)) b) (word a b))
      (λ (b : 64 * (page + 1) ≤ x). rw (le-ltb x (64 * (page + 1)) b) (end a b))
      (cases_lt x (64 * (page + 1)))))
      (λ (a : r.fields_end ≤ x). rw (le-ltb x r.fields_end a) (⊎_elim
      (λ (b : r.next < 64 * (page + 1)). rw (lt-ltb r.next (64 * (page + 1)) b)
      (elim in_place as (λ z. P (if z then LoadsFront r else LoadsNext r)) [ true ↦ front a b | false ↦ next a b ]))
      (λ (b : 64 * (page + 1) ≤ r.next). rw (le-ltb r.next (64 * (page + 1)) b) (behind a b))
      (cases_lt r.next (64 * (page + 1)))))
      (cases_lt x r.fields_end)

  pub of_passes : (page : ℕ) (in_place : Bool) (spot : Spot)
      → ((x : ℕ) → spot ≡ OnBoard x → x + 1 < 64 * page + board_words → P (LoadsWord (OnBoard (x + 1))))
      → ((x : ℕ) → spot ≡ OnBoard x → 64 * page + board_words ≤ x + 1 → P (Ended (record { cursor = x + 1; at_front = false })))
      → ((r : ScannedRecord) (x : ℕ) → spot ≡ InRecord r x → P (goes_on_at page in_place r (x + 1)))
      → P (passes_word page in_place spot)
  of_passes page in_place (OnBoard x) word end goes = ⊎_elim
      (λ (b : x + 1 < 64 * page + board_words). rw (lt-ltb (x + 1) (64 * page + board_words) b) (word x refl b))
      (λ (b : 64 * page + board_words ≤ x + 1). rw (le-ltb (x + 1) (64 * page + board_words) b) (end x refl b))
      (cases_lt (x + 1) (64 * page + board_words))
  of_passes page in_place (InRecord r x) word end goes = goes r x refl

  of_kind : (page : ℕ) (in_place : Bool) (at : ℕ) (kind : HeaderKind) (size : ℕ)
      → ((k : Kind) → P (enters page in_place at k size)) → P (LoadsCount (record { at = at; size = size })) → P (by_kind page in_place at kind size)
  of_kind page in_place at header.Fields size entered mixed = entered Fields
  of_kind page in_place at header.Raw size entered mixed = entered Raw
  of_kind page in_place at header.Mixed size entered mixed = mixed
  of_kind page in_place at header.Weak size entered mixed = entered Weak

  pub of_header : (page : ℕ) (in_place : Bool) (at : ℕ) (stage : ScanStage) (d : Decoded)
      → ((k : Kind) (size : ℕ) → P (enters page in_place at k size)) → ((size : ℕ) → P (LoadsCount (record { at = at; size = size })))
      → P stage → P (by_header page in_place at stage d)
  of_header page in_place at stage (HeaderWord kind len serial mutator) entered mixed other =
      of_kind page in_place at kind (len + 1) (λ k. entered k (len + 1)) (mixed (len + 1))
  of_header page in_place at stage _ entered mixed other = other

  pub of_count : (page : ℕ) (in_place : Bool) (h : HeadedRecord) (d : Decoded)
      → ((c : ℕ) → c + 2 ≤ h.size → P (enters page in_place h.at (Mixed c) h.size)) → P (LoadsCount h) → P (by_count page in_place h d)
  of_count page in_place h (NumberWord c) counted other = ⊎_elim
      (λ (a : h.size < c + 2). rw (lt-leb (c + 2) h.size a) other)
      (λ (a : c + 2 ≤ h.size). rw (le-leb (c + 2) h.size a) (counted c a))
      (cases_lt h.size (c + 2))
  of_count page in_place h _ counted other = other

  of_old : (b : Bool) (x y : ScanStage) → (b ≡ true → P x) → P y → P (if b then x else y)
  of_old true x y here there = here refl
  of_old false x y here there = there

  pub of_word : (l : Layout) (page epoch : ℕ) (in_place : Bool) (spot : Spot) (d : Decoded)
      → ((old : ℕ) → d ≡ PointerWord old → is_old l epoch old ≡ true → P (Asks (record { spot = spot; old = old })))
      → P (passes_word page in_place spot) → P (by_word l page epoch in_place spot d)
  of_word l page epoch in_place spot (PointerWord a) asks other = of_old (is_old l epoch a) _ _ (asks a refl) other
  of_word l page epoch in_place spot _ asks other = other

  at_front : (r : ScannedRecord) (front : ℕ) (b : Bool) → (front == r.next) ≡ b
      → (front ≡ r.next → P (Ended (record { cursor = r.next; at_front = true }))) → P (LoadsNext r)
      → P (if b then Ended (record { cursor = r.next; at_front = true }) else LoadsNext r)
  at_front r front true is ends next = ends (eqb-true front r.next is)
  at_front r front false is ends next = next

  pub of_area : (l : Layout) (epoch : ℕ) (r : ScannedRecord) (o : Option AreaWord)
      → ((area : AreaWord) → o ≡ Some area → space_start l.pages (to_space epoch) + area.front ≡ r.next → P (Ended (record { cursor = r.next; at_front = true })))
      → P (LoadsNext r) → P (LoadsFront r) → P (by_area l epoch r o)
  of_area l epoch r (Some area) ends next stays =
      at_front r (space_start l.pages (to_space epoch) + area.front) (space_start l.pages (to_space epoch) + area.front == r.next) refl (ends area refl) next
  of_area l epoch r None ends next stays = stays

-- what holds of each way from a stage by a reply to the next stage
pub record OfEachWay (l : Layout) (page epoch : ℕ) (in_place : Bool) (P : ScanStage → Reply → ScanStage → Type 0) : Type 0 where
  pub stays : (x : ScanStage) (reply : Reply) → P x reply x
  pub crosses : (w : ℕ) → P LoadsCross (Value w) (LoadsFirst w)
  pub enters_first : (at w : ℕ) (k : Kind) (size : ℕ) → P (LoadsFirst at) (Value w) (enters page in_place at k size)
  pub heads_first : (at w size : ℕ) → P (LoadsFirst at) (Value w) (LoadsCount (record { at = at; size = size }))
  pub enters_next : (r : ScannedRecord) (w : ℕ) (k : Kind) (size : ℕ) → P (LoadsNext r) (Value w) (enters page in_place r.next k size)
  pub heads_next : (r : ScannedRecord) (w size : ℕ) → P (LoadsNext r) (Value w) (LoadsCount (record { at = r.next; size = size }))
  pub enters_counted : (h : HeadedRecord) (w c : ℕ) → c + 2 ≤ h.size → P (LoadsCount h) (Value w) (enters page in_place h.at (Mixed c) h.size)
  pub asks : (spot : Spot) (w old : ℕ) → decode w ≡ PointerWord old → P (LoadsWord spot) (Value w) (Asks (record { spot = spot; old = old }))
  pub passes_read : (spot : Spot) (w : ℕ) → P (LoadsWord spot) (Value w) (passes_word page in_place spot)
  pub passes_stored : (asked : Asked) (to : ℕ) → P (StoresCopy asked to) Done (passes_word page in_place asked.spot)
  pub ends : (r : ScannedRecord) (w : ℕ) (area : AreaWord) → decode_area w ≡ Some area → space_start l.pages (to_space epoch) + area.front ≡ r.next
      → P (LoadsFront r) (Value w) (Ended (record { cursor = r.next; at_front = true }))
  pub is_inside : (r : ScannedRecord) (w : ℕ) → P (LoadsFront r) (Value w) (LoadsNext r)

pub of_each_way : (l : Layout) (page epoch : ℕ) (in_place : Bool) (P : ScanStage → Reply → ScanStage → Type 0) → OfEachWay l page epoch in_place P
    → (x : ScanStage) (reply : Reply) → P x reply (stage_after l page epoch in_place x reply)
of_each_way l p e i P each LoadsCross (Value w) = each.crosses w
of_each_way l p e i P each (LoadsFirst at) (Value w) =
    of_header (P (LoadsFirst at) (Value w)) p i at (LoadsFirst at) (decode w) (each.enters_first at w) (each.heads_first at w) (each.stays _ _)
of_each_way l p e i P each (LoadsCount h) (Value w) = of_count (P (LoadsCount h) (Value w)) p i h (decode w) (each.enters_counted h w) (each.stays _ _)
of_each_way l p e i P each (LoadsWord spot) (Value w) =
    of_word (P (LoadsWord spot) (Value w)) l p e i spot (decode w) (λ old is back. each.asks spot w old is) (each.passes_read spot w)
of_each_way l p e i P each (StoresCopy asked to) Done = each.passes_stored asked to
of_each_way l p e i P each (LoadsFront r) (Value w) =
    of_area (P (LoadsFront r) (Value w)) l e r (decode_area w) (each.ends r w) (each.is_inside r w) (each.stays _ _)
of_each_way l p e i P each (LoadsNext r) (Value w) =
    of_header (P (LoadsNext r) (Value w)) p i r.next (LoadsNext r) (decode w) (each.enters_next r w) (each.heads_next r w) (each.stays _ _)
of_each_way l p e i P each x reply = each.stays x reply

-- ---- questions

never_asks : (page : ℕ) (in_place : Bool) (r : ScannedRecord) (x : ℕ) (asked : Asked) → goes_on_at page in_place r x ≡ Asks asked → ⊥
never_asks page in_place r x asked =
    of_goes_on (λ z. z ≡ Asks asked → ⊥) page in_place r x (λ a b z. cc) (λ a b z. cc) (λ a b z. cc) (λ a b z. cc) (λ a b z. cc)

passes_without_asking : (page : ℕ) (in_place : Bool) (spot : Spot) (asked : Asked) → passes_word page in_place spot ≡ Asks asked → ⊥
passes_without_asking page in_place spot asked =
    of_passes (λ z. z ≡ Asks asked → ⊥) page in_place spot (λ x is a z. cc) (λ x is a z. cc) (λ r x is. never_asks page in_place r (x + 1) asked)

never_enters : (page : ℕ) (in_place : Bool) (at : ℕ) (k : Kind) (size : ℕ) (asked : Asked) → enters page in_place at k size ≡ Asks asked → ⊥
never_enters page in_place at k size asked = never_asks page in_place (record_at at k size) (max (at + first_field k) (first_word page)) asked

pub asks_at_words : AsksAtWords
asks_at_words v reply asked =
    let P : ScanStage → Reply → ScanStage → Type 0 = λ x reply z. HasStep x → z ≡ Asks asked
    → (x ≡ LoadsWord asked.spot) × ((word : ℕ) × (reply ≡ Value word) × (decode word ≡ PointerWord asked.old)) in
    of_each_way v.layout v.page v.epoch v.in_place P (record {
      stays = λ x reply going is. absurd (subst HasStep is going);
      crosses = λ w going is. absurd (cc);
      enters_first = λ at w k size going is. absurd (never_enters v.page v.in_place at k size asked is);
      heads_first = λ at w size going is. absurd (cc);
      enters_next = λ r w k size going is. absurd (never_enters v.page v.in_place r.next k size asked is);
      heads_next = λ r w size going is. absurd (cc);
      enters_counted = λ h w c fits going is. absurd (never_enters v.page v.in_place h.at (Mixed c) h.size asked is);
      asks = λ spot w old leads going is.
          let same : record { spot = spot; old = old } ≡ asked = cc in
          (ap (λ (a : Asked). LoadsWord a.spot) same, (w, refl, leads ∙ ap (λ (a : Asked). PointerWord a.old) same));
      passes_read = λ spot w going is. absurd (passes_without_asking v.page v.in_place spot asked is);
      passes_stored = λ a to going is. absurd (passes_without_asking v.page v.in_place a.spot asked is);
      ends = λ r w area says front going is. absurd (cc);
      is_inside = λ r w going is. absurd (cc);
    }) v.stage reply

nothing_told : (page : ℕ) (in_place : Bool) (spot : Spot) (old : ℕ) → told (passes_word page in_place spot) ≡ Finished (comes_to.Ask old) → ⊥
nothing_told page in_place spot old =
    let P : ScanStage → Type 0 = λ z. told z ≡ Finished (comes_to.Ask old) → ⊥ in
    of_passes P page in_place spot (λ x is a z. cc) (λ x is a z. cc)
    (λ r x is. of_goes_on P page in_place r (x + 1) (λ a b z. cc) (λ a b z. cc) (λ a b z. cc) (λ a b z. cc) (λ a b z. cc))

old_told : (l : Layout) (p e : ℕ) (i : Bool) (spot : Spot) (old : ℕ) (d : Decoded) → told (by_word l p e i spot d) ≡ Finished (comes_to.Ask old)
    → (d ≡ PointerWord old) × (is_old l e old ≡ true)
old_told l p e i spot old d =
    of_word (λ z. told z ≡ Finished (comes_to.Ask old) → (d ≡ PointerWord old) × (is_old l e old ≡ true)) l p e i spot d
    (λ a leads back is. let same : a ≡ old = cc in (leads ∙ ap PointerWord same, sym (ap (is_old l e) same) ∙ back))
    (λ is. absurd (nothing_told p i spot old is))

pub asks_of_pointers : AsksOfPointers
asks_of_pointers v spot word old at =
    rw at (
      old_told v.layout v.page v.epoch v.in_place spot old (decode word),
      λ leads. rw (leads.0, leads.1) refl,
    )

-- ---- the cursor

goes_on-cursor : (page : ℕ) (in_place : Bool) (r : ScannedRecord) (x from : ℕ) → from ≤ x → from ≤ r.next → from ≤ cursor_at page (goes_on_at page in_place r x)
goes_on-cursor page in_place r x from before next =
    of_goes_on (λ z. from ≤ cursor_at page z) page in_place r x (λ a b. before) (λ a b. before) (λ a b. next) (λ a b. next) (λ a b. next)

passes-cursor : (n page : ℕ) (in_place : Bool) (spot : Spot) → IsOnPage n page spot → address_of spot ≤ cursor_at page (passes_word page in_place spot)
passes-cursor n page in_place (OnBoard x) on =
    of_passes (λ z. x ≤ cursor_at page z) page in_place (OnBoard x)
    (λ y is a. let same : x ≡ y = cc in omega arith) (λ y is a. let same : x ≡ y = cc in omega arith) (λ r y is. absurd (cc))
passes-cursor n page in_place (InRecord r x) on =
    let fields = on.0.fields in let below = on.5 in
    goes_on-cursor page in_place r (x + 1) x (omega arith) (omega arith)

enters-cursor : (n page : ℕ) (in_place : Bool) (at : ℕ) (k : Kind) (size : ℕ) → FitsStage n page (enters page in_place at k size)
    → 64 * page ≤ cursor_at page (enters page in_place at k size)
enters-cursor n page in_place at k size =
    of_goes_on (λ z. FitsStage n page z → 64 * page ≤ cursor_at page z) page in_place (record_at at k size)
    (max (at + first_field k) (first_word page))
    (λ a b fits. omega arith) (λ a b fits. omega arith) (λ a b fits. fits.2) (λ a b fits. fits.2) (λ a b fits. omega arith)

pub cursor_rises : CursorRises
cursor_rises v reply before after =
    let n : ℕ = v.layout.pages in
    let P : ScanStage → Reply → ScanStage → Type 0 = λ x reply z. FitsStage n v.page x → FitsStage n v.page z → cursor_at v.page x ≤ cursor_at v.page z in
    of_each_way v.layout v.page v.epoch v.in_place P (record {
      stays = λ x reply from to. omega arith;
      crosses = λ w from to. omega arith;
      enters_first = λ at w k size from to. enters-cursor n v.page v.in_place at k size to;
      heads_first = λ at w size from to. omega arith;
      enters_next = λ r w k size from to.
          goes_on-cursor v.page v.in_place (record_at r.next k size) (max (r.next + first_field k) (first_word v.page)) r.next (omega arith) (omega arith);
      heads_next = λ r w size from to. omega arith;
      enters_counted = λ h w c fits from to.
          let begins = from.begins in let reaches = from.reaches in
          goes_on-cursor v.page v.in_place (record_at h.at (Mixed c) h.size) (max (h.at + 2) (first_word v.page)) (max h.at (first_word v.page)) (omega arith) (omega arith);
      asks = λ spot w old leads from to. omega arith;
      passes_read = λ spot w from to. passes-cursor n v.page v.in_place spot from;
      passes_stored = λ asked to' from to. passes-cursor n v.page v.in_place asked.spot from;
      ends = λ r w area says front from to. omega arith;
      is_inside = λ r w from to. omega arith;
    }) v.stage reply before.fits after.fits

-- ---- the end

module _ (v : Scanning) (ending : Ending) where
  -- the scan ended so from this stage, by this reply
  abbrev Ends : ScanStage → Reply → Type 0
  Ends x reply =
      (ending.at_front ≡ true → (r : ScannedRecord) × (word : ℕ) × (area : AreaWord) × (x ≡ LoadsFront r) × (reply ≡ Value word)
      × (decode_area word ≡ Some area) × (space_start v.layout.pages (to_space v.epoch) + area.front ≡ ending.cursor))
      × (ending.at_front ≡ false → scan_end v.layout v.page ≤ ending.cursor)

  -- it ended at a word that isn't scanned any more
  at_end : (x : ScanStage) (reply : Reply) (cursor : ℕ) → scan_end v.layout v.page ≤ cursor → Ended (record { cursor = cursor; at_front = false }) ≡ Ended ending
      → Ends x reply
  at_end x reply cursor behind is =
      let same : record { cursor = cursor; at_front = false } ≡ ending = cc in (
        λ front. absurd (let e : false ≡ true = ap (λ (z : Ending). z.at_front) same ∙ front in cc),
        λ end. subst (λ (z : Ending). scan_end v.layout v.page ≤ z.cursor) same behind,
      )

  page_end : v.page < 2 * v.layout.pages → (c : ℕ) → 64 * (v.page + 1) ≤ c → scan_end v.layout v.page ≤ c
  page_end within c behind = grind (arith, nat_tests)

  board_end : v.page ≡ 2 * v.layout.pages → (c : ℕ) → 64 * v.page + board_words ≤ c → scan_end v.layout v.page ≤ c
  board_end is c behind = grind (arith, nat_tests)

  goes_on-ends : (x : ScanStage) (reply : Reply) (r : ScannedRecord) (y : ℕ) → v.page < 2 * v.layout.pages → goes_on_at v.page v.in_place r y ≡ Ended ending → Ends x reply
  goes_on-ends x reply r y within =
      of_goes_on (λ z. z ≡ Ended ending → Ends x reply) v.page v.in_place r y
      (λ a b is. absurd (cc)) (λ a b is. at_end x reply y (page_end within y b) is)
      (λ a b is. absurd (cc)) (λ a b is. absurd (cc)) (λ a b is. at_end x reply r.next (page_end within r.next b) is)

  passes-ends : (x : ScanStage) (reply : Reply) (spot : Spot) → IsOnPage v.layout.pages v.page spot → passes_word v.page v.in_place spot ≡ Ended ending → Ends x reply
  passes-ends x reply (OnBoard y) on =
      of_passes (λ z. z ≡ Ended ending → Ends x reply) v.page v.in_place (OnBoard y)
      (λ c at a is. absurd (cc)) (λ c at a is. at_end x reply (c + 1) (board_end on.0 (c + 1) a) is) (λ r c at is. absurd (cc))
  passes-ends x reply (InRecord r y) on = goes_on-ends x reply r (y + 1) on.1

  ends_from : (x : ScanStage) (reply : Reply) → FitsStage v.layout.pages v.page x → HasStep x
      → stage_after v.layout v.page v.epoch v.in_place x reply ≡ Ended ending → Ends x reply
  ends_from =
      let P : ScanStage → Reply → ScanStage → Type 0 = λ x reply z. FitsStage v.layout.pages v.page x → HasStep x → z ≡ Ended ending → Ends x reply in
      of_each_way v.layout v.page v.epoch v.in_place P (record {
        stays = λ x reply fits going is. absurd (subst HasStep is going);
        crosses = λ w fits going is. absurd (cc);
        enters_first = λ at w k size fits going is.
            goes_on-ends (LoadsFirst at) (Value w) (record_at at k size) (max (at + first_field k) (first_word v.page)) fits.0 is;
        heads_first = λ at w size fits going is. absurd (cc);
        enters_next = λ r w k size fits going is.
            goes_on-ends (LoadsNext r) (Value w) (record_at r.next k size) (max (r.next + first_field k) (first_word v.page)) fits.1 is;
        heads_next = λ r w size fits going is. absurd (cc);
        enters_counted = λ h w c counted fits going is.
            goes_on-ends (LoadsCount h) (Value w) (record_at h.at (Mixed c) h.size) (max (h.at + 2) (first_word v.page)) fits.low is;
        asks = λ spot w old leads fits going is. absurd (cc);
        passes_read = λ spot w fits going is. passes-ends (LoadsWord spot) (Value w) spot fits is;
        passes_stored = λ asked to fits going is. passes-ends (StoresCopy asked to) Done asked.spot fits is;
        ends = λ r w area says front fits going is.
            let same : record { cursor = r.next; at_front = true } ≡ ending = cc in (
              λ at. (r, w, area, refl, refl, says, front ∙ ap (λ (z : Ending). z.cursor) same),
              λ end. absurd (let e : true ≡ false = ap (λ (z : Ending). z.at_front) same ∙ end in cc),
            );
        is_inside = λ r w fits going is. absurd (cc);
      })

pub ends_in_place : EndsInPlace
ends_in_place v reply ending sound going is =
    let z = ends_from v ending v.stage reply sound.fits going is in
    record { at_front = z.0; at_end = z.1 }
