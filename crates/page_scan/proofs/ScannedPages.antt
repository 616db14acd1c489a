-- The scan of a page over whose words records lie packed.
use Rattle.std.proofs.Common.{IsTrue, ◌≡◌, ◌≢◌, ℕ, zero, suc, ◌+◌, ◌*◌, ◌<◌, ◌≤◌, List, length, slice_index, slice_set, Bool, true, false, refl, sym, ap, ◌∙◌, subst, arith, ⊎_elim, ◌⊎◌, inl, inr, max, if◌then◌else◌}
use Rattle.std.specs.Prelude.{◌==◌}
use Rattle.std.proofs.lemmas.Bool.{lt-ltb, le-ltb, cases_lt}
use Rattle.std.proofs.lemmas.Bool.Decides.{nat_tests}
use Rattle.atom_store.specs.Runs.{Working, alone}
use Rattle.plain_state.specs.declared.kind.Kind.TheVariants.{Mixed}
use Rattle.heap_words.specs.declared.kind.Kind.{Kind as HeaderKind}
use Rattle.heap_words.specs.declared.kind.Kind.TheVariants as header
use Rattle.heap_words.specs.Decoded.{Decoded, NumberWord, PointerWord, HeaderWord, decode}
use Rattle.heap_state.specs.Memory.FieldSpan.{first_field}
use Rattle.heap_state.specs.Invariant.Ghost.{count_said, said_kind}
use Rattle.heap_state.specs.Kept.{size_said}
use Rattle.heap_words.specs.FirstWords.{is_header}
use Rattle.heap_words.specs.Word.{pointer_word}
use Rattle.space_map.specs.AreaWord.{decode_area}
use Rattle.space_map.specs.Spaces.{Layout, to_space, board_page}
use Rattle.space_map.specs.Table.{Area, HeapWord, place_of}
use Rattle.page_scan.specs.declared.ending.Ending.{Ending}
use Rattle.page_scan.specs.declared.headed_record.HeadedRecord.{HeadedRecord}
use Rattle.page_scan.specs.declared.scan_stage.ScanStage.{ScanStage}
use Rattle.page_scan.specs.declared.scan_stage.ScanStage.TheVariants.{LoadsCross, LoadsFirst, LoadsCount, LoadsWord, Asks, StoresCopy, LoadsFront, LoadsNext, Ended}
use Rattle.page_scan.specs.declared.scanned_record.ScannedRecord.{ScannedRecord}
use Rattle.page_scan.specs.declared.spot.Spot.{Spot}
use Rattle.page_scan.specs.declared.spot.Spot.TheVariants.{OnBoard, InRecord}
use Rattle.page_scan.specs.Answering.{IsPacked, LeadsBack, ReplacesPointers, answered_by, answering, crossing_in, heap_in}
use Rattle.page_scan.specs.Fields.{IsFieldOn, record_begins, first_said, fields_said}
use Rattle.page_scan.specs.Scanning.{Scanning, address_of, first_stage}
use Rattle.page_scan.specs.Taken.{by_area, by_count, by_header, by_kind, by_word, enters, goes_on_at, is_count, is_old, passes_word, record_at}
use Rattle.page_scan.specs.Theorems.{ScansPages}
use Rattle.page_scan.proofs.Packed.{IsCounted, begins-next, begins-le, field-below, field-of, first, first-before, last, last-before}
use Rattle.page_scan.proofs.Replacing.{Replaced, begun-Replaced, unread, word_places, area_stays, cross_stays, passed, stored, ended-Replaced}

module _ (l : Layout) (page epoch : ℕ) (in_place : Bool) (words : List ℕ) (front : ℕ) (answer : ℕ → ℕ) (lies : IsPacked l page epoch in_place words front) where
  abbrev heap : ℕ → ℕ
  heap x = heap_in l words x

  abbrev from : ℕ
  from = crossing_in l words page

  abbrev at : ℕ → ℕ
  at n = record_begins heap from n

  abbrev Looked : ℕ → Type 0
  Looked x = IsFieldOn page heap from front x

  abbrev Below : ℕ → List ℕ → Type 0
  Below cursor now = Replaced l epoch answer words Looked cursor now

  -- where the record of a number has its first field, and its last
  abbrev first_at : ℕ → ℕ
  first_at k = at k + first heap from front k

  abbrev last_at : ℕ → ℕ
  last_at k = at k + last heap from front k

  counted : (k : ℕ) → at k < front → IsCounted (decode (heap (at k))) (heap (at k + 1))
  counted k below len serial mutator says = lies.counts k len serial mutator below says

  -- the record is the one of this number
  record IsNumber (k : ℕ) (r : ScannedRecord) : Type 0 where
    kind : HeaderKind
    len : ℕ
    serial : ℕ
    mutator : ℕ
    says : decode (heap (at k)) ≡ HeaderWord kind len serial mutator
    is : r ≡ record_at (at k) (said_kind kind (heap (at k + 1))) (len + 1)
    below : at k < front

  -- the mixed record is the one of this number, which lies over the page or on it
  record IsHeadedNumber (k : ℕ) (h : HeadedRecord) : Type 0 where
    serial : ℕ
    mutator : ℕ
    len : ℕ
    says : decode (heap (at k)) ≡ HeaderWord header.Mixed len serial mutator
    is : h ≡ record { at = at k; size = len + 1 }
    below : at k < front
    reaches : 64 * page ≤ at (k + 1)

  -- the word is a field of that record, on the page, and the cursor stands there
  record StandsAt (k : ℕ) (r : ScannedRecord) (x : ℕ) (now : List ℕ) : Type 0 where
    number : IsNumber k r
    replaced : Below x now
    behind : first_at k ≤ x
    in_fields : x < r.fields_end
    on_page : 64 * page ≤ x
    before : x < 64 * (page + 1)

  -- the next record begins on the page, and the cursor stands there
  record StandsBehind (k : ℕ) (r : ScannedRecord) (now : List ℕ) : Type 0 where
    number : IsNumber k r
    replaced : Below r.next now
    on_page : 64 * page ≤ r.next
    before : r.next < 64 * (page + 1)

  abbrev KnowsSpot : Spot → List ℕ → Type 0
  KnowsSpot (OnBoard x) now = ⊥
  KnowsSpot (InRecord r x) now = (k : ℕ) × StandsAt k r x now

  abbrev Knows : ScanStage → List ℕ → Type 0
  Knows LoadsCross now = Below (64 * page) now
  Knows (LoadsFirst a) now = Below (64 * page) now × (a ≡ from)
  Knows (LoadsCount h) now = (k : ℕ) × IsHeadedNumber k h × Below (max (at k) (64 * page)) now
  Knows (LoadsWord spot) now = KnowsSpot spot now
  Knows (Asks asked) now = ⊥
  Knows (StoresCopy asked to) now =
      KnowsSpot asked.spot now × LeadsBack l epoch Looked words (address_of asked.spot) asked.old × (to ≡ answer asked.old)
  Knows (LoadsFront r) now = (k : ℕ) × StandsBehind k r now
  Knows (LoadsNext r) now = (k : ℕ) × StandsBehind k r now × (r.next < front)
  Knows (Ended ending) now = Below ending.cursor now × ((64 * (page + 1) ≤ ending.cursor) ⊎ (ending.cursor ≡ front))

  next-IsNumber : (k : ℕ) (r : ScannedRecord) → IsNumber k r → r.next ≡ at (k + 1)
  next-IsNumber k r n = ap (λ (z : ScannedRecord). z.next) n.is ∙ sym (begins-next heap from front k ∙ ap (λ d. at k + size_said d) n.says)

  fields-IsNumber : (k : ℕ) (r : ScannedRecord) → IsNumber k r → r.fields_end ≡ last_at k
  fields-IsNumber k r n = ap (λ (z : ScannedRecord). z.fields_end) n.is ∙ sym (ap (λ d. at k + fields_said d (heap (at k + 1))) n.says)

  fields-le : (k : ℕ) (r : ScannedRecord) → IsNumber k r → r.fields_end ≤ r.next
  fields-le k r n =
      let f = fields-IsNumber k r n in
      let b = next-IsNumber k r n in
      let z = last-before heap from front k (counted k n.below) in
      omega arith

  -- behind a record's fields, up to the next record, nothing is looked at
  over_rest : (k : ℕ) (r : ScannedRecord) (y : ℕ) (now : List ℕ) → IsNumber k r → Below y now → at k ≤ y → r.fields_end ≤ y → y ≤ r.next → Below r.next now
  over_rest k r y now n replaced behind past before =
      passed l epoch answer words Looked y r.next now replaced before
      (λ x old back from below.
      let next = next-IsNumber k r n in
      let fields = fields-IsNumber k r n in
      let field = field-of heap (crossing_in l words page) front counted x k back.looked.0 (omega arith) (omega arith) in
      omega arith)

  -- behind a record the scan looks for FRONT, or goes on
  behind_record : (place : Bool) → in_place ≡ place → (k : ℕ) (r : ScannedRecord) (now : List ℕ) → StandsBehind k r now
      → Knows (if place then LoadsFront r else LoadsNext r) now
  behind_record true is k r now stands = (k, stands)
  behind_record false is k r now stands = let whole = lies.full is in let b = stands.before in (k, stands, omega arith)

  goes_on-Knows : (k : ℕ) (r : ScannedRecord) (y : ℕ) (now : List ℕ) → IsNumber k r → Below y now → first_at k ≤ y → 64 * page ≤ y → y ≤ r.next
      → Knows (goes_on_at page in_place r y) now
  goes_on-Knows k r y now n replaced behind on_page before = ⊎_elim
      (λ (in_fields : y < r.fields_end). rw (lt-ltb y r.fields_end in_fields) (⊎_elim
      (λ (on : y < 64 * (page + 1)). rw (lt-ltb y (64 * (page + 1)) on)
      (k, record { number = n; replaced = replaced; behind = behind; in_fields = in_fields; on_page = on_page; before = on }))
      (λ (off : 64 * (page + 1) ≤ y). rw (le-ltb y (64 * (page + 1)) off) (replaced, inl off))
      (cases_lt y (64 * (page + 1)))))
      (λ (past : r.fields_end ≤ y). rw (le-ltb y r.fields_end past)
      (let rest = over_rest k r y now n replaced (omega arith) past before in ⊎_elim
      (λ (on : r.next < 64 * (page + 1)). rw (lt-ltb r.next (64 * (page + 1)) on)
      (behind_record in_place refl k r now (record { number = n; replaced = rest; on_page = omega arith; before = on })))
      (λ (off : 64 * (page + 1) ≤ r.next). rw (le-ltb r.next (64 * (page + 1)) off) (rest, inl off))
      (cases_lt r.next (64 * (page + 1)))))
      (cases_lt y r.fields_end)

  still : (x : ScanStage) (now : List ℕ) → Knows x now → Knows (answered_by answer x) now
  still (Asks asked) now known = absurd known
  still _ now known = known

  -- ---- headers

  enters-Knows : (k : ℕ) (kind : HeaderKind) (len serial mutator : ℕ) (now : List ℕ) → decode (heap (at k)) ≡ HeaderWord kind len serial mutator → at k < front
      → Below (max (at k) (64 * page)) now → 64 * page ≤ at (k + 1) → Knows (enters page in_place (at k) (said_kind kind (heap (at k + 1))) (len + 1)) now
  enters-Knows k kind len serial mutator now says below replaced reaches =
      let r : ScannedRecord = record_at (at k) (said_kind kind (heap (at k + 1))) (len + 1) in
      let n : IsNumber k r = record { kind = kind; len = len; serial = serial; mutator = mutator; says = says; is = refl; below = below } in
      let next = next-IsNumber k r n in
      let starts : first heap from front k ≡ first_field (said_kind kind (heap (at k + 1))) = ap (λ d. first_said d (heap (at k + 1))) says in
      let before = first-before heap from front k (counted k below) in
      let y : ℕ = max (first_at k) (64 * page) in
      let rest : Below y now =
      passed l epoch answer words Looked (max (at k) (64 * page)) y now replaced (omega arith)
      (λ x old back from_here to_here.
      let on_page = back.looked.1 in
      let field = field-of heap from front counted x k back.looked.0 (omega arith) (omega arith) in
      omega arith) in
      subst (λ f. Knows (goes_on_at page in_place r (max (at k + f) (64 * page))) now) starts
      (goes_on-Knows k r y now n rest (omega arith) (omega arith) (omega arith))

  kind-Knows : (k : ℕ) (kind : HeaderKind) (len serial mutator : ℕ) (now : List ℕ) → decode (heap (at k)) ≡ HeaderWord kind len serial mutator → at k < front
      → Below (max (at k) (64 * page)) now → 64 * page ≤ at (k + 1) → Knows (by_kind page in_place (at k) kind (len + 1)) now
  kind-Knows k header.Fields len serial mutator now says below replaced reaches = enters-Knows k header.Fields len serial mutator now says below replaced reaches
  kind-Knows k header.Raw len serial mutator now says below replaced reaches = enters-Knows k header.Raw len serial mutator now says below replaced reaches
  kind-Knows k header.Mixed len serial mutator now says below replaced reaches =
      (k, record { serial = serial; mutator = mutator; len = len; says = says; is = refl; below = below; reaches = reaches }, replaced)
  kind-Knows k header.Weak len serial mutator now says below replaced reaches = enters-Knows k header.Weak len serial mutator now says below replaced reaches

  header-Knows : (k : ℕ) (now : List ℕ) (stage : ScanStage) (d : Decoded) → decode (heap (at k)) ≡ d → IsTrue (is_header d) → at k < front
      → Below (max (at k) (64 * page)) now → 64 * page ≤ at (k + 1) → Knows (by_header page in_place (at k) stage d) now
  header-Knows k now stage (HeaderWord kind len serial mutator) says header below replaced reaches =
      kind-Knows k kind len serial mutator now says below replaced reaches
  header-Knows k now stage _ says header below replaced reaches = absurd (cc)

  -- the first word of a record is read
  reads-Knows : (k a : ℕ) (now : List ℕ) (stage : ScanStage) → a ≡ at k → heap_in l now a ≡ heap a → at k < front
      → Below (max (at k) (64 * page)) now → 64 * page ≤ at (k + 1) → Knows (by_header page in_place a stage (decode (heap_in l now a))) now
  reads-Knows k a now stage is same below replaced reaches =
      subst (λ z. Knows (by_header page in_place a stage (decode z)) now) (sym same)
      (subst (λ z. Knows (by_header page in_place z stage (decode (heap z))) now) (sym is)
      (header-Knows k now stage (decode (heap (at k))) refl (lies.headers k below) below replaced reaches))

  at-zero : at 0 ≡ crossing_in l words page
  unfolding record_begins
  at-zero = refl

  first-Knows : (now : List ℕ) (a : ℕ) → Below (64 * page) now → a ≡ crossing_in l words page
      → Knows (by_header page in_place a (LoadsFirst a) (decode (heap_in l now a))) now
  first-Knows now a replaced is =
      let over = lies.over in
      let reaches = lies.reaches in
      let start : at 0 ≡ crossing_in l words page = at-zero in
      let most : 64 * page ≡ max (at 0) (64 * page) = omega arith in
      reads-Knows 0 a now (LoadsFirst a) (is ∙ sym start)
      (replaced.others (place_of l.pages (HeapWord a)) (λ x old back below same. absurd (let from = back.looked.1 in omega arith)))
      (let below = lies.below in omega arith) (subst (λ z. Below z now) most replaced) (omega arith)

  next-Knows : (k : ℕ) (r : ScannedRecord) (now : List ℕ) → StandsBehind k r now → r.next < front
      → Knows (by_header page in_place r.next (LoadsNext r) (decode (heap_in l now r.next))) now
  next-Knows k r now stands below =
      let next = next-IsNumber k r stands.number in
      let on_page = stands.on_page in
      let most : r.next ≡ max (at (k + 1)) (64 * page) = omega arith in
      let further = begins-le heap (crossing_in l words page) front (k + 1) (k + 1 + 1) (omega arith) in
      reads-Knows (k + 1) r.next now (LoadsNext r) next (unread l epoch answer words Looked r.next now stands.replaced r.next (omega arith))
      (omega arith) (subst (λ z. Below z now) most stands.replaced) (omega arith)

  -- ---- counts

  -- the count's word is no field
  count_unread : (k : ℕ) (now : List ℕ) → Below (max (at k) (64 * page)) now → heap_in l now (at k + 1) ≡ heap (at k + 1)
  count_unread k now replaced =
      ⊎_elim
      (λ (off : at k + 1 < 64 * page).
      replaced.others (place_of l.pages (HeapWord (at k + 1)))
      (λ x old back below same. absurd (let on_page = back.looked.1 in let e = word_places l epoch answer words Looked (at k + 1) x same in omega arith)))
      (λ (on : 64 * page ≤ at k + 1). unread l epoch answer words Looked (max (at k) (64 * page)) now replaced (at k + 1) (omega arith))
      (cases_lt (at k + 1) (64 * page))

  counted-Knows : (k len serial mutator c : ℕ) (now : List ℕ) → decode (heap (at k)) ≡ HeaderWord header.Mixed len serial mutator → at k < front
      → Below (max (at k) (64 * page)) now → 64 * page ≤ at (k + 1) → decode (heap (at k + 1)) ≡ NumberWord c → IsTrue (is_count (len + 1) (NumberWord c))
      → Knows (by_count page in_place (record { at = at k; size = len + 1 }) (NumberWord c)) now
  counted-Knows k len serial mutator c now says below replaced reaches is fits =
      rw fits
      (subst (λ d. Knows (enters page in_place (at k) (Mixed (count_said d)) (len + 1)) now) is
      (enters-Knows k header.Mixed len serial mutator now says below replaced reaches))

  count-Knows : (k len serial mutator : ℕ) (d : Decoded) (now : List ℕ) → decode (heap (at k)) ≡ HeaderWord header.Mixed len serial mutator → at k < front
      → Below (max (at k) (64 * page)) now → 64 * page ≤ at (k + 1) → decode (heap (at k + 1)) ≡ d → IsTrue (is_count (len + 1) d)
      → Knows (by_count page in_place (record { at = at k; size = len + 1 }) d) now
  count-Knows k len serial mutator (NumberWord c) now says below replaced reaches is fits = counted-Knows k len serial mutator c now says below replaced reaches is fits
  count-Knows k len serial mutator _ now says below replaced reaches is fits = absurd (cc)

  reads_count-Knows : (k : ℕ) (h : HeadedRecord) (now : List ℕ) → IsHeadedNumber k h → Below (max (at k) (64 * page)) now
      → Knows (by_count page in_place h (decode (heap_in l now (h.at + 1)))) now
  reads_count-Knows k h now n replaced =
      subst (λ z. Knows (by_count page in_place z (decode (heap_in l now (z.at + 1)))) now) (sym n.is)
      (subst (λ w. Knows (by_count page in_place (record { at = at k; size = n.len + 1 }) (decode w)) now) (sym (count_unread k now replaced))
      (count-Knows k n.len n.serial n.mutator (decode (heap (at k + 1))) now n.says n.below replaced n.reaches refl
      (lies.counts k n.len n.serial n.mutator n.below n.says)))

  -- ---- FRONT

  at_front-Knows : (k : ℕ) (r : ScannedRecord) (now : List ℕ) (b : Bool) → (front == r.next) ≡ b → StandsBehind k r now
      → Knows (if b then Ended (record { cursor = r.next; at_front = true }) else LoadsNext r) now
  at_front-Knows k r now true test stands = let same : r.next ≡ front = grind (arith, nat_tests) in (stands.replaced, inr same)
  at_front-Knows k r now false test stands =
      let apart : front ≢ r.next = λ same. grind (arith, nat_tests) in
      let next = next-IsNumber k r stands.number in
      let packed = lies.packed k stands.number.below in
      (k, stands, omega arith)

  front-Knows : (k : ℕ) (r : ScannedRecord) (now : List ℕ) → StandsBehind k r now
      → Knows (by_area l epoch r (decode_area (slice_index now (place_of l.pages (Area (to_space epoch)))))) now
  front-Knows k r now stands =
      let stays = area_stays l epoch answer words Looked r.next now stands.replaced (to_space epoch) (omega arith) in
      let says = ap decode_area stays ∙ lies.says in
      subst (λ o. Knows (by_area l epoch r o) now) (sym says)
      (subst (λ z. Knows (if z == r.next then Ended (record { cursor = r.next; at_front = true }) else LoadsNext r) now) lies.front_is
      (at_front-Knows k r now (front == r.next) refl stands))

  -- ---- words

  passes-Knows : (k : ℕ) (r : ScannedRecord) (x : ℕ) (now before : List ℕ) → StandsAt k r x before → Below (x + 1) now
      → Knows (passes_word page in_place (InRecord r x)) now
  passes-Knows k r x now before stands replaced =
      let le = fields-le k r stands.number in
      let behind = stands.behind in
      let on_page = stands.on_page in
      let in_fields = stands.in_fields in
      goes_on-Knows k r (x + 1) now stands.number replaced (omega arith) (omega arith) (omega arith)

  looked-at : (k : ℕ) (r : ScannedRecord) (x : ℕ) (now : List ℕ) → StandsAt k r x now → Looked x
  looked-at k r x now stands =
      let fields = fields-IsNumber k r stands.number in
      let in_fields = stands.in_fields in
      ((k, stands.number.below, stands.behind, omega arith), stands.on_page, stands.before)

  -- a word that doesn't lead back is passed
  over_word : (k : ℕ) (r : ScannedRecord) (x : ℕ) (now : List ℕ) → StandsAt k r x now
      → ((old : ℕ) → decode (heap x) ≡ PointerWord old → is_old l epoch old ≡ true → ⊥) → Knows (answered_by answer (passes_word page in_place (InRecord r x))) now
  over_word k r x now stands other =
      still (passes_word page in_place (InRecord r x)) now (passes-Knows k r x now now stands
      (passed l epoch answer words Looked x (x + 1) now stands.replaced (omega arith)
      (λ y old back from below.
      let here : y ≡ x = omega arith in
      other old (subst (λ z. decode (heap z) ≡ PointerWord old) here back.leads) back.is_back)))

  old-Knows : (k : ℕ) (r : ScannedRecord) (x : ℕ) (now : List ℕ) (a : ℕ) (b : Bool) → StandsAt k r x now → decode (heap x) ≡ PointerWord a → is_old l epoch a ≡ b
      → Knows (answered_by answer (if b then Asks (record { spot = InRecord r x; old = a }) else passes_word page in_place (InRecord r x))) now
  old-Knows k r x now a true stands leads back =
      ((k, stands), record { looked = looked-at k r x now stands; leads = leads; is_back = back }, refl)
  old-Knows k r x now a false stands leads back =
      over_word k r x now stands (λ old other is. let same : a ≡ old = (let e : PointerWord a ≡ PointerWord old = sym leads ∙ other in cc) in
      let false_true : false ≡ true = sym back ∙ ap (is_old l epoch) same ∙ is in cc)

  word-Knows : (k : ℕ) (r : ScannedRecord) (x : ℕ) (now : List ℕ) (d : Decoded) → StandsAt k r x now → decode (heap x) ≡ d
      → Knows (answered_by answer (by_word l page epoch in_place (InRecord r x) d)) now
  word-Knows k r x now (PointerWord a) stands is = old-Knows k r x now a (is_old l epoch a) stands is refl
  word-Knows k r x now _ stands is = over_word k r x now stands (λ old leads back. let e = sym is ∙ leads in cc)

  spot-Knows : (spot : Spot) (now : List ℕ) → KnowsSpot spot now
      → Knows (answered_by answer (by_word l page epoch in_place spot (decode (heap_in l now (address_of spot))))) now
  spot-Knows (OnBoard x) now known = absurd known
  spot-Knows (InRecord r x) now known =
      subst (λ w. Knows (answered_by answer (by_word l page epoch in_place (InRecord r x) (decode w))) now)
      (sym (unread l epoch answer words Looked x now known.1.replaced x (omega arith)))
      (word-Knows known.0 r x now (decode (heap x)) known.1 refl)

  in_table : (x : ℕ) → x < 64 * (page + 1) → place_of l.pages (HeapWord x) < length words
  unfolding place_of
  in_table x before = let whole = lies.whole in let within = lies.in_space in omega arith

  stored-Knows : (spot : Spot) (old to : ℕ) (now : List ℕ) → KnowsSpot spot now → LeadsBack l epoch Looked words (address_of spot) old → to ≡ answer old
      → Knows (answered_by answer (passes_word page in_place spot)) (slice_set now (place_of l.pages (HeapWord (address_of spot))) (pointer_word to))
  stored-Knows (OnBoard x) old to now known back is = absurd known
  stored-Knows (InRecord r x) old to now known back is =
      let stands = known.1 in
      let after : List ℕ = slice_set now (place_of l.pages (HeapWord x)) (pointer_word to) in
      still (passes_word page in_place (InRecord r x)) after (passes-Knows known.0 r x after now stands
      (subst (λ z. Below (x + 1) (slice_set now (place_of l.pages (HeapWord x)) (pointer_word z))) (sym is)
      (stored l epoch answer words Looked x old now stands.replaced back (in_table x stands.before))))

  -- ---- the run

  abbrev scan_at : ScanStage → List ℕ → Working Scanning
  scan_at x now = record { machine = record { layout = l; page = page; epoch = epoch; in_place = in_place; stage = x }; words = now }

  abbrev Running : ℕ → ScanStage → List ℕ → Type 0
  Running n x now = Knows (alone (answering answer) n (scan_at x now)).machine.stage (alone (answering answer) n (scan_at x now)).words

  ended_stays : (n : ℕ) (ending : Ending) (now : List ℕ) → Knows (Ended ending) now → Running n (Ended ending) now
  unfolding alone
  ended_stays zero ending now known = known
  ended_stays (suc n) ending now known = ended_stays n ending now known

  runs : (n : ℕ) (x : ScanStage) (now : List ℕ) → Knows x now → Running n x now
  unfolding alone
  runs zero x now known = known
  runs (suc n) LoadsCross now known =
      runs n (LoadsFirst _) now (known, cross_stays l epoch answer words Looked (64 * page) now known page (let within = lies.in_space in omega arith))
  runs (suc n) (LoadsFirst a) now known = runs n _ now (still _ now (first-Knows now a known.0 known.1))
  runs (suc n) (LoadsCount h) now known = runs n _ now (still _ now (reads_count-Knows known.0 h now known.1 known.2))
  runs (suc n) (LoadsWord spot) now known = runs n _ now (spot-Knows spot now known)
  runs (suc n) (Asks asked) now known = absurd known
  runs (suc n) (StoresCopy asked to) now known = runs n _ _ (stored-Knows asked.spot asked.old to now known.0 known.1 known.2)
  runs (suc n) (LoadsFront r) now known = runs n _ now (still _ now (front-Knows known.0 r now known.1))
  runs (suc n) (LoadsNext r) now known = runs n _ now (still _ now (next-Knows known.0 r now known.1 known.2))
  runs (suc n) (Ended ending) now known = ended_stays n ending now known

  -- ---- the end

  all-below : (ending : Ending) → (64 * (page + 1) ≤ ending.cursor) ⊎ (ending.cursor ≡ front) → (x : ℕ) → Looked x → x < ending.cursor
  all-below ending (inl off) x looked = let before = looked.2 in omega arith
  all-below ending (inr is) x looked =
      let field = field-below heap from front counted x looked.0 in
      let packed = lies.packed looked.0.0 looked.0.1 in
      omega arith

  pub scanned : (n : ℕ) (ending : Ending) → (alone (answering answer) n (scan_at LoadsCross words)).machine.stage ≡ Ended ending
      → ReplacesPointers l epoch Looked answer words (alone (answering answer) n (scan_at LoadsCross words)).words
  scanned n ending ends =
      let now : List ℕ = (alone (answering answer) n (scan_at LoadsCross words)).words in
      let known : Knows (Ended ending) now =
      subst (λ x. Knows x now) ends (runs n LoadsCross words (begun-Replaced l epoch answer words Looked (64 * page) (λ x looked. looked.1))) in
      ended-Replaced l epoch answer words Looked ending.cursor now known.0 (all-below ending known.1)

pub pages : ScansPages
pages l page epoch in_place words front answer n ending lies =
    let start : Bool → Working Scanning = λ b. record {
      machine = record {
        layout = l;
        page = page;
        epoch = epoch;
        in_place = in_place;
        stage = first_stage b page;
      };
      words = words;
    } in
    let no_board : false ≡ (page == board_page l.pages) = (let within = lies.in_space in let apart : page ≢ 2 * l.pages = λ same. omega arith in grind (arith, nat_tests)) in
    subst (λ b. (alone (answering answer) n (start b)).machine.stage ≡ Ended ending
    → ReplacesPointers l epoch (IsFieldOn page (heap_in l words) (crossing_in l words page) front) answer words (alone (answering answer) n (start b)).words)
    no_board (scanned l page epoch in_place words front answer lies n ending)
