-- A word is stored in a word of a record that nobody writes, or on the board: what reads heap words stays.
use Rattle.std.proofs.Common.{◌≡◌, ◌≢◌, ℕ, ◌+◌, ◌/◌, ◌^◌, ◌<◌, ◌≤◌, Bool, true, false, Option, Some, refl, sym, ap, ◌∙◌, arith, ⊎_elim, ◌⊎◌, inl, inr}
use Rattle.plain_state.specs.declared.kind.Kind.{Kind}
use Rattle.plain_state.specs.declared.kind.Kind.TheVariants.{Mixed}
use Rattle.plain_state.specs.State as plain
use Rattle.plain_state.specs.declared.value.Identity.{Identity}
use Rattle.plain_state.specs.Layout.{is_field, word_of_value}
use Rattle.space_map.specs.declared.page_word.PageWord.{PageWord}
use Rattle.heap_state.specs.Memory.Era.{Era, IsLaidOut}
use Rattle.heap_state.specs.Functions.{put}
use Rattle.heap_state.specs.Invariant.Ghost.{IsField, Leads, Lands, OnBoard, Here}
use Rattle.heap_state.specs.Invariant.Parts.Copying.{Copies, Keeps, IsOrigin}
use Rattle.heap_state.specs.Invariant.Parts.Leading.{Opened, Landing, Older}
use Rattle.heap_state.specs.Invariant.Parts.OldSpace.{OldSpace}
use Rattle.heap_state.specs.Invariant.Parts.Records.{Laid, Headed, RawWords, Counts, NewArea}
use Rattle.heap_state.specs.Invariant.Parts.Scanning.{Scans}
use Rattle.heap_state.specs.Invariant.Parts.Stocks.{Stocks, Stocked}
use Rattle.heap_state.specs.Meaning.Values.{Shows, ShowsAll, BoardShows, value_of}
use Rattle.heap_state.specs.Known.{Known, Copy, Scan, Stock, Origin, Register, Scanned}
use Rattle.heap_state.proofs.Puts.{put_other, each_put}
use Rattle.heap_state.proofs.Records.Layouts.{count_stays, raw_is_no_field, value_within}
use Rattle.heap_laws.specs.Fields.Held.{MayHold}
use Rattle.heap_laws.proofs.Frames.OtherWords.{has_place, headed_same, area_same, old_space_same, stocked_same, copies_same}
use Rattle.heap_laws.proofs.Frames.Values.{one_place}

-- word i of the record at a: the record stands in the epoch's space, and nobody writes it
pub record IsRecordWord (E : Era) (size writer : ℕ → ℕ) (a i : ℕ) : Type 0 where
  pub stands : 0 < size a
  pub written : writer a ≡ 0
  pub inside : (E.start ≤ a) × (a < E.start + E.span)
  pub first : 0 < i
  pub last : i < size a

-- the address is such a word
pub record InWord (E : Era) (size writer : ℕ → ℕ) (x : ℕ) : Type 0 where
  pub a : ℕ
  pub i : ℕ
  pub word : IsRecordWord E size writer a i
  pub at : x ≡ a + i

-- A store of v at x, which is such a word or on the board. In a field or on the board it is what a mutator may hold,
-- elsewhere a number below 2^62. The word of a count is no such word.
pub record Slot (E : Era) (front low : ℕ) (size writer : ℕ → ℕ) (kind : ℕ → Kind) (x v : ℕ) : Type 0 where
  pub lay : IsLaidOut E
  pub laid : Laid E front low size
  pub place : InWord E size writer x ⊎ OnBoard E x
  pub held : Here E size writer kind x → MayHold E size writer v
  pub number : (a i : ℕ) → i < size a → a + i ≡ x → is_field (kind a) i ≡ false → v < 2 ^ 62
  pub value : (a count : ℕ) → 1 < size a → kind a ≡ Mixed count → a + 1 ≢ x

-- what a word of a record that is x is
pub record SlotWord (E : Era) (writer : ℕ → ℕ) (a i : ℕ) : Type 0 where
  pub first : 0 < i
  pub written : writer a ≡ 0
  pub inside : (E.start ≤ a) × (a < E.start + E.span)

module _ {E : Era} {front low : ℕ} {size : ℕ → ℕ} (lay : IsLaidOut E) (laid : Laid E front low size) where
  -- where a record's words are
  pub within : (a : ℕ) → 0 < size a → ((E.start ≤ a) × (a + size a ≤ E.start + E.span)) ⊎ ((E.old_start ≤ a) × (a + size a ≤ E.old_start + E.old_span))
  within a st = ⊎_elim
      (λ p. inl (p.0, omega (arith, p.1, laid.order)))
      (λ q. ⊎_elim (λ p. inl (omega (arith, p.0, laid.order), p.1)) (λ p. inr p) q)
      (laid.lies a st)

  -- a word of a record there is a field
  pub here_field : (writer : ℕ → ℕ) (kind : ℕ → Kind) (x : ℕ) → Here E size writer kind x → (a i : ℕ) → i < size a → a + i ≡ x → (0 < i) × (is_field (kind a) i ≡ true)
  unfolding Here
  here_field writer kind x (inr b) a i l e = absurd (let q = within a (omega (arith, l)) in omega (arith, q, l, e, b, lay.below, lay.old_below))
  here_field writer kind x (inl u) a i l e =
      let f : IsField size writer kind u.a u.i = u.field in
      let q : u.a ≡ a = sym (one_place size a u.a i u.i laid.apart l f.last (e ∙ u.at)) in
      let j : u.i ≡ i = omega (arith, q, e, u.at) in
      let c : (0 < u.i) × (is_field (kind u.a) u.i ≡ true) = (f.first, f.field) in
      rw (q, j) at c

-- a store where mutators read, of what a mutator may hold
pub here_slot : {E : Era} {front low : ℕ} {size writer : ℕ → ℕ} {kind : ℕ → Kind} {x v : ℕ} → IsLaidOut E → Laid E front low size → Here E size writer kind x → MayHold E size writer v → Slot E front low size writer kind x v
unfolding Here
here_slot {E} {front} {low} {size} {writer} {kind} {x} lay laid here may = record {
  lay = lay;
  laid = laid;
  place = by_place here;
  held = λ _. may;
  number = λ a i l e n. let t = sym (here_field lay laid writer kind x here a i l e).1 ∙ n in absurd (cc);
  value = λ a count l k e. let t = sym (here_field lay laid writer kind x here a 1 l e).1 ∙ ap (λ y. is_field y 1) k in absurd (cc);
}
  where
    by_place : Here E size writer kind x → InWord E size writer x ⊎ OnBoard E x
    by_place (inr b) = inr b
    by_place (inl u) = let f : IsField size writer kind u.a u.i = u.field in
        inl (record { a = u.a; i = u.i; word = record { stands = f.stands; written = f.written; inside = u.inside; first = f.first; last = f.last }; at = u.at })

module _ {E : Era} {front low : ℕ} {size writer : ℕ → ℕ} {kind : ℕ → Kind} {x v : ℕ} (sl : Slot E front low size writer kind x v) (h : ℕ → ℕ) where
  open sl use {lay, laid, place, held, number, value}

  pub word : (a i : ℕ) → i < size a → a + i ≡ x → SlotWord E writer a i
  word a i l e = by_place place
    where
      by_place : InWord E size writer x ⊎ OnBoard E x → SlotWord E writer a i
      by_place (inr b) = absurd (let q = within lay laid a (omega (arith, l)) in omega (arith, q, l, e, b, lay.below, lay.old_below))
      by_place (inl u) =
          let f : IsRecordWord E size writer u.a u.i = u.word in
          let q : a ≡ u.a = one_place size a u.a i u.i laid.apart l f.last (e ∙ u.at) in
          let y : writer a ≡ writer u.a = ap writer q in
          record { first = omega (arith, q, e, u.at, f.first); written = omega (arith, y, f.written); inside = (omega (arith, q, f.inside), omega (arith, q, f.inside)) }

  -- where x is
  side : ((E.start ≤ x) × (x < E.start + E.span)) ⊎ (E.board ≤ x)
  side = by_place place
    where
      by_place : InWord E size writer x ⊎ OnBoard E x → ((E.start ≤ x) × (x < E.start + E.span)) ⊎ (E.board ≤ x)
      by_place (inr b) = inr b.0
      by_place (inl u) = let f : IsRecordWord E size writer u.a u.i = u.word in let q = within lay laid u.a f.stands in
          inl (omega (arith, u.at, f.inside), omega (arith, q, u.at, f.inside, f.last, lay.apart))

  -- ---- words that stay

  pub head_same : (a : ℕ) → 0 < size a → put h x v a ≡ h a
  head_same a st = put_other h x v a (λ e. let q = word a 0 st (omega arith) in omega (arith, q.first))

  pub old_same : (y : ℕ) → E.old_start ≤ y → y < E.old_start + E.old_span → put h x v y ≡ h y
  old_same y l u = put_other h x v y (λ e. let s = side in omega (arith, s, e, l, u, lay.apart, lay.old_below))

  written_same : (b i : ℕ) → 0 < writer b → i < size b → put h x v (b + i) ≡ h (b + i)
  written_same b i w l = put_other h x v (b + i) (λ e. let q = word b i l e in omega (arith, q.written, w))

  pub free_same : (y : ℕ) → y < E.board → ((a : ℕ) → 0 < size a → (y < a) ⊎ (a + size a ≤ y)) → put h x v y ≡ h y
  free_same y l free = put_other h x v y (λ e. absurd (by_place place e))
    where
      by_place : InWord E size writer x ⊎ OnBoard E x → y ≡ x → ⊥
      by_place (inr b) e = omega (arith, b, e, l)
      by_place (inl u) e = let f : IsRecordWord E size writer u.a u.i = u.word in let q = free u.a f.stands in omega (arith, q, e, u.at, f.last)

  -- ---- parts

  pub headed_slot : {copy keeper : ℕ → ℕ} {identity : ℕ → Identity} → Headed size writer copy keeper kind identity h → Headed size writer copy keeper kind identity (put h x v)
  headed_slot p = headed_same head_same p

  pub raw_slot : RawWords size writer kind h → RawWords size writer kind (put h x v)
  raw_slot p = record { raw = λ a i st w f l n. each_put (λ y u. y ≡ a + i → u < 2 ^ 62) h x v (a + i) (λ _ _. p.raw a i st w f l n) (λ e _. number a i l e n) refl }

  pub counts_slot : Counts size writer kind h → Counts size writer kind (put h x v)
  counts_slot p = record { counts = λ a count st w e. let n = p.counts a count st w e in (put_other h x v (a + 1) (value a count (omega (arith, n.1)) e) ∙ n.0, n.1) }

  pub opened_slot : {page : ℕ → PageWord} → Opened E size writer kind h page → Opened E size writer kind (put h x v) page
  opened_slot p = record { opened = λ y u o. each_put (λ z w. z ≡ y → ¬ (Leads E w)) h x v y (λ _ _. p.opened y u o) (λ e _. (held (rw e at u)).clean) refl }

  pub landing_slot : Landing E size writer kind h → Landing E size writer kind (put h x v)
  landing_slot p = record { lands = λ y u. each_put (λ z w. z ≡ y → Lands size writer w) h x v y (λ _ _. p.lands y u) (λ e _. (held (rw e at u)).lands) refl }

  pub older_slot : Older E size writer kind h → Older E size writer kind (put h x v)
  older_slot p = record {
    older = λ a i b f l u d. let q = within lay laid a f.stands in p.older a i b f l u (rw (old_same (a + i) (omega (arith, l)) (omega (arith, q, l, u, f.last, lay.apart))) at d);
    written = p.written;
  }

  pub new_slot : {page : ℕ → PageWord} {start end epoch : ℕ} → end ≤ E.board → NewArea start end epoch size h page → NewArea start end epoch size (put h x v) page
  new_slot below p = area_same (λ y l u free. free_same y (omega (arith, u, below)) free) p

  pub old_space_slot : {page : ℕ → PageWord} {traced old_front old_low : ℕ} → OldSpace E traced old_front old_low size h page → OldSpace E traced old_front old_low size (put h x v) page
  old_space_slot p = old_space_same (λ y l u free. old_same y l u) p

  pub stocks_slot : {page : ℕ → PageWord} {count : ℕ} {worker : ℕ → Known} → Stocks E low count size h page worker → Stocks E low count size (put h x v) page worker
  stocks_slot {page} p = record { apart = p.apart; stocked = λ k l q e n. stock q (p.stocked k l q e n) }
    where
      stock : (q : Stock) → Stocked E low size h page q → Stocked E low size (put h x v) page q
      stock q s = stocked_same q (λ y l u. free_same y (omega (arith, u, s.so_far, s.lies, lay.below)) (λ a st. let q = s.empty a st in ⊎_elim (λ z. inr (omega (arith, z, l))) (λ z. inl (omega (arith, z, u, s.so_far))) q)) s

  -- ---- what a worker knows

  pub scans_slot : {page : ℕ → PageWord} (j : ℕ) (r : Scan) → Scans E front size writer kind h page j r → Scans E front size writer kind (put h x v) page j r
  scans_slot j r p = record {
    claimed = p.claimed;
    place = p.place;
    cursor = p.cursor;
    above = p.above;
    passed = λ y u e l. each_put (λ z w. z ≡ y → ¬ (Leads E w)) h x v y (λ _ _. p.passed y u e l) (λ q _. (held (rw q at u)).clean) refl;
  }

  pub copies_slot : {copy keeper kept announced cross : ℕ → ℕ} (j : ℕ) (c : Copy) → Copies E front size writer copy keeper kept announced cross h j c → Copies E front size writer copy keeper kept announced cross (put h x v) j c
  copies_slot j c p = copies_same j c
      (λ i f l. old_same (c.from + i) (omega (arith, p.old)) (omega (arith, p.old, l)))
      (λ r i f l. let t = p.place r in written_same c.to i (omega (arith, t.2)) (omega (arith, t.3, l))) p

  pub keeps_slot : {copy keeper kept announced cross : ℕ → ℕ} {identity : ℕ → Identity} (j : ℕ) (c : Copy) → Copies E front size writer copy keeper kept announced cross h j c → Keeps kind identity h c → Keeps kind identity (put h x v) c
  keeps_slot j c q p = record {
    keeps = p.keeps;
    head = λ l. let r = q.place (has_place j c q l) in rw (head_same c.to (omega (arith, r, q.old))) (p.head l);
  }

  -- no scan's cursor is x, at a word that mutators read
  pub origin_slot : (late : Bool) (done : ℕ) (registers : ℕ → ℕ) (scan : Option Scan) → ((s : Scan) → scan ≡ Some s → s.cursor / 64 ≡ s.page → Here E size writer kind s.cursor → s.cursor ≢ x) → (old : ℕ) (o : Origin)
      → IsOrigin E size writer kind h late done registers scan old o → IsOrigin E size writer kind (put h x v) late done registers scan old o
  origin_slot late done registers scan apart old (Register r) y = y
  origin_slot late done registers scan apart old (Scanned z) y = let c : y.0.0.cursor / 64 ≡ y.0.0.page = rw y.0.2 y.0.3 in let n : z ≢ x = (λ e. apart y.0.0 y.0.1 c (rw (sym y.0.2) at y.1) (y.0.2 ∙ e)) in (y.0, y.1, rw (put_other h x v z n) y.2)

  -- ---- what is shown by a word that denotes what the word before it denoted

  pub objects_slot : {copy keeper : ℕ → ℕ} (identity : ℕ → Identity) {records : plain.Heap} → Here E size writer kind x → value_of identity v ≡ value_of identity (h x) → ShowsAll size writer copy keeper kind identity h records
      → ShowsAll size writer copy keeper kind identity (put h x v) records
  objects_slot identity here d p = record { shows = λ a st w y. let o = p.shows a st w y in (o.0, o.1, shown a o.0 o.2) }
    where
      raw_same : (a i : ℕ) → i < size a → is_field (kind a) i ≡ false → put h x v (a + i) ≡ h (a + i)
      raw_same a i l n = put_other h x v (a + i) (λ e. let t = sym (here_field lay laid writer kind x here a i l e).1 ∙ n in absurd (cc))

      shown : (a : ℕ) (r : plain.Record) → Shows (value_of identity) h a (kind a) (size a) r → Shows (value_of identity) (put h x v) a (kind a) (size a) r
      shown a r s = record {
        kind = s.kind;
        size = s.size;
        fields = λ y l f. let i = word_of_value (kind a) y in each_put (λ z w. z ≡ a + i → value_of identity w ≡ value_of identity (h (a + i))) h x v (a + i) (λ _ _. refl) (λ e _. rw e d) refl ∙ s.fields y l f;
        numbers = λ y l f. let i = word_of_value (kind a) y in rw (raw_same a i (value_within r s y l).1 (raw_is_no_field (kind a) i f)) (s.numbers y l f);
        count = count_stays r s (put h x v) a (λ _. raw_same a 1);
      }

  pub board_slot : (identity : ℕ → Identity) {records : plain.Heap} → value_of identity v ≡ value_of identity (h x) → BoardShows E (value_of identity) h records → BoardShows E (value_of identity) (put h x v) records
  board_slot identity d p = record {
    sixteen = p.sixteen;
    board = λ i l. each_put (λ y w. y ≡ E.board + i → value_of identity w ≡ value_of identity (h (E.board + i))) h x v (E.board + i) (λ _ _. refl) (λ e _. rw e d) refl ∙ p.board i l;
  }
