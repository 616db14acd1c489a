-- What a record shows by its first word and by the others, by what the code tests.
use Rattle.std.proofs.Common.{◌≡◌, ℕ, zero, suc, ◌+◌, ◌-◌, ◌<◌, ◌≤◌, true, List, [], ◌∷◌, Option, Some, None, length, refl, sym, ap, ◌∙◌, subst, arith, ⊎_elim, ◌⊎◌, ◌≢◌, inl, inr}
use Rattle.std.specs.Prelude.{nat_eq, option_map, slice_get}
use Rattle.std.specs.HashMap.{get}
use Rattle.std.proofs.lemmas.Bool.{cases_lt}
use Rattle.heap_words.specs.Decoded.{Decoded, NumberWord, HeaderWord, decode}
use Rattle.heap_words.specs.declared.kind.Kind.{Kind as HeaderKind}
use Rattle.heap_words.specs.declared.kind.Kind.TheVariants as header
use Rattle.heap_words.proofs.Decoding.{decode-number_word}
use Rattle.plain_state.specs.declared.kind.Kind.{Kind}
use Rattle.plain_state.specs.declared.kind.Kind.TheVariants.{Fields, Raw, Mixed, Weak}
use Rattle.plain_state.specs.declared.value.Identity.{Identity}
use Rattle.plain_state.specs.declared.value.Value.{Value}
use Rattle.plain_state.specs.Cells.{value_of_cell}
use Rattle.plain_state.specs.Layout.{is_field, is_raw, size_of, values_at, words_behind, word_of_value}
use Rattle.plain_state.specs.State as plain
use Rattle.record_layout.specs.declared.header.Header.{Header}
use Rattle.record_layout.specs.Layout.{header_in}
use Rattle.heap_state.specs.Invariant.Ghost.{header_kind, said_kind, count_said}
use Rattle.heap_state.specs.Meaning.Denotes.{named_by}
use Rattle.heap_state.specs.Meaning.Dump.{Dump}
use Rattle.heap_state.specs.Meaning.Represents.{HeadShows, IsEmptied, IsInHeap, IsOwn, IsTarget, LeadsToRecord, MustOwn, Names, WordShows, denoted_in_dump, own_header}
use Rattle.heap_state.specs.Meaning.Values.{CountShows}
use Rattle.heap_state.specs.Memory.Walk.{Walked}
use Rattle.heap_state.proofs.Puts.{some_same}
use Rattle.heap_state.proofs.Records.Layouts.{field_is_value, values_behind_header}
use Rattle.heap_audit.specs.Firsts.{TellsFirst}
use Rattle.heap_audit.specs.Records.{IsCount, OwnersOfHeap, TargetShows, ValueShows, WordOfRecordShows, key_of}
use Rattle.heap_audit.specs.declared.records.owners.Owners.{Owners}
use Rattle.heap_audit.proofs.ShownRecords.OwnHeaders.{identity_by, named_own}

-- ---- headers

absurd_none : {i : Identity} → None ≡ Some i → ⊥
absurd_none e = cc

-- a word that reads as none has no own header
pub none_is : (d : Dump) (a : ℕ) → None ≡ header_in (own_header d a) → (k : HeaderKind) (l s m : ℕ) → own_header d a ≡ HeaderWord k l s m → ⊥
none_is d a none k l s m e =
    let z : named_by (own_header d a) ≡ None = named_own d.kept (d.table.heap a) ∙ ap (option_map identity_by) (sym none) in
    let y : named_by (own_header d a) ≡ Some (record { mutator = m; serial = s }) = ap named_by e in
    let x : None ≡ Some (record { mutator = m; serial = s }) = sym z ∙ y in
    absurd_none x

-- what names an identity is a header with it
pub named_is : (e : Decoded) (i : Identity) → named_by e ≡ Some i → (k : HeaderKind) × (l : ℕ) × (e ≡ HeaderWord k l i.serial i.mutator)
named_is (HeaderWord k l s m) i e = let q : record { mutator = m; serial = s } ≡ i = some_same e in (k, l, ap (λ (j : Identity). HeaderWord k l j.serial j.mutator) q)
named_is _ i e = absurd (cc)

-- a kind that a header says has that header
pub header_kind-said : (k : HeaderKind) (next : ℕ) → header_kind (said_kind k next) ≡ k
header_kind-said header.Fields next = refl
header_kind-said _ next = refl

-- ---- a record without a header of its own

module _ (d : Dump) (p : plain.Plain) (w : Walked) (none : None ≡ header_in (own_header d w.at)) where
  not_own : {k : Kind} {l s m : ℕ} → IsOwn d w k l s m → ⊥
  not_own {l = l} {s = s} {m = m} o = none_is d w.at none o.head l s m o.header

  pub headless_shows : (MustOwn d w → ⊥) → (i : ℕ) → WordOfRecordShows d p w i
  headless_shows free i = record {
    head = λ e. record { owns = λ must. absurd (free must); shows = λ k l s m o. absurd (not_own o); once = λ v k other l longer s m o. absurd (not_own o) };
    word = λ first last. record {
      count = λ k r names. absurd (not_own names.own);
      field = λ k r x names. absurd (not_own names.own);
      number = λ k r x names. absurd (not_own names.own);
      leads = λ k l s m o. absurd (not_own o);
      target = λ k r v names. absurd (not_own names.own);
      target_leads = λ k l s m o. absurd (not_own o);
    };
  }

  pub headless_wrong : MustOwn d w → HeadShows d p w → ⊥
  headless_wrong must h = let o = h.owns must in not_own o.own

-- ---- the first word of one that has a header

module _ (d : Dump) (p : plain.Plain) (w : Walked) (h : Header) (there : IsInHeap d w) (owned : own_header d w.at ≡ HeaderWord h.kind h.len h.serial h.mutator) where
  abbrev identity : Identity
  identity = record { mutator = h.mutator; serial = h.serial }

  -- it is its own, with the kind that it says
  abbrev pub kind : Kind
  kind = said_kind h.kind (d.table.heap (w.at + 1))

  pub is_own : IsOwn d w kind h.len h.serial h.mutator
  is_own = record { walked = there; head = h.kind; header = owned; said = refl }

  same_header : {k : Kind} {l s m : ℕ} → (o : IsOwn d w k l s m) → HeaderWord h.kind h.len h.serial h.mutator ≡ HeaderWord o.head l s m
  same_header o = sym owned ∙ o.header

  pub same_kind : {k : Kind} {l s m : ℕ} → IsOwn d w k l s m → k ≡ kind
  same_kind o = let e = same_header o in let q : o.head ≡ h.kind = cc in o.said ∙ ap (λ z. said_kind z (d.table.heap (w.at + 1))) q

  same_len : {k : Kind} {l s m : ℕ} → IsOwn d w k l s m → h.len ≡ l
  same_len o = let e = same_header o in cc

  same_serial : {k : Kind} {l s m : ℕ} → IsOwn d w k l s m → h.serial ≡ s
  same_serial o = let e = same_header o in cc

  same_mutator : {k : Kind} {l s m : ℕ} → IsOwn d w k l s m → h.mutator ≡ m
  same_mutator o = let e = same_header o in cc

  pub same_identity : {k : Kind} {l s m : ℕ} → IsOwn d w k l s m → identity ≡ record { mutator = m; serial = s }
  same_identity o = λ i. record { mutator = same_mutator o i; serial = same_serial o i }

  -- the plain record that is named is one
  pub same_record : {k : Kind} (r q : plain.Record) → plain.record_of p.heap identity ≡ Some r → Names d p w k q → q ≡ r
  same_record r q is names = some_same (sym names.names ∙ (sym (ap (plain.record_of p.heap) (same_identity names.own)) ∙ is))

  module _ (owners : Owners) (least : OwnersOfHeap d owners) where
    abbrev found : Option ℕ
    found = get nat_eq owners.first (key_of identity)

    abbrev NoneAt : ℕ → Type 0
    NoneAt a = (v : Walked) → IsInHeap d v → v.at ≡ a → named_by (own_header d v.at) ≡ Some identity → ⊥

    before_all : (o : Option ℕ) → TellsFirst NoneAt o → ((f : ℕ) → o ≡ Some f → w.at ≤ f) → (v : Walked) → IsInHeap d v → named_by (own_header d v.at) ≡ Some identity → w.at ≤ v.at
    before_all None none first v walked named = absurd (none v.at v walked refl named)
    before_all (Some f) tells first v walked named = ⊎_elim
        (λ (l : v.at < f). absurd (tells.1 v.at l v walked refl named))
        (λ (l : f ≤ v.at). let b = first f refl in omega arith)
        (cases_lt v.at f)

    -- the record is alike, and none with its header is before it
    pub head_shows : (r : plain.Record) → plain.record_of p.heap identity ≡ Some r → header_kind r.kind ≡ h.kind → size_of r ≡ w.size → w.size ≡ h.len + 1
        → ((f : ℕ) → found ≡ Some f → w.at ≤ f) → HeadShows d p w
    head_shows r is alike size long first = record {
      owns = λ must. record { kind = kind; len = h.len; serial = h.serial; mutator = h.mutator; own = is_own };
      shows = λ k l s m o. (
        long ∙ ap (λ z. z + 1) (same_len o),
        (
          r,
          sym (ap (plain.record_of p.heap) (same_identity o)) ∙ is,
          alike ∙ (sym (header_kind-said h.kind (d.table.heap (w.at + 1))) ∙ sym (ap header_kind (same_kind o))),
          size,
        ),
      );
      once = λ v k other l longer s m o vo.
          before_all found (least identity h.counted) first v vo.walked (ap named_by vo.header ∙ sym (ap (λ (j : Identity). Some j) (same_identity o)));
    }

    -- else it doesn't show
    pub no_record : None ≡ plain.record_of p.heap identity → HeadShows d p w → ⊥
    no_record none shows = let s = (shows.shows kind h.len h.serial h.mutator is_own).1 in let z : None ≡ Some s.0 = none ∙ s.1 in cc

    -- what it shows of the plain record that is there
    pub head_is : (r : plain.Record) → plain.record_of p.heap identity ≡ Some r → HeadShows d p w → (header_kind r.kind ≡ h.kind) × (size_of r ≡ w.size) × (w.size ≡ h.len + 1)
    head_is r is shows =
        let s = shows.shows kind h.len h.serial h.mutator is_own in
        let same : s.1.0 ≡ r = some_same (sym s.1.1 ∙ is) in (
          ap (λ (q : plain.Record). header_kind q.kind) (sym same) ∙ (s.1.2 ∙ header_kind-said h.kind (d.table.heap (w.at + 1))),
          ap (λ (q : plain.Record). size_of q) (sym same) ∙ s.1.3,
          s.0,
        )

    pub first_is : (f : ℕ) → found ≡ Some f → HeadShows d p w → w.at ≤ f
    first_is f e shows = ⊎_elim
        (λ (l : f < w.at). absurd ((subst (TellsFirst NoneAt) e (least identity h.counted)).0
        (λ v walked at named.
        let n = named_is (own_header d v.at) identity named in
        let vo : IsOwn d v (said_kind n.0 (d.table.heap (v.at + 1))) n.1 h.serial h.mutator = record { walked = walked; head = n.0; header = n.2; said = refl } in
        let b = shows.once v kind (said_kind n.0 (d.table.heap (v.at + 1))) h.len n.1 h.serial h.mutator is_own vo in
        omega (arith, b, at, l))))
        (λ (l : w.at ≤ f). l)
        (cases_lt f w.at)

-- ---- cells

absurd_value : {v : Value} → None ≡ Some v → ⊥
absurd_value e = cc

-- a record is a cell, or it has no cell's value
cell_or_not : (r : plain.Record) → (r.kind ≡ Weak) ⊎ ((value_of_cell r ≡ None) × (r.kind ≢ Weak))
cell_or_not r = by_kind r.kind refl
  where
    by_kind : (k : Kind) → r.kind ≡ k → (r.kind ≡ Weak) ⊎ ((value_of_cell r ≡ None) × (r.kind ≢ Weak))
    by_kind Fields e = inr (rw e refl, λ weak. let z : Fields ≡ Weak = sym e ∙ weak in cc)
    by_kind Raw e = inr (rw e refl, λ weak. let z : Raw ≡ Weak = sym e ∙ weak in cc)
    by_kind (Mixed c) e = inr (rw e refl, λ weak. let z : Mixed c ≡ Weak = sym e ∙ weak in cc)
    by_kind Weak e = inl e

-- ---- the words behind it

-- behind the values of a record that has a field there is no word
none_behind : (k : Kind) (i : ℕ) → is_field k i ≡ true → words_behind k ≡ 0
none_behind Weak i e = absurd (cc)
none_behind _ i e = refl

-- the plain record of that many words has value x exactly where it has a field at its word
value_at_field : (r : plain.Record) (i : ℕ) → 0 < i → i < size_of r → is_field r.kind i ≡ true → (i ≡ word_of_value r.kind (i - values_at r.kind)) × (i - values_at r.kind < length r.values)
value_at_field r i first last f =
    let at = field_is_value r.kind i first f in
    let none = none_behind r.kind i f in
    (omega arith, omega (arith, at, none, last))

-- a value that is there
there_is : (values : List Value) (x : ℕ) → x < length values → (v : Value) × (slice_get values x ≡ Some v)
there_is [] x l = absurd (omega arith)
there_is (v ∷ values) zero l = (v, refl)
there_is (v ∷ values) (suc x) l = there_is values x (omega arith)

-- a mixed kind is what is said where its count stands behind the header
counted_kind : (k : Kind) (word : ℕ) → CountShows k (λ x. word) 0 → IsCount k → k ≡ said_kind (header_kind k) word
counted_kind (Mixed c) word shows fits = let e : decode word ≡ NumberWord c = ap decode shows ∙ decode-number_word c (omega arith) in ap (λ z. Mixed (count_said z)) (sym e)
counted_kind _ word shows fits = refl

-- the count at a place
count_there : (k : Kind) (heap : ℕ → ℕ) (a : ℕ) → CountShows k (λ x. heap (a + 1)) 0 → CountShows k heap a
count_there (Mixed c) heap a shows = shows
count_there _ heap a shows = tt

count_here : (k : Kind) (heap : ℕ → ℕ) (a : ℕ) → CountShows k heap a → CountShows k (λ x. heap (a + 1)) 0
count_here (Mixed c) heap a shows = shows
count_here _ heap a shows = tt

-- a kind that has no count shows it
needs_count : (k : Kind) (word : ℕ) → (CountShows k (λ x. word) 0 → ⊥) → values_at k ≡ 2
needs_count (Mixed c) word none = refl
needs_count _ word none = absurd (none tt)

module _ (d : Dump) (p : plain.Plain) (w : Walked) (h : Header) (there : IsInHeap d w) (owned : own_header d w.at ≡ HeaderWord h.kind h.len h.serial h.mutator)
    (r : plain.Record) (is : plain.record_of p.heap (record { mutator = h.mutator; serial = h.serial }) ≡ Some r) (alike : header_kind r.kind ≡ h.kind) (size : size_of r ≡ w.size)
    (head : HeadShows d p w) where
  abbrev heap : ℕ → ℕ
  heap = d.table.heap

  abbrev next : ℕ
  next = heap (w.at + 1)

  names : Names d p w (kind d p w h there owned) r
  names = record { len = h.len; serial = h.serial; mutator = h.mutator; own = is_own d p w h there owned; names = is }

  -- the first word shows what it should
  first_shows : WordOfRecordShows d p w 0
  first_shows = record { head = λ e. head; word = λ first last. absurd (omega arith) }

  -- ---- the count

  pub count_wrong : (CountShows r.kind (λ x. next) 0 → ⊥) → TellsFirst (WordOfRecordShows d p w) (Some 1)
  count_wrong none = (wrong, λ a l. let z : a ≡ 0 = omega arith in subst (WordOfRecordShows d p w) (sym z) first_shows)
    where
      wrong : WordOfRecordShows d p w 1 → ⊥
      wrong shows =
          let two = needs_count r.kind next none in
          let c = (shows.word (omega arith) (omega (arith, size, two))).count (kind d p w h there owned) r names refl in
          none (count_here r.kind heap w.at (subst (λ (k : Kind). CountShows k heap w.at) (sym c.0) c.1))

  -- ---- the values

  module _ (counted : CountShows r.kind (λ x. next) 0) (fits : IsCount r.kind) where
    said : r.kind ≡ kind d p w h there owned
    said = counted_kind r.kind next counted fits ∙ ap (λ z. said_kind z next) alike

    said_here : {k : Kind} {l s m : ℕ} → IsOwn d w k l s m → k ≡ r.kind
    said_here o = same_kind d p w h there owned o ∙ sym said

    abbrev Shown : ℕ → Type 0
    Shown x = ValueShows d r x (heap (w.at + word_of_value r.kind x))

    -- ---- the target

    -- it is a cell, and its word 1 is the target
    cell_here : r.kind ≡ Weak → IsTarget (kind d p w h there owned) 1
    cell_here weak = (sym said ∙ weak, refl)

    pub target_wrong : (TargetShows d r w → ⊥) → TellsFirst (WordOfRecordShows d p w) (Some 1)
    target_wrong none = (λ shows. by_kind shows (cell_or_not r), λ a l. let z : a ≡ 0 = omega arith in subst (WordOfRecordShows d p w) (sym z) first_shows)
      where
        by_kind : WordOfRecordShows d p w 1 → (r.kind ≡ Weak) ⊎ ((value_of_cell r ≡ None) × (r.kind ≢ Weak)) → ⊥
        by_kind shows (inl weak) =
            let at = ap values_at weak in
            let behind = ap words_behind weak in
            let s = shows.word (omega arith) (omega (arith, size, at, behind)) in
            none (record {
              leads = λ e. s.target_leads (kind d p w h there owned) h.len h.serial h.mutator (is_own d p w h there owned) (cell_here weak);
              shows = λ v e. s.target (kind d p w h there owned) r v names (cell_here weak) e;
            })
        by_kind shows (inr other) = none (record { leads = λ e. absurd (other.1 e); shows = λ v e. absurd (absurd_value (sym other.0 ∙ e)) })

    -- ---- all words

    module _ (target : TargetShows d r w) where
      -- the words up to a value show what they should where the values do
      words_show : (limit : ℕ) → ((x : ℕ) → x < limit → Shown x) → (i : ℕ) → i < limit + values_at r.kind → WordOfRecordShows d p w i
      words_show limit shown zero below = first_shows
      words_show limit shown (suc j) below = record { head = λ e. head; word = λ first last. word first last }
        where
          value : (x : ℕ) → suc j ≡ word_of_value r.kind x → ValueShows d r x (heap (w.at + suc j))
          value x e = subst (λ (z : ℕ). ValueShows d r x (heap (w.at + z))) (sym e) (shown x (omega arith))

          word : 0 < suc j → suc j < w.size → WordShows d p w (suc j)
          word first last = record {
            count = λ k q n e.
                let same : k ≡ r.kind = said_here n.own in
                (ap (λ (z : plain.Record). z.kind) (same_record d p w h there owned r q is n) ∙ sym same, subst (λ (z : Kind). CountShows z heap w.at) (sym same) (count_there r.kind heap w.at counted));
            field = λ k q x n e within f.
                let same : k ≡ r.kind = said_here n.own in
                let one : q ≡ r = same_record d p w h there owned r q is n in
                let at : suc j ≡ word_of_value r.kind x = e ∙ ap (λ (z : Kind). word_of_value z x) same in
                let v = there_is r.values x (subst (λ (z : plain.Record). x < length z.values) one within) in
                let s = (value x at).field v.0 v.1 (sym (ap (is_field r.kind) at) ∙ (ap (λ (z : Kind). is_field z (suc j)) (sym same) ∙ f)) in
                s.0 ∙ (sym v.1 ∙ ap (λ (z : plain.Record). slice_get z.values x) (sym one));
            number = λ k q x n e within f.
                let same : k ≡ r.kind = said_here n.own in
                let one : q ≡ r = same_record d p w h there owned r q is n in
                let at : suc j ≡ word_of_value r.kind x = e ∙ ap (λ (z : Kind). word_of_value z x) same in
                let v = there_is r.values x (subst (λ (z : plain.Record). x < length z.values) one within) in
                let s = (value x at).number v.0 v.1 (sym (ap (is_raw r.kind) at) ∙ (ap (λ (z : Kind). is_raw z (suc j)) (sym same) ∙ f)) in
                ap (λ (z : Value). Some z) s ∙ (sym v.1 ∙ ap (λ (z : plain.Record). slice_get z.values x) (sym one));
            leads = λ k l s m o f.
                let same : k ≡ r.kind = said_here o in
                let field : is_field r.kind (suc j) ≡ true = ap (λ (z : Kind). is_field z (suc j)) (sym same) ∙ f.field in
                let at = value_at_field r (suc j) first (omega (arith, size)) field in
                let v = there_is r.values (suc j - values_at r.kind) at.1 in
                ((value (suc j - values_at r.kind) at.0).field v.0 v.1 (sym (ap (is_field r.kind) at.0) ∙ field)).1;
            target = λ k q v n cell e.
                let one : q ≡ r = same_record d p w h there owned r q is n in
                subst (λ (z : ℕ). (denoted_in_dump d (heap (w.at + z)) ≡ Some v) ⊎ IsEmptied d w v) (sym cell.1) (target.shows v (sym (ap value_of_cell one) ∙ e));
            target_leads = λ k l s m o cell. subst (λ (z : ℕ). LeadsToRecord d (heap (w.at + z))) (sym cell.1) (target.leads (sym (said_here o) ∙ cell.0));
          }

      pub all_show : ((x : ℕ) → Shown x) → TellsFirst (WordOfRecordShows d p w) None
      all_show shown = λ i. words_show (i + 1) (λ x l. shown x) i (let first = values_behind_header r.kind in omega (arith, first))

      pub value_wrong : (x : ℕ) → x < length r.values → (Shown x → ⊥) → ((y : ℕ) → y < x → Shown y) → TellsFirst (WordOfRecordShows d p w) (Some (x + values_at r.kind))
      value_wrong x within none before = (wrong, λ i l. words_show x before i l)
        where
          wrong : WordOfRecordShows d p w (word_of_value r.kind x) → ⊥
          wrong shows =
              let first = values_behind_header r.kind in
              let s = shows.word (omega (arith, first)) (omega (arith, size, within)) in
              let same = ap (λ (k : Kind). word_of_value k x) said in
              none (record {
                field = λ v e f. (
                  s.field (kind d p w h there owned) r x names same within (ap (λ (k : Kind). is_field k (word_of_value r.kind x)) (sym said) ∙ f) ∙ e,
                  s.leads (kind d p w h there owned) h.len h.serial h.mutator (is_own d p w h there owned)
                      (record { inside = (omega (arith, first), omega (arith, size, within)); field = ap (λ (k : Kind). is_field k (word_of_value r.kind x)) (sym said) ∙ f }),
                );
                number = λ v e f. some_same (s.number (kind d p w h there owned) r x names same within (ap (λ (k : Kind). is_raw k (word_of_value r.kind x)) (sym said) ∙ f) ∙ e);
              })
