-- The plain heap gains the record that begins to stand.
use Rattle.std.proofs.Common.{◌≡◌, ◌≢◌, ℕ, ◌+◌, ◌-◌, ◌<◌, true, inl, inr, length, get_or, slice_get, Some, None, refl, sym, ap, ◌∙◌, arith, lt-ltb, ⊎_elim, ◌⊎◌}
use Rattle.std.proofs.lemmas.Bool.{cases_eq}
use Rattle.std.proofs.lemmas.List.{length-replicate}
use Rattle.std.proofs.lemmas.Option.{slice_get-get_or, slice_get_within}
use Rattle.plain_state.specs.declared.kind.Kind.{Kind}
use Rattle.plain_state.specs.State as plain
use Rattle.plain_state.specs.declared.value.Identity.{Identity}
use Rattle.plain_state.specs.declared.value.Value.TheVariants.{Number}
use Rattle.plain_state.specs.Layout.{is_field, is_raw, values_at, words_behind, word_of_value}
use Rattle.plain_state.specs.Writing.{with_heap, gained, zeros as zeros_made}
use Rattle.heap_state.specs.Memory.Era.{Era, IsLaidOut, Memory}
use Rattle.heap_state.specs.Functions.{put}
use Rattle.heap_state.specs.Invariant.Ghost.{Ghost, Lands}
use Rattle.heap_state.specs.Invariant.Inductive.{Invariant}
use Rattle.heap_state.specs.Meaning.Values.{value_of, Shows, ShowsAll, Accounts, RegistersShow, BoardShows, Shown}
use Rattle.heap_state.specs.Known.{Known, Team, Stock}
use Rattle.heap_state.proofs.Puts.{put_at, put_other, put_same, proj_put}
use Rattle.heap_state.proofs.Records.Layouts.{count_stays, value_within, values_behind_header}
use Rattle.heap_laws.specs.Opening.{opening_mutator}
use Rattle.heap_laws.specs.Allocation.Records.{next_identity, allocated, ZerosShow}
use Rattle.heap_laws.proofs.Allocation.StockPages.Stocks.{Places, ahead_of_values, count_ahead, owns, zero_behind as zero_behind_ahead}
use Rattle.heap_laws.proofs.Allocation.PlacedTargets.{placing_shows_targets}
use Rattle.heap_laws.specs.Fields.Stores.{HoldsTarget}
use Rattle.heap_state.specs.Invariant.Parts.Stocks.{Stocked}
use Rattle.plain_state.specs.declared.kind.Kind.TheVariants.{Weak}
use Rattle.heap_laws.specs.Steps.{with_word, with_worker}
use Rattle.heap_laws.proofs.Allocation.FreeWords.{IsFree, word_same, board_same}
use Rattle.heap_laws.proofs.Allocation.Header.{placed, new_place, free, mutator, zeros}
use Rattle.heap_laws.proofs.Allocation.NewRecordParts.{NewPlace, unused as unused_place, was, same_size, same_writer}
use Rattle.heap_laws.proofs.Allocation.Values.{field_lands, value_allocated}
use Rattle.plain_state.proofs.Gained.{gained_there, gained_elsewhere, gained_serial, gained_serial_other, gained_makers}
use Rattle.plain_state.proofs.Elements.{slice_get-of_replicate}
use Rattle.heap_laws.proofs.Frames.Values.{board_here, zero_value}

module _ (E : Era) (m : Memory) (team : Team) (g : Ghost) (p : plain.Plain) (k : ℕ) (q : Stock) (c : Kind) (z v : ℕ) {target : ℕ} (new : plain.Record) (lay : IsLaidOut E) (inv : Invariant E m team g) (places : Places E team k q c z v target) (behind : Shows (value_of g.identity) m.heap q.at c z new)
    (holds : c ≡ Weak → HoldsTarget E g target new) (s : Shown E m team g p) where
  abbrev i : Identity
  i = next_identity team k

  abbrev heap : ℕ → ℕ
  heap = put m.heap q.at v

  abbrev g' : Ghost
  g' = allocated g q.at z c i

  abbrev w : Known
  w = placed team k q z

  abbrev after : plain.Heap
  after = gained p.heap k new

  is_free : IsFree E g.size q.at
  is_free = free E m team g k q c z v lay inv places

  is_new_place : NewPlace E m.front m.low g.size g.copy g.keeper q.at z
  is_new_place = new_place E m team g k q c z v lay inv places

  pub within : k < length p.heap.records
  within = let u = mutator E m team g k q c z v lay inv places in let n = s.makers in omega arith

  -- its serial is the next one
  serial : (team.worker k).account.serial ≡ plain.serial_of p.heap k
  serial =
      let u = mutator E m team g k q c z v lay inv places in
      let n = s.as_many in
      (s.accounts k (get_or p.mutators k opening_mutator) (slice_get-get_or p.mutators k opening_mutator (omega arith))).serial

  -- what leads to a record before denotes what it denoted
  value_on : (x : ℕ) → Lands g.size g.writer x → value_of g'.identity x ≡ value_of g.identity x
  value_on x lands = value_allocated g.size g.writer g.identity q.at i x (unused_place is_new_place) lands

  -- ---- values

  -- the fields behind the header are 0, and denote the same as before
  zero_behind : (x : ℕ) → x < length new.values → is_field c (word_of_value c x) ≡ true → heap (q.at + word_of_value c x) ≡ 0
  zero_behind x l t = let n = value_within new behind x l in zeros E m team g k q c z v lay inv places (word_of_value c x) n.0 t n.1

  same_behind : (x : ℕ) → heap (q.at + word_of_value c x) ≡ m.heap (q.at + word_of_value c x)
  same_behind x = put_other m.heap q.at v (q.at + word_of_value c x) (λ e. omega (arith, e, values_behind_header c))

  shows_new : Shows (value_of g'.identity) heap q.at c z new
  shows_new = record {
    kind = behind.kind;
    size = behind.size;
    fields = λ x l t.
        let zero : m.heap (q.at + word_of_value c x) ≡ 0 = sym (same_behind x) ∙ zero_behind x l t in
        zero_value g'.identity (heap (q.at + word_of_value c x)) (zero_behind x l t) ∙ (sym (zero_value g.identity (m.heap (q.at + word_of_value c x)) zero) ∙ behind.fields x l t);
    numbers = λ x l t. ap (λ y. Some (Number y)) (same_behind x) ∙ behind.numbers x l t;
    count = count_stays new behind heap q.at (λ _ _ _. put_other m.heap q.at v (q.at + 1) (omega arith));
  }

  shows_old : (b : ℕ) → 0 < g.size b → g.writer b ≡ 0 → (g.copy b ≡ 0) ⊎ (0 < g.keeper b)
      → (r : plain.Record) × (plain.record_of after (g.identity b) ≡ Some r) × Shows (value_of g'.identity) heap b (g.kind b) (g.size b) r
  shows_old b st w o =
      let a = s.objects.shows b st w o in
      let t : Shows (value_of g.identity) m.heap b (g.kind b) (g.size b) a.0 = a.2 in (
        a.0,
        gained_elsewhere p.heap k new within (g.identity b) a.0 a.1,
        record {
          kind = t.kind;
          size = t.size;
          fields = λ x l f.
              let u = value_within a.0 t x l in
              let n = word_of_value (g.kind b) x in
              rw (word_same is_free g.writer g.kind m.heap v b n u.1) (value_on (m.heap (b + n)) (field_lands E m team g b n inv st w f u.0 u.1) ∙ t.fields x l f);
          numbers = λ x l f. rw (word_same is_free g.writer g.kind m.heap v b (word_of_value (g.kind b) x) (value_within a.0 t x l).1) (t.numbers x l f);
          count = count_stays a.0 t heap b (λ _ l _. word_same is_free g.writer g.kind m.heap v b 1 l);
        },
      )

  objects : ShowsAll g'.size g'.writer g'.copy g'.keeper g'.kind g'.identity heap after
  objects = record {
    shows = λ b st w o. ⊎_elim
        (λ (e : b ≡ q.at). rw (put_at g.size q.at z b e, put_at g.kind q.at c b e, put_at g.identity q.at i b e, e)
        (new, gained_there p.heap k new within i refl (let n = serial in omega arith), shows_new))
        (λ (d : b ≢ q.at). rw (same_size is_new_place b d, put_other g.kind q.at c b d, put_other g.identity q.at i b d)
        (shows_old b (was is_new_place b d st) (rw (same_writer is_new_place g.writer b d) at w) o))
        (cases_eq b q.at);
  }

  board : BoardShows E (value_of g'.identity) heap after
  board = record {
    sixteen = s.board.sixteen;
    board = λ x l. rw (board_same is_free g.writer g.kind m.heap v (E.board + x) (omega arith))
        (value_on (m.heap (E.board + x)) (inv.landing.lands (E.board + x) (board_here E g.size g.writer g.kind x l)) ∙ s.board.board x l);
  }

  accounts : (j : ℕ) (r : plain.Mutator) → slice_get p.mutators j ≡ Some r → Accounts after j (put team.worker k w j).account r
  accounts j r e = ⊎_elim
      (λ (d : j ≡ k). let a : Accounts p.heap k (team.worker k).account r = rw d at (s.accounts j r e) in rw (d, put_same team.worker k w) (record {
        counter = a.counter;
        printed = a.printed;
        executed = a.executed;
        end = a.end;
        serial = let n = a.serial in let t = gained_serial p.heap k new within in omega arith;
      }))
      (λ (d : j ≢ k). let a = s.accounts j r e in rw (put_other team.worker k w j d) (record {
        counter = a.counter;
        printed = a.printed;
        executed = a.executed;
        end = a.end;
        serial = a.serial ∙ sym (gained_serial_other p.heap k new within j d);
      }))
      (cases_eq j k)

  registers : (j : ℕ) (r : plain.Mutator) → slice_get p.mutators j ≡ Some r → RegistersShow (value_of g'.identity) (put team.worker k w j).registers r
  registers j r e = rw (proj_put (λ u. u.registers) team.worker k w j refl) (shown_on (s.registers j r e))
    where
      shown_on : RegistersShow (value_of g.identity) (team.worker j).registers r → RegistersShow (value_of g'.identity) (team.worker j).registers r
      shown_on t = record {
        eight = t.eight;
        registers_show = λ n x l. value_on ((team.worker j).registers x) (lands n x l) ∙ t.registers_show n x l;
      }
        where
          lands : r.end ≡ None → (x : ℕ) → x < 8 → Lands g.size g.writer ((team.worker j).registers x)
          lands n x l =
              let u = slice_get_within p.mutators j r e in
              let a = s.as_many in
              let f = inv.staffed.few in
              let b : j < team.mutators = omega arith in
              let d : j < team.count = omega arith in
              ((inv.workers j d).registers (inv.staffed.posts j d ∙ lt-ltb j team.mutators b) ((s.accounts j r e).end ∙ n)).lands x l

  pub placing_shows : Shown E (with_word m q.at v) (with_worker team k w) g' (with_heap p after)
  placing_shows = record {
    objects = objects;
    targets = placing_shows_targets E m team g p k q c z v new lay inv places holds s within serial;
    board = board;
    as_many = s.as_many;
    makers = gained_makers p.heap k new within ∙ s.makers;
    accounts = accounts;
    registers = registers;
  }

pub zeros_show : ZerosShow
zeros_show E m team g k q c z v target ready places = record {
  kind = refl;
  size = let n = length-replicate count (Number 0) in let l = places.some in omega arith;
  fields = λ x l t. zero_value g.identity (m.heap (q.at + word_of_value c x)) (zero x l (inl t)) ∙ sym (slice_get-of_replicate count x (Number 0) (within x l));
  numbers = λ x l t. ap (λ y. Some (Number y)) (zero x l (inr t)) ∙ sym (slice_get-of_replicate count x (Number 0) (within x l));
  count = count_ahead q ok c target places.ahead;
}
  where
    count : ℕ
    count = z - (values_at c + words_behind c)

    ok : Stocked E m.low g.size m.heap m.page q
    ok = let own = owns q ready places.own in ready.invariant.stocks.stocked k ready.member q own.has own.epoch

    within : (x : ℕ) → x < length (zeros_made c count).values → x < count
    within x l = rw (length-replicate count (Number 0)) at l

    zero : (x : ℕ) → x < length (zeros_made c count).values → (is_field c (word_of_value c x) ≡ true) ⊎ (is_raw c (word_of_value c x) ≡ true) → m.heap (q.at + word_of_value c x) ≡ 0
    zero x l value =
        let u = within x l in
        let f = places.fits in
        zero_behind_ahead q ok places.run.0 (word_of_value c x) (rw places.ahead (ahead_of_values c target (word_of_value c x) (omega arith) value)) (omega (arith, u, f))
