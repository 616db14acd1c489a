-- The header of a new record is stored at the run's place.
use Rattle.std.proofs.Common.{◌≡◌, ◌≢◌, ℕ, ◌+◌, ◌/◌, ◌<◌, ◌≤◌, true, length, refl, sym, ap, ◌∙◌, arith, ⊎_elim, ◌⊎◌, inl, inr, Some, [], ◌%◌, ◌-◌, subst}
use Rattle.std.proofs.lemmas.Bool.{cases_eq, cases_lt, ltb-true}
use Rattle.plain_state.specs.declared.kind.Kind.{Kind}
use Rattle.plain_state.specs.declared.sizes.TheConstants.{NUMBERS}
use Rattle.plain_state.specs.Layout.{is_field}
use Rattle.heap_words.proofs.Ranges.{header_bounds}
use Rattle.heap_words.specs.Decoded.{PointerWord, decode}
use Rattle.plain_state.specs.declared.value.Identity.{Identity}
use Rattle.space_map.specs.declared.page_word.PageWord.TheVariants.{Open}
use Rattle.heap_state.specs.Memory.Era.{Era, IsLaidOut, Memory}
use Rattle.heap_state.specs.Functions.{put}
use Rattle.heap_state.specs.Invariant.Parts.Cells.{Cells}
use Rattle.heap_state.specs.Invariant.Ghost.{Ghost, Leads, Lands, header_kind}
use Rattle.heap_state.specs.Invariant.Inductive.{Invariant, Knows}
use Rattle.heap_state.specs.Invariant.Parts.Stocks.{Stocks, Stocked, Numbered}
use Rattle.heap_state.specs.Meaning.Values.{CountShows, value_of}
use Rattle.heap_state.specs.Memory.FieldSpan.{fields_end}
use Rattle.heap_state.specs.Known.{Known, Team, Stock}
use Rattle.heap_state.proofs.Workers.Frames.{counted_put, staffed_put, scanned_put, stocks_anew}
use Rattle.heap_state.proofs.Records.Layouts.{field_is_value}
use Rattle.heap_state.proofs.Puts.{put_at, put_other, put_same, each_put, team_put, none≢some, some_same}
use Rattle.heap_laws.specs.Allocation.Records.{next_identity, allocated}
use Rattle.heap_laws.specs.Fields.Held.{HoldsValue}
use Rattle.heap_laws.proofs.Allocation.StockPages.Stocks.{Places, ahead_of_values, count_ahead, small_ahead, zero_behind}
use Rattle.plain_state.specs.declared.value.Value.TheVariants.{Reference}
use Rattle.heap_laws.specs.Steps.{with_word, with_worker}
use Rattle.heap_laws.proofs.Allocation.FreeWords.{IsFree, headed_free, raw_free, counts_free, opened_free, landing_free, older_free, old_space_free, worker_free}
use Rattle.heap_laws.proofs.Allocation.NewRecordParts.{NewPlace, was, is, same_size, laid_allocated, kept_allocated, room_allocated, area_allocated, old_space_allocated, new_written_allocated, shut_allocated, crossing_allocated, opened_allocated, landing_allocated, older_allocated, raw_allocated, counts_allocated, headed_allocated, copied_allocated, once_allocated}
use Rattle.heap_laws.proofs.Allocation.PlacingWorkers.{worker_allocated}
use Rattle.heap_laws.proofs.Fields.RunningMutators.{runs}
use Rattle.heap_laws.proofs.Frames.OtherWords.{ahead_zeroed}

-- worker k has one record more, and its run begins behind it
abbrev pub placed : Team → ℕ → Stock → ℕ → Known
placed team k q z = record (team.worker k) {
  stock = Some (record q { at = q.at + z; ahead = [] });
  account = record (team.worker k).account { serial = (team.worker k).account.serial + 1 };
}

module _ (E : Era) (m : Memory) (team : Team) (g : Ghost) (k : ℕ) (q : Stock) (c : Kind) (z v : ℕ) {target : ℕ} (lay : IsLaidOut E) (inv : Invariant E m team g) (places : Places E team k q c z v target) where
  abbrev i : Identity
  i = next_identity team k

  abbrev heap : ℕ → ℕ
  heap = put m.heap q.at v

  abbrev g' : Ghost
  g' = allocated g q.at z c i

  abbrev next : Stock
  next = record q { at = q.at + z; ahead = [] }

  abbrev w : Known
  w = placed team k q z

  ok : Stocked E m.low g.size m.heap m.page q
  ok = inv.stocks.stocked k places.own.worker q places.own.has places.own.epoch

  empty : (b : ℕ) → 0 < g.size b → (b + g.size b ≤ q.at) ⊎ (q.at + z ≤ b)
  empty b st = ⊎_elim (λ y. inl y) (λ y. inr (let f = places.fits in omega (arith, y, f))) (ok.empty b st)

  none : (b : ℕ) → 0 < g.size b → (q.at < b) ⊎ (b + g.size b ≤ q.at)
  none b st = ⊎_elim (λ y. inr y) (λ y. inl (let n = places.some in omega (arith, y, n))) (empty b st)

  unsized : g.size q.at ≡ 0
  unsized = by_size (cases_eq (g.size q.at) 0)
    where
      by_size : (g.size q.at ≡ 0) ⊎ (g.size q.at ≢ 0) → g.size q.at ≡ 0
      by_size (inl e) = e
      by_size (inr d) = absurd (let e = none q.at (omega arith) in omega (arith, e, d))

  pub new_place : NewPlace E m.front m.low g.size g.copy g.keeper q.at z
  new_place = record {
    lay = lay;
    laid = inv.laid;
    above = ok.lies.0;
    some = places.some;
    ends = omega (arith, ok.lies, places.fits);
    empty = empty;
    blank = inv.copied.blank q.at unsized;
  }

  inside : (E.start ≤ q.at) × (q.at < E.start + E.span)
  inside = (omega (arith, ok.lies, inv.laid.order), omega (arith, ok.lies, places.fits, places.some))

  pub free : IsFree E g.size q.at
  free = record { free = none; below = omega (arith, inside, lay.below) }

  -- what is known before of the worker and its numbers
  pub mutator : k < team.mutators
  mutator = ltb-true k team.mutators (sym (inv.staffed.posts k places.own.worker) ∙ (runs (team.worker k).post places.runs).mutator)

  pub unused : (b : ℕ) → 0 < g.size b → g.identity b ≢ i
  unused b st e =
      let l = inv.numbered.last b st in
      let d : (team.worker (g.identity b).mutator).account.serial ≡ (team.worker k).account.serial = ap (λ (x : Identity). (team.worker x.mutator).account.serial) e in
      let s : (g.identity b).serial ≡ i.serial = ap (λ (x : Identity). x.serial) e in
      omega arith

  -- its fields are 0, and its count is stored ahead
  behind_header : (j : ℕ) → 0 < j → heap (q.at + j) ≡ m.heap (q.at + j)
  behind_header j f = put_other m.heap q.at v (q.at + j) (λ e. omega (arith, f, e))

  blank : (j : ℕ) → length q.ahead < j → j < z → m.heap (q.at + j) ≡ 0
  blank j past l = zero_behind q ok places.run.0 j past (let f = places.fits in omega (arith, l, f))

  pub zeros : (j : ℕ) → 0 < j → is_field c j ≡ true → j < z → heap (q.at + j) ≡ 0
  zeros j f field l = rw (behind_header j f) (blank j (rw places.ahead (ahead_of_values c target j (field_is_value c j f field) (inl field))) l)

  pub counted : CountShows c m.heap q.at
  counted = count_ahead q ok c target places.ahead

  small : (j : ℕ) → 0 < j → j < z → heap (q.at + j) < NUMBERS
  small j f l = rw (behind_header j f) (⊎_elim
      (λ (past : length q.ahead < j). let e = blank j past l in omega (arith, e))
      (λ (last : j ≤ length q.ahead). small_ahead q ok c target z j places.ahead places.cell (header_bounds v (header_kind c) (z - 1) i.serial k places.header).0 places.fields f last)
      (cases_lt (length q.ahead) j))

  opens : (x : ℕ) → q.at ≤ x → x < q.at + z → m.page (x / 64) ≡ Open E.epoch
  opens x l u = ok.opens x l (let r = places.run.1 in let f = places.fits in omega arith)

  -- the word behind the record is 0, or the first of a page
  behind : ((q.at + z) % 64 ≡ 0) ⊎ (heap (q.at + z) ≡ 0)
  behind = let f = places.fits in let r = places.run.0 in let n = places.some in ⊎_elim
      (λ (l : q.at + z < q.end). inr (rw (put_other m.heap q.at v (q.at + z) (omega (arith, n))) (ok.zeros (q.at + z) (omega arith) (omega arith) (inr (let b = places.behind in omega (arith, b))))))
      (λ (l : q.end ≤ q.at + z). let a = ok.aligned.0 in inl (omega arith))
      (cases_lt (q.at + z) q.end)

  -- ---- stocks and numbers

  mine : Stocked E m.low g'.size heap m.page next
  mine = let f = places.fits in let r = places.run in record {
    lies = (omega (arith, ok.lies), f, ok.lies.2);
    so_far = (omega (arith, r, f), ok.so_far.1, ok.so_far.2);
    aligned = ok.aligned;
    empty = λ b st. ⊎_elim
        (λ (e : b ≡ q.at). inl (let y = put_at g.size q.at z b e in omega (arith, y, e)))
        (λ (d : b ≢ q.at). rw (same_size new_place b d) (⊎_elim (λ y. inl (omega (arith, y))) (λ y. inr y) (ok.empty b (was new_place b d st))))
        (cases_eq b q.at);
    zeros = λ x l u n. let s = places.some in rw (put_other m.heap q.at v x (omega (arith, l, s))) (ok.zeros x (omega (arith, l)) u (inr (let b = places.behind in omega (arith, l, b))));
    ahead = λ i w e. none≢some e;
    fits = λ l. absurd (omega arith);
    on_page = let a = ok.aligned.0 in let s = places.rest in ⊎_elim
        (λ (e : (q.at + z) % 64 ≡ 0). inl e)
        (λ (d : (q.at + z) % 64 ≢ 0). inr (omega arith))
        (cases_eq ((q.at + z) % 64) 0);
    shut = ok.shut;
    opens = λ x l u. ok.opens x (omega (arith, l)) u;
    order = inr r.0;
    whole = (omega (arith, r, f), inl r.1);
    after = inr (q.at, (let y = put_same g.size q.at z in let s = places.some in omega arith), ap (λ x. q.at + x) (put_same g.size q.at z));
  }

  theirs : (s : Stock) → (s.end ≤ q.at) ⊎ (q.end ≤ s.at) → Stocked E m.low g.size m.heap m.page s → Stocked E m.low g'.size heap m.page s
  theirs s beside y = record {
    lies = y.lies;
    so_far = y.so_far;
    aligned = y.aligned;
    shut = y.shut;
    opens = y.opens;
    order = y.order;
    whole = y.whole;
    empty = λ b st. ⊎_elim
        (λ (e : b ≡ q.at). let t = put_at g.size q.at z b e in let f = places.fits in ⊎_elim (λ o. inr (omega (arith, o, e))) (λ o. inl (omega (arith, o, e, t, f))) beside)
        (λ (d : b ≢ q.at). rw (same_size new_place b d) (y.empty b (was new_place b d st)))
        (cases_eq b q.at);
    zeros = λ x l u n. rw (apart x l u) (y.zeros x l u n);
    ahead = λ i w e. rw (apart (s.at + 1 + i) (omega arith) (ahead_zeroed s y i w e)) (y.ahead i w e);
    fits = y.fits;
    on_page = y.on_page;
    after = ⊎_elim (λ t. inl t) (λ (t : (a : ℕ) × (0 < g.size a) × (a + g.size a ≡ s.at)). inr (t.0, is new_place t.0 t.1, rw (same_size new_place t.0 (not_here t.0 t.1)) t.2)) y.after;
  }
    where
      apart : (x : ℕ) → s.at ≤ x → x < s.zeroed → heap x ≡ m.heap x
      apart x l u = let f = places.fits in let n = places.some in put_other m.heap q.at v x (λ e. omega (arith, e, l, u, beside, y.so_far, f, n))

      not_here : (b : ℕ) → 0 < g.size b → b ≢ q.at
      not_here b st e = let n = none b st in omega (arith, n, e, st)

  stocks : Stocks E m.low team.count g'.size heap m.page (put team.worker k w)
  stocks = stocks_anew team.worker k w
      (λ j l d s e n. theirs s (inv.stocks.apart j k l places.own.worker d s q e places.own.has n places.own.epoch) (inv.stocks.stocked j l s e n))
      (λ s e n. rw (← some_same e) mine)
      (λ a j la lj x y d. inv.stocks.apart a j la lj d)
      (λ j l d s t e f n o.
      let a = inv.stocks.apart j k l places.own.worker d s q e places.own.has n places.own.epoch in
      let y : next ≡ t = some_same f in
      rw (← y) (⊎_elim (λ x. inl (omega (arith, x))) (λ x. inr x) a))

  numbered : Numbered team.mutators g'.size g'.identity (put team.worker k w)
  numbered = record {
    maker = λ b st. ⊎_elim
        (λ (e : b ≡ q.at). rw (put_at g.identity q.at i b e) mutator)
        (λ (d : b ≢ q.at). rw (put_other g.identity q.at i b d) (inv.numbered.maker b (was new_place b d st)))
        (cases_eq b q.at);
    last = λ b st. ⊎_elim
        (λ (e : b ≡ q.at). rw (put_at g.identity q.at i b e) (rw (put_same team.worker k w) (omega arith)))
        (λ (d : b ≢ q.at). rw (put_other g.identity q.at i b d) (let y = inv.numbered.last b (was new_place b d st) in let o = more (g.identity b).mutator in omega (arith, y, o)))
        (cases_eq b q.at);
  }
    where
      more : (x : ℕ) → (team.worker x).account.serial ≤ (put team.worker k w x).account.serial
      more x = each_put (λ a (u : Known). a ≡ x → (team.worker x).account.serial ≤ u.account.serial) team.worker k w x
          (λ _ _. omega arith)
          (λ e _. let y : (team.worker x).account.serial ≡ (team.worker k).account.serial = ap (λ a. (team.worker a).account.serial) e in omega (arith, y))
          refl

  -- ---- the whole

  -- what a worker knows of the heap, before and after
  known : (j : ℕ) (u : Known) → Knows E m.gate m.traced m.front m.low m.old_front m.old_low m.old_owed g m.page m.cross m.announced m.heap j u
      → Knows E m.gate m.traced m.front m.low m.old_front m.old_low m.old_owed g' m.page m.cross m.announced heap j u
  known j u p = worker_allocated E m g q.at z c i heap j u new_place zeros (worker_free E m g q.at v j u free p)

  -- worker k itself
  own : Knows E m.gate m.traced m.front m.low m.old_front m.old_low m.old_owed g' m.page m.cross m.announced heap k w
  own =
      let p = known k (team.worker k) (inv.workers k places.own.worker) in
      let a : (s : Stock) → w.stock ≡ Some s → s.epoch ≡ w.epoch = λ s e. rw (← some_same e) (p.stock q places.own.has) in
      assumption

  pub records_are_placed : Cells E (with_word m q.at v) (with_worker team k w) g' → Invariant E (with_word m q.at v) (with_worker team k w) g'
  records_are_placed cells = record {
    counted = counted_put team.worker k w refl refl inv.counted;
    staffed = staffed_put team.worker k w refl inv.staffed;
    laid = laid_allocated new_place;
    headed = headed_allocated new_place g.writer g.kind c g.identity i heap (rw (put_same m.heap q.at v) places.header) (headed_free free g.writer g.kind m.heap v g.copy g.keeper g.identity inv.headed);
    copied = copied_allocated new_place g.writer g.kind c g.identity i g.kept inv.copied;
    once = once_allocated new_place g.writer g.kind c g.identity i unused inv.once;
    kept = kept_allocated new_place team.count inv.kept;
    room = room_allocated new_place m.traced m.owed inv.room;
    raw_words = raw_allocated new_place g.writer g.kind c heap small (raw_free free g.writer g.kind m.heap v inv.raw_words);
    counts = counts_allocated new_place g.writer g.kind c heap (λ n e. (put_other m.heap q.at v (q.at + 1) (omega arith) ∙ subst (λ y. CountShows y m.heap q.at) e counted, let t = ap (λ y. fields_end y z) e in let l = places.fields in omega (arith, t, l))) (counts_free free g.writer g.kind m.heap v inv.counts);
    shut = shut_allocated new_place g.writer m.page inv.shut;
    filling = inv.filling;
    tracing = inv.tracing;
    aged = inv.aged;
    scanned = scanned_put team.worker k w refl inv.scanned;
    opened = opened_allocated new_place g.writer g.kind c heap zeros m.page (opened_free free g.writer g.kind m.heap v m.page inv.opened);
    landing = landing_allocated new_place g.writer g.kind c heap zeros (landing_free free g.writer g.kind m.heap v inv.landing);
    older = older_allocated new_place g.writer g.kind c heap zeros (older_free free g.writer g.kind m.heap v inv.older);
    new = area_allocated new_place E.epoch m.heap heap m.page (λ x d. put_other m.heap q.at v x d) opens ok.after behind inv.new;
    new_written = new_written_allocated new_place g.writer inv.new_written;
    old_space = old_space_allocated new_place m.traced m.old_front m.old_low heap m.page (old_space_free free g.writer g.kind m.heap v m.traced m.old_front m.old_low m.page lay inside.0 inside.1 inv.old_space);
    old_area = inv.old_area;
    old_pages = inv.old_pages;
    sizes = inv.sizes;
    crossing = crossing_allocated new_place g.writer m.cross inv.crossing;
    stocks = stocks;
    numbered = numbered;
    cells = cells;
    workers = team_put team.count (Knows E m.gate m.traced m.front m.low m.old_front m.old_low m.old_owed g' m.page m.cross m.announced heap) team.worker k w (λ j l d. known j (team.worker j) (inv.workers j l)) own;
  }

  -- ---- its pointer

  pub placed_is_held : (x : ℕ) → decode x ≡ PointerWord q.at → HoldsValue E g' x (Reference i)
  unfolding Leads Lands value_of
  placed_is_held x e = record {
    held = record {
      clean = λ l. absurd (let d = sym e ∙ l.1 in let s : q.at ≡ l.0 = cc in omega (arith, s, l.2, l.3, inside, lay.apart));
      lands = λ b d. let t = sym d ∙ e in let s : b ≡ q.at = cc in rw (put_at g.size q.at z b s, put_at g.writer q.at 0 b s) (places.some, refl);
    };
    denotes = rw (e, put_same g.identity q.at i) refl;
  }
