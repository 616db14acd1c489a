-- Each step of a lone worker's copy is paid: by the word that led to it, or by the words that are no longer owed.
use Rattle.std.proofs.Common.{◌≡◌, ◌≢◌, ℕ, ◌+◌, ◌*◌, ◌<◌, inl, inr, ⊎_elim, Bool, true, false, cond, Some, refl, sym, ap, subst, ◌∙◌, arith}
use Rattle.std.proofs.lemmas.Bool.{cases_eq}
use Rattle.std.proofs.lemmas.Option.{same_Some}
use Rattle.plain_state.specs.State.{Plain}
use Rattle.atom_store.specs.declared.reply.Reply.{Reply}
use Rattle.atom_store.specs.declared.reply.Reply.TheVariants.{Value, Done, Won}
use Rattle.atom_store.specs.declared.step.Step.{Step}
use Rattle.atom_store.specs.declared.step.Step.TheVariants.{Load, Store, Exchange}
use Rattle.atom_store.specs.Step.{words_after, reply_of}
use Rattle.heap_words.specs.Decoded.{Decoded, NumberWord, PointerWord, HeaderWord, ForwardWord, BusyWord, Malformed, decode}
use Rattle.heap_words.specs.FirstWords.{is_header, is_forward}
use Rattle.heap_words.specs.Word.{forward_word, busy_word}
use Rattle.space_map.specs.declared.area_word.AreaWord.{AreaWord}
use Rattle.space_map.specs.AreaWord.{AreaFits, encode_area}
use Rattle.space_map.specs.Spaces.{to_space}
use Rattle.space_map.specs.Table.{Row, Area, WeakHead, HeapWord, IsRow, place_of}
use Rattle.space_map.proofs.AreaWords.{encode_area-area_in}
use Rattle.forwarding.specs.declared.kept_header.KeptHeader.{KeptHeader}
use Rattle.forwarding.specs.declared.loaded_word.LoadedWord.{LoadedWord}
use Rattle.forwarding.specs.declared.reserved.Reserved.{Reserved}
use Rattle.forwarding.specs.declared.evac_stage.EvacStage.{EvacStage}
use Rattle.forwarding.specs.declared.evac_stage.EvacStage.TheVariants.{LoadsHeader, TakesHeader, LoadsArea, Announces, Reserves, StoresHeader, LoadsWord, StoresWord, StoresCross, StoresForward, LoadsWeak, StoresLink, TakesWeak, Clears, Ended}
use Rattle.forwarding.specs.Evacuation.{Evacuation, area_past, front_of, is_cell, link_of, size_of, wanted}
use Rattle.forwarding.specs.Left.{steps_to_link}
use Rattle.forwarding.specs.Soundness.{IsSound}
use Rattle.forwarding.specs.Taken.{by_area, by_first_word, copied, crossed, taken}
use Rattle.heap_state.specs.Configuration.{Configuration, Stands, table}
use Rattle.heap_state.specs.Memory.Entries.{WholeRow, whole_place_of, word_in_whole, Entry, EntryFits, AreaIs, WeakIs, CrossIs, WordIs, AnnounceIs, with_entry, row_of, word_of}
use Rattle.heap_state.specs.Memory.Table.{Table, table_of, word_in}
use Rattle.heap_state.specs.Saving.Words.{Saves, saves_of}
use Rattle.heap_state.proofs.Puts.{put_at, put_other}
use Rattle.gc_worker.proofs.Words.Areas.{area_says, area_word, is_space}
use Rattle.gc_worker.proofs.Stages.Copies.Publishing.{cell_of}
use Rattle.gc_worker.proofs.Stages.Scan.ScannedHeaders.{heap_word}
use Rattle.lone_mutator.specs.Copies.{CopyStands, copy_left}
use Rattle.lone_mutator.specs.Law.{saves}
use Rattle.lone_mutator.specs.Lone.{is_announced, NobodyElseAnnounces}
use Rattle.lone_mutator.specs.Potential.{left_in, due_in, size_in}
use Rattle.lone_mutator.proofs.Stages.Copies.CopyMeasure.{copied-le, crossed-le, copied-announced, crossed-announced, copied-stands, crossed-stands}
use Rattle.lone_mutator.proofs.Stages.Copies.CopyReads.{IsFirstWord}
use Rattle.lone_mutator.proofs.Steps.TableSteps.{HoldsBy, SaysNoSaves, loads, stores, exchanges}
use Rattle.lone_mutator.proofs.Epochs.Cost.{left_reserved, due_untraced}

-- what is paid for a cell's words pays for its link too
link_is_paid : (kept : KeptHeader) → 3 * size_of kept + steps_to_link kept < 5 * size_of kept
link_is_paid kept = by_kind (is_cell kept) refl
  where
    by_kind : (b : Bool) → is_cell kept ≡ b → 3 * size_of kept + cond b 3 0 < 5 * size_of kept
    by_kind true cell = let long = (cell_of kept.kind kept.len cell).1 in omega (arith, long)
    by_kind false other = omega arith

-- The copy that was v becomes w: what it has read is so, nobody else announces a place, the epoch is the same, and there is less to pay.
pub record CopyGoes (n : ℕ) (t after : Table) (v w : Evacuation) : Type 0 where
  pub stands : CopyStands after w w.stage
  pub quiet : NobodyElseAnnounces after.announced (is_announced w.stage)
  pub gate : after.gate ≡ t.gate
  pub traced : after.traced ≡ t.traced
  pub size : size_in after ≡ size_in t
  pub left : copy_left w.stage + left_in n after < copy_left v.stage + left_in n t

-- The copy is worker 0's, of the gate's epoch, which isn't traced. What it has read is so, it meets no record that is being copied, and
-- nobody else announces a place.
pub record CopyIsAlone (c : Configuration) (v : Evacuation) : Type 0 where
  pub sound : IsSound v
  pub pages : v.layout.pages ≡ c.pages
  pub own : v.worker ≡ 0
  pub now : v.epoch ≡ (table c).gate.epoch
  pub untraced : (table c).traced ≢ (table c).gate.epoch + 1
  pub meets : v.stage ≡ LoadsHeader → IsFirstWord (decode ((table c).heap v.addr))
  pub stands : CopyStands (table c) v v.stage
  pub quiet : NobodyElseAnnounces (table c).announced (is_announced v.stage)

module _ (c : Configuration) (p : Plain) (s : Stands c p) (u : Evacuation) where
  abbrev n : ℕ
  n = c.pages

  abbrev t : Table
  t = table c

  -- the copy at a stage
  abbrev at : EvacStage → Evacuation
  at z = record u { stage = z }

  abbrev Goes : EvacStage → Table → Reply → Type 0
  Goes z after reply = CopyGoes c.pages (table c) after (at z) (taken (at z) reply)

  -- and what is said of checkpoints stays
  abbrev GoesSo : EvacStage → Table → Saves → Reply → Type 0
  GoesSo z after then reply = Goes z after reply × (then ≡ saves c)

  module _ (z : EvacStage) (a : CopyIsAlone c (at z)) where
    -- a step of this copy
    steps : (q : Step) → wanted (at z) ≡ Some q → HoldsBy c p s (GoesSo z) q → (r : Step) → wanted (at z) ≡ Some r → HoldsBy c p s (GoesSo z) r
    steps q next holds r asked = subst (HoldsBy c p s (GoesSo z)) (same_Some q r (sym next ∙ asked)) holds

    -- nothing but the heap's words and the crossings changes, and the copy has less left
    plain : (after : Table) (next : EvacStage) (reply : Reply) → taken (at z) reply ≡ at next → after.gate ≡ t.gate → after.traced ≡ t.traced → size_in after ≡ size_in t
        → left_in n after ≡ left_in n t → NobodyElseAnnounces after.announced (is_announced next) → CopyStands after (at next) next
        → copy_left next < copy_left z → Goes z after reply
    plain after next reply is gate traced size same quiet stands fewer = subst (λ (w : Evacuation). CopyGoes n t after (at z) w) (sym is)
        (record { stands = stands; quiet = quiet; gate = gate; traced = traced; size = size; left = omega (arith, same, fewer) })

  -- ---- the old record's first word

  abbrev word : ℕ
  word = word_in c.pages c.words (HeapWord u.addr)

  read : t.heap u.addr ≡ word
  read = heap_word c u.addr

  neither : {A : Type 0} (d : Decoded) → is_header d ≡ false → is_forward d ≡ false → IsFirstWord d → A
  neither d no_header no_forward (inl head) = absurd (let e = sym no_header ∙ head in cc)
  neither d no_header no_forward (inr forward) = absurd (let e = sym no_forward ∙ forward in cc)

  by_first : CopyIsAlone c (at LoadsHeader) → (d : Decoded) → decode word ≡ d → IsFirstWord d → Goes LoadsHeader t (Value word)
  by_first a (HeaderWord kind len serial mutator) is first =
      plain LoadsHeader a t (TakesHeader (record { word = word; kind = kind; len = len })) (Value word) (ap (λ d. at (by_first_word word d)) is) refl refl refl refl a.quiet read (omega arith)
  by_first a (ForwardWord len to) is first = plain LoadsHeader a t (Ended to) (Value word) (ap (λ d. at (by_first_word word d)) is) refl refl refl refl a.quiet tt (omega arith)
  by_first a (BusyWord len worker) is first = neither (BusyWord len worker) refl refl first
  by_first a (NumberWord m) is first = neither (NumberWord m) refl refl first
  by_first a (PointerWord address) is first = neither (PointerWord address) refl refl first
  by_first a Malformed is first = neither Malformed refl refl first

  -- the place of a row of the copy's table
  row_place : (z : EvacStage) → CopyIsAlone c (at z) → (row : Row) → place_of u.layout.pages row ≡ place_of c.pages row
  row_place z a row = ap (λ m. place_of m row) a.pages

  any_place : (z : EvacStage) → CopyIsAlone c (at z) → (row : WholeRow) → whole_place_of u.layout.pages row ≡ whole_place_of c.pages row
  any_place z a row = ap (λ m. whole_place_of m row) a.pages

  loads_it : (z : EvacStage) → CopyIsAlone c (at z) → (row : Row) → IsRow c.pages row → wanted (at z) ≡ Some (Load (place_of u.layout.pages row))
      → Goes z t (Value (word_in c.pages c.words row)) → (r : Step) → wanted (at z) ≡ Some r → HoldsBy c p s (GoesSo z) r
  loads_it z a row is next goes = steps z a (Load (place_of c.pages row)) (next ∙ ap (λ m. Some (Load m)) (row_place z a row)) (loads c p s (GoesSo z) row is (goes, refl))

  stores_it : (z : EvacStage) → CopyIsAlone c (at z) → (e : Entry) → EntryFits c.pages e → SaysNoSaves e → wanted (at z) ≡ Some (Store (whole_place_of u.layout.pages (row_of e)) (word_of e))
      → Goes z (with_entry e t) Done → (r : Step) → wanted (at z) ≡ Some r → HoldsBy c p s (GoesSo z) r
  stores_it z a e fits none next goes =
      steps z a (Store (whole_place_of c.pages (row_of e)) (word_of e)) (next ∙ ap (λ m. Some (Store m (word_of e))) (any_place z a (row_of e))) (stores c p s (GoesSo z) e fits none (goes, refl))

  exchanges_it : (z : EvacStage) → CopyIsAlone c (at z) → (e : Entry) (old : ℕ) → EntryFits c.pages e → SaysNoSaves e → word_in_whole c.pages c.words (row_of e) ≡ old
      → wanted (at z) ≡ Some (Exchange (whole_place_of u.layout.pages (row_of e)) old (word_of e)) → Goes z (with_entry e t) Won
      → (r : Step) → wanted (at z) ≡ Some r → HoldsBy c p s (GoesSo z) r
  exchanges_it z a e old fits none same next goes =
      steps z a (Exchange (whole_place_of c.pages (row_of e)) old (word_of e)) (next ∙ ap (λ m. Some (Exchange m old (word_of e))) (any_place z a (row_of e)))
      (exchanges c p s (GoesSo z) e old fits none same (goes, refl))

  abbrev Owes : EvacStage → Type 0
  Owes z = CopyIsAlone c (at z) → (r : Step) → wanted (at z) ≡ Some r → HoldsBy c p s (GoesSo z) r

  loads_header : Owes LoadsHeader
  loads_header a = loads_it LoadsHeader a (HeapWord u.addr) (let l = a.sound.addr in let n = a.pages in omega (arith, l, n)) refl
      (by_first a (decode word) refl (subst (λ w. IsFirstWord (decode w)) read (a.meets refl)))

  takes_header : (kept : KeptHeader) → Owes (TakesHeader kept)
  takes_header kept a = exchanges_it (TakesHeader kept) a (WordIs u.addr (busy_word kept.len u.worker)) kept.word (let l = a.sound.addr in let n = a.pages in omega (arith, l, n))
      tt (sym read ∙ a.stands) refl
      (plain (TakesHeader kept) a (with_entry (WordIs u.addr (busy_word kept.len u.worker)) t) (LoadsArea kept) Won refl refl refl refl refl a.quiet tt (omega arith))

  -- ---- the area

  abbrev space : ℕ
  space = to_space u.epoch

  abbrev area : AreaWord
  area = t.area space

  loads_area : (kept : KeptHeader) → Owes (LoadsArea kept)
  loads_area kept a = loads_it (LoadsArea kept) a (Area space) (is_space u.epoch) refl
      (plain (LoadsArea kept) a t (Announces kept area) (Value _) (ap (λ o. at (by_area kept o)) (area_says c p s space (is_space u.epoch))) refl refl refl refl a.quiet refl (omega arith))

  announces : (kept : KeptHeader) (read : AreaWord) → Owes (Announces kept read)
  announces kept read a = stores_it (Announces kept read) a (AnnounceIs u.worker (front_of u.layout u.epoch read + 1)) a.sound.worker tt refl
      (plain (Announces kept read) a (with_entry (AnnounceIs u.worker (front_of u.layout u.epoch read + 1)) t) (Reserves kept read) Done refl refl refl refl refl
      (λ k few others. put_other t.announced u.worker _ k (λ same. absurd (let e = others (same ∙ a.own) in cc)) ∙ a.quiet k few (λ _. refl)) a.stands (omega arith))

  module _ (kept : KeptHeader) (read : AreaWord) (a : CopyIsAlone c (at (Reserves kept read))) where
    abbrev past : AreaWord
    past = area_past (size_of kept) read

    abbrev reserved : Table
    reserved = with_entry (AreaIs space past) t

    past_fits : AreaFits past
    past_fits =
        let room = a.sound.fits.1 in
        record {
          front_fits = (let f = room.fits.front_fits in let l = room.below_low in let low = room.fits.low_fits in omega (arith, f, l, low));
          low_fits = room.fits.low_fits;
          owed_fits = (let o = room.fits.owed_fits in omega (arith, o));
        }

    same_space : to_space t.gate.epoch ≡ space
    same_space = ap to_space (sym a.now)

    -- five steps are paid for each word that is no longer owed
    paid : left_in n reserved + 5 * size_of kept ≡ left_in n t
    paid =
        let room = a.sound.fits.1.owed in
        let now = ap (λ (z : AreaWord). z.owed) (put_at t.area space past (to_space t.gate.epoch) same_space) in
        let before = ap (λ (z : AreaWord). z.owed) (ap t.area same_space ∙ a.stands) in
        rw (now, before) (left_reserved n t.gate.epoch t.traced t.weak_turn read.owed t.page (size_of kept) a.untraced room)

    area_stands : word_in c.pages c.words (Area space) ≡ encode_area read
    area_stands = sym (encode_area-area_in (word_in c.pages c.words (Area space))) ∙ (ap encode_area (sym (area_word c space)) ∙ ap encode_area a.stands)

    pub reserves : (r : Step) → wanted (at (Reserves kept read)) ≡ Some r → HoldsBy c p s (GoesSo (Reserves kept read)) r
    reserves = exchanges_it (Reserves kept read) a (AreaIs space past) (encode_area read) (is_space u.epoch, past_fits) tt area_stands refl (record {
      stands = tt;
      quiet = a.quiet;
      gate = refl;
      traced = refl;
      size = refl;
      left = (let cost = paid in let link = link_is_paid kept in omega (arith, cost, link));
    })

  -- ---- the copy's words

  -- who announces the place of a copy still does
  announced : (next : EvacStage) → is_announced next ≡ true → NobodyElseAnnounces t.announced true → NobodyElseAnnounces t.announced (is_announced next)
  announced next is quiet = λ k few others. quiet k few (λ own. sym is ∙ others own)

  stores_header : (r : Reserved) → Owes (StoresHeader r)
  stores_header r a = stores_it (StoresHeader r) a (WordIs r.to r.kept.word) (let f = a.sound.fits.inside in let n = a.pages in omega (arith, f, n)) tt refl
      (plain (StoresHeader r) a (with_entry (WordIs r.to r.kept.word) t) (copied r 1) Done refl refl refl refl refl
      (announced (copied r 1) (copied-announced r 1) a.quiet) (copied-stands (with_entry (WordIs r.to r.kept.word) t) (at (copied r 1)) r 1) (let few = copied-le r 1 in omega (arith, few)))

  stores_word : (r : Reserved) (w : LoadedWord) → Owes (StoresWord r w)
  stores_word r w a = stores_it (StoresWord r w) a (WordIs (r.to + w.number) w.word) (let f = a.sound.fits in let i = f.0.inside in let n = a.pages in omega (arith, f, i, n)) tt refl
      (plain (StoresWord r w) a (with_entry (WordIs (r.to + w.number) w.word) t) (copied r (w.number + 1)) Done refl refl refl refl refl
      (announced (copied r (w.number + 1)) (copied-announced r (w.number + 1)) a.quiet) (copied-stands (with_entry (WordIs (r.to + w.number) w.word) t) (at (copied r (w.number + 1))) r (w.number + 1))
      (let few = copied-le r (w.number + 1) in let f = a.sound.fits.2 in omega (arith, few, f)))

  stores_cross : (r : Reserved) (page : ℕ) → Owes (StoresCross r page)
  stores_cross r page a = stores_it (StoresCross r page) a (CrossIs page r.to) (let f = a.sound.fits in let i = f.0.inside in let n = a.pages in omega (arith, f, i, n)) tt refl
      (plain (StoresCross r page) a (with_entry (CrossIs page r.to) t) (crossed r (page + 1)) Done refl refl refl refl refl
      (announced (crossed r (page + 1)) (crossed-announced r (page + 1)) a.quiet) (crossed-stands (with_entry (CrossIs page r.to) t) (at (crossed r (page + 1))) r (page + 1))
      (let few = crossed-le r (page + 1) in let f = a.sound.fits.2 in omega (arith, few, f)))

  loads_word : (r : Reserved) (i : ℕ) → Owes (LoadsWord r i)
  loads_word r i a = loads_it (LoadsWord r i) a (HeapWord (u.addr + i)) (let f = a.sound.fits in let k = f.0.keeps.inside in let n = a.pages in omega (arith, f, k, n)) refl
      (plain (LoadsWord r i) a t (StoresWord r (record { number = i; word = word_in c.pages c.words (HeapWord (u.addr + i)) })) (Value _) refl refl refl refl refl a.quiet tt (omega arith))

  stores_forward : (r : Reserved) → Owes (StoresForward r)
  stores_forward r a = stores_it (StoresForward r) a (WordIs u.addr (forward_word r.kept.len r.to)) (let l = a.sound.addr in let n = a.pages in omega (arith, l, n)) tt refl
      (by_kind (is_cell r.kept) refl)
    where
      after : Table
      after = with_entry (WordIs u.addr (forward_word r.kept.len r.to)) t

      by_kind : (b : Bool) → is_cell r.kept ≡ b → Goes (StoresForward r) after Done
      by_kind true cell = plain (StoresForward r) a after (LoadsWeak r.to) Done (ap (λ b. at (cond b (LoadsWeak r.to) (Clears r.to))) cell) refl refl refl refl a.quiet tt
          (rw cell (omega arith))
      by_kind false other = plain (StoresForward r) a after (Clears r.to) Done (ap (λ b. at (cond b (LoadsWeak r.to) (Clears r.to))) other) refl refl refl refl a.quiet tt (omega arith)

  -- ---- a cell is linked

  weak_word : t.weak ≡ word_in c.pages c.words WeakHead
  unfolding table_of
  weak_word = refl

  loads_weak : (to : ℕ) → Owes (LoadsWeak to)
  loads_weak to a = loads_it (LoadsWeak to) a WeakHead tt refl
      (plain (LoadsWeak to) a t (StoresLink to (word_in c.pages c.words WeakHead)) (Value _) refl refl refl refl refl a.quiet weak_word (omega arith))

  stores_link : (to head : ℕ) → Owes (StoresLink to head)
  stores_link to head a = stores_it (StoresLink to head) a (WordIs (link_of to) head) (let f = a.sound.fits.0 in let n = a.pages in omega (arith, f, n)) tt refl
      (plain (StoresLink to head) a (with_entry (WordIs (link_of to) head) t) (TakesWeak to head) Done refl refl refl refl refl a.quiet a.stands (omega arith))

  takes_weak : (to head : ℕ) → Owes (TakesWeak to head)
  takes_weak to head a = exchanges_it (TakesWeak to head) a (WeakIs (to + 1)) head (let f = a.sound.fits.0 in let n = a.sound.pages in omega (arith, f, n)) tt (sym weak_word ∙ a.stands) refl
      (plain (TakesWeak to head) a (with_entry (WeakIs (to + 1)) t) (Clears to) Won refl refl refl refl refl a.quiet tt (omega arith))

  clears : (to : ℕ) → Owes (Clears to)
  clears to a = stores_it (Clears to) a (AnnounceIs u.worker 0) a.sound.worker tt refl
      (plain (Clears to) a (with_entry (AnnounceIs u.worker 0) t) (Ended to) Done refl refl refl refl refl
      (λ k few others. ⊎_elim
      (λ (own : k ≡ u.worker). put_at t.announced u.worker 0 k own)
      (λ (other : k ≢ u.worker). put_other t.announced u.worker 0 k other ∙ a.quiet k few (λ none. absurd (other (none ∙ sym a.own))))
      (cases_eq k u.worker)) tt (omega arith))

  -- ---- all

  by_stage : (z : EvacStage) → Owes z
  by_stage LoadsHeader a = loads_header a
  by_stage (TakesHeader kept) a = takes_header kept a
  by_stage (LoadsArea kept) a = loads_area kept a
  by_stage (Announces kept read) a = announces kept read a
  by_stage (Reserves kept read) a = reserves kept read a
  by_stage (StoresHeader r) a = stores_header r a
  by_stage (LoadsWord r i) a = loads_word r i a
  by_stage (StoresWord r w) a = stores_word r w a
  by_stage (StoresCross r page) a = stores_cross r page a
  by_stage (StoresForward r) a = stores_forward r a
  by_stage (LoadsWeak to) a = loads_weak to a
  by_stage (StoresLink to head) a = stores_link to head a
  by_stage (TakesWeak to head) a = takes_weak to head a
  by_stage (Clears to) a = clears to a
  by_stage (Ended to) a = λ r asked. absurd (let none = asked in cc)

-- each step of it
pub copy_goes : (c : Configuration) (p : Plain) (s : Stands c p) (v : Evacuation) (q : Step) → CopyIsAlone c v → wanted v ≡ Some q
    → CopyGoes c.pages (table c) (table_of c.pages (words_after q c.words)) v (taken v (reply_of q c.words)) × (saves_of c.pages (words_after q c.words) ≡ saves c)
copy_goes c p s v q a asked = by_stage c p s v v.stage a q asked

-- before a round what is due is paid as well
pub pays_due : (n : ℕ) (t after : Table) (v w : Evacuation) → t.traced ≢ t.gate.epoch + 1 → CopyGoes n t after v w
    → copy_left w.stage + due_in n after < copy_left v.stage + due_in n t
pays_due n t after v w untraced goes =
    let before = due_untraced n t.gate.epoch t.traced t.weak_turn (t.area (to_space t.gate.epoch)).owed t.page untraced in
    let now = due_untraced n after.gate.epoch after.traced after.weak_turn (after.area (to_space after.gate.epoch)).owed after.page
    (λ (traced : after.traced ≡ after.gate.epoch + 1). untraced (sym goes.traced ∙ (traced ∙ ap (λ g. g.epoch + 1) goes.gate))) in
    let less = goes.left in
    omega (arith, before, now, less)
