-- What a forward to a whole copy leaves shown, and what the cycle keeps of it.
use Rattle.std.proofs.Common.{◌≡◌, ◌≢◌, ℕ, ◌+◌, ◌-◌, ◌<◌, ◌≤◌, true, refl, sym, ap, ◌∙◌, arith, Option, Some, ⊎_elim, ◌⊎◌, inl, inr, add-zero, slice_get, length, ◌*◌}
use Rattle.std.proofs.lemmas.Bool.{cases_eq}
use Rattle.std.proofs.lemmas.Option.{slice_get_within}
use Rattle.heap_words.specs.Decoded.{PointerWord, decode, ForwardWord}
use Rattle.plain_state.specs.Reachable.{Reachable, FromRecord}
use Rattle.plain_state.specs.State as plain
use Rattle.plain_state.specs.declared.value.Identity.{Identity}
use Rattle.plain_state.specs.declared.value.Value.TheVariants.{Reference}
use Rattle.plain_state.specs.Layout.{is_field, values_at, word_of_value}
use Rattle.heap_state.specs.Cycles.Cycle.{Copying, Rooted, StillLeads}
use Rattle.heap_state.specs.Memory.Era.{Era, Memory}
use Rattle.heap_state.specs.Functions.{put}
use Rattle.heap_state.specs.Invariant.Ghost.{Ghost, Here}
use Rattle.heap_state.specs.Invariant.Inductive.{Invariant}
use Rattle.heap_state.specs.Meaning.Values.{ShowsAll, Shows, value_of}
use Rattle.heap_state.specs.Known.{Known, Team, Quest, Copy, Linking}
use Rattle.heap_state.proofs.Workers.Frames.{accounts_put, registers_put, rooted_put}
use Rattle.heap_state.proofs.Puts.{put_at, put_other, some_same}
use Rattle.heap_state.proofs.Records.Layouts.{count_stays, field_is_value, field_within, value_within, values_behind_header}
use Rattle.heap_state.specs.Targets.{IsCopied}
use Rattle.heap_laws.specs.Copying.{LinksCopy, has_published, published}
use Rattle.heap_laws.specs.Steps.{with_worker, with_word, Preserves, Ready}
use Rattle.heap_laws.proofs.Copying.Forward.{Publishing, mine, placed, from_written, unread_word, twin, copied_word, was_written, written_on, here_cases, old_target, invariant}
use Rattle.heap_laws.proofs.Copying.UnreadWords.{here_same, inner_same, shows_unread, objects_unread, board_unread}
use Rattle.heap_laws.proofs.Copying.WordsOfCopies.{rooted_unread}
use Rattle.heap_laws.proofs.Frames.Values.{pointer_from_value, value_from_pointer, copied_within}
use Rattle.heap_laws.proofs.Targets.Frames.{made_put}
use Rattle.heap_laws.proofs.Targets.ShownPublished.{shown_published}

module _ {E : Era} {m : Memory} {team : Team} {g : Ghost} {k : ℕ} {c : Copy} {q : Quest} {v : ℕ} {l : Option Linking} (publishing : Publishing E m team g k c q v l) where
  abbrev inv : Invariant E m team g
  inv = publishing.ready.invariant

  abbrev heap' : ℕ → ℕ
  heap' = put m.heap (c.from + 0) v

  abbrev w' : Known
  w' = has_published (team.worker k) c q l

  abbrev g' : Ghost
  g' = published g k c.from c.to

  old : (0 < g.size c.from) × (E.old_start ≤ c.from) × (c.from < E.old_start + E.old_span) × (g.size c.from ≡ c.size) × (0 < g.keeper c.from) × (0 < g.copy c.from) × (g.size c.to ≡ c.size)
  old = let o = (mine publishing).old in let p = placed publishing in (omega (arith, o), omega (arith, o), omega (arith, o), o.1, omega (arith, o), omega (arith, p.1), p.3)

  -- who isn't copied yet after was not before
  unkept : (b : ℕ) → (g.copy b ≡ 0) ⊎ (0 < g'.keeper b) → (g.copy b ≡ 0) ⊎ (0 < g.keeper b)
  unkept b y = ⊎_elim (λ z. inl z) (λ z. inr (let n : b ≢ c.from = (λ e. let p = put_at g.keeper c.from 0 b e in omega arith) in rw (put_other g.keeper c.from 0 b n) at z)) y

  -- ---- what is shown

  -- each value of the old record stands in its copy too
  copied_value : (r : plain.Record) → Shows (value_of g.identity) m.heap c.from (g.kind c.from) (g.size c.from) r → (x : ℕ) → x < length r.values
      → heap' (c.to + word_of_value (g.kind c.from) x) ≡ m.heap (c.from + word_of_value (g.kind c.from) x)
  copied_value r p x l = let v = value_within r p x l in copied_word publishing (word_of_value (g.kind c.from) x) v.0 (omega (arith, v.1, old.3))

  -- the copy shows what the old record shows
  moved : (r : plain.Record) → Shows (value_of g.identity) m.heap c.from (g.kind c.from) (g.size c.from) r → Shows (value_of g.identity) heap' c.to (g.kind c.to) (g.size c.to) r
  moved r p = let t = twin publishing in rw (t.6) (record {
    kind = p.kind;
    size = p.size ∙ sym t.4;
    fields = λ x l y. rw (copied_value r p x l) (p.fields x l y);
    numbers = λ x l y. rw (copied_value r p x l) (p.numbers x l y);
    count = count_stays r p heap' c.to (λ _ l _. copied_word publishing 1 (omega arith) (omega (arith, l, old.3)));
  })

  objects : (records : plain.Heap) → ShowsAll g.size g.writer g.copy g.keeper g.kind g.identity m.heap records → ShowsAll g'.size g'.writer g'.copy g'.keeper g'.kind g'.identity heap' records
  objects records p = let o = objects_unread (unread_word publishing) m.heap v g.copy g.keeper g.kind g.identity records p in record {
    shows = λ b st w y. ⊎_elim
        (λ (e : b ≡ c.to). rw e of_copy)
        (λ (d : b ≢ c.to). o.shows b st (was_written publishing b w d) (unkept b y))
        (cases_eq b c.to);
  }
    where
      of_copy : (r : plain.Record) × (plain.record_of records (g.identity c.to) ≡ Some r) × Shows (value_of g.identity) heap' c.to (g.kind c.to) (g.size c.to) r
      of_copy =
          let s = p.shows c.from old.0 (from_written publishing) (inr old.4) in
          (s.0, ap (plain.record_of records) (twin publishing).5 ∙ s.1, moved s.0 s.2)

  -- ---- what the cycle keeps

  module _ (p : plain.Plain) (cy : Copying E m.front g.size g.writer g.copy g.keeper g.kind g.identity m.heap p) where
    source : (r : plain.Record) × (plain.record_of p.heap (g.identity c.from) ≡ Some r) × Shows (value_of g.identity) m.heap c.from (g.kind c.from) (g.size c.from) r
    source = cy.old c.from old.0 old.1 old.2 (inr old.4)

    reached : Reachable p (g.identity c.from)
    reached = cy.reached c.from old.0 old.1 old.2 (inl old.5)

    -- a pointer in a field of the old record is as at the flip
    led : (i b : ℕ) → 0 < i → i < c.size → is_field (g.kind c.from) i ≡ true → decode (m.heap (c.from + i)) ≡ PointerWord b → Reachable p (g.identity b)
    led i b f l y d =
        let s : Shows (value_of g.identity) m.heap c.from (g.kind c.from) (g.size c.from) (source.0) = source.2 in
        let n : ℕ = i - values_at (g.kind c.from) in
        let e : word_of_value (g.kind c.from) n ≡ i = omega (arith, field_is_value (g.kind c.from) i f y) in
        let y' : is_field (g.kind c.from) (word_of_value (g.kind c.from) n) ≡ true = rw e y in
        let u : value_of g.identity (m.heap (c.from + i)) ≡ slice_get source.0.values n = rw e at (s.fields n (field_within source.0 s n y' (omega (arith, e, l, old.3))) y') in
        FromRecord (g.identity c.from) source.0 n (g.identity b) reached source.1 (rw s.kind y') (sym u ∙ value_from_pointer g.identity (m.heap (c.from + i)) b d)

    sound : (x : ℕ) (i : Identity) → Here E g'.size g'.writer g'.kind x → StillLeads E g'.identity (heap' x) i → Reachable p i
    sound x i u t = ⊎_elim
        (λ (y : Here E g.size g.writer g.kind x). cy.sound x i y (rw (here_same (unread_word publishing) m.heap v g.kind x y) at t))
        (λ (y : (n : ℕ) × (x ≡ c.to + n) × (0 < n) × (n < c.size) × (is_field (g.kind c.from) n ≡ true)).
        let w : heap' x ≡ m.heap (c.from + y.0) = ap heap' (y.1) ∙ copied_word publishing y.0 y.2 y.3 in
        let d : decode (m.heap (c.from + y.0)) ≡ PointerWord (t.at) = ap decode (sym w) ∙ t.points in
        rw (t.named) at (led y.0 t.at y.2 y.3 y.4 d))
        (here_cases publishing x u)

    copied_on : (i : Identity) → IsCopied E m.front g.size g.writer g.identity i → IsCopied E m.front g'.size g'.writer g'.identity i
    copied_on i y = record { at = y.at; stands = (y.stands.0, written_on publishing y.at y.stands.1); below = y.below; named = y.named }

    -- a field of the copy still leads to what the old record referred to
    still : (x : ℕ) (r : plain.Record) (i : Identity) → plain.record_of p.heap (g.identity c.to) ≡ Some r → is_field (g.kind c.from) (word_of_value (g.kind c.from) x) ≡ true → slice_get r.values x ≡ Some (Reference i)
        → StillLeads E g'.identity (heap' (c.to + word_of_value (g.kind c.from) x)) i
    still x r i of y refers =
        let w : value_of g.identity (m.heap (c.from + n)) ≡ Some (Reference i) = shown.fields x within y ∙ refers' in
        let a = pointer_from_value g.identity (m.heap (c.from + n)) i w in
        let z = old_target publishing n a.0 behind below y a.1 in
        record { at = a.0; points = ap decode (copied_value source.0 shown x within) ∙ a.1; old = (z.1, z.2); named = a.2 }
      where
        n : ℕ
        n = word_of_value (g.kind c.from) x

        shown : Shows (value_of g.identity) m.heap c.from (g.kind c.from) (g.size c.from) (source.0)
        shown = source.2

        refers' : slice_get source.0.values x ≡ Some (Reference i)
        refers' =
            let same : source.0 ≡ r = some_same (sym source.1 ∙ (ap (plain.record_of p.heap) (sym (twin publishing).5) ∙ of)) in
            ap (λ (o : plain.Record). slice_get o.values x) same ∙ refers

        within : x < length source.0.values
        within = slice_get_within source.0.values x (Reference i) refers'

        behind : 0 < n
        behind = (value_within source.0 shown x within).0

        below : n < c.size
        below = let v = value_within source.0 shown x within in omega (arith, v.1, old.3)

    pub copying : Copying E m.front g'.size g'.writer g'.copy g'.keeper g'.kind g'.identity heap' p
    copying = record {
      old = λ b st l n y. let z = cy.old b st l n (unkept b y) in (z.0, z.1, shows_unread (unread_word publishing) m.heap v g.identity b (g.kind b) (g.size b) z.0 (inv.older.written b st l n) refl z.2);
      sound = sound;
      reached = λ b st l n y. cy.reached b st l n (⊎_elim (λ z. inl z) (λ z. inr (let d : b ≢ c.from = (λ e. let u = put_at g.keeper c.from 0 b e in omega arith) in rw (put_other g.keeper c.from 0 b d) at z)) y);
      sizes = cy.sizes;
      complete = λ b x r i st w l u of f refers. ⊎_elim
          (λ (y : b ≡ c.to). inr (rw (y, (twin publishing).6) (still x r i (ap (λ z. plain.record_of p.heap (g.identity z)) (sym y) ∙ of) (rw (y, (twin publishing).6) at f) refers)))
          (λ (d : b ≢ c.to). ⊎_elim (λ y. inl (copied_on i y))
          (λ y. inr (rw (inner_same (unread_word publishing) m.heap v b (word_of_value (g.kind b) x) (was_written publishing b w d) (omega (arith, values_behind_header (g.kind b))) (copied_within cy b x r (Reference i) st l u of refers)) y))
          (cy.complete b x r i st (was_written publishing b w d) l u of f refers))
          (cases_eq b c.to);
      only = cy.only;
    }

    pub rooted : Rooted E m.front team.count g.size g.writer g.identity m.heap team.worker p → Rooted E m.front team.count g'.size g'.writer g'.identity heap' (put team.worker k w') p
    rooted r =
        let s = rooted_put team.worker k w' refl refl refl (λ _ _ a b. (a, b))
        (rooted_unread E m.gate m.traced m.front m.low m.old_front m.old_low m.old_owed g m.page m.cross m.announced m.heap k c.from 0 v (unread_word publishing) team.count team.worker p r) in
        record { roots = λ i y. ⊎_elim (λ z. inl (copied_on i z)) (λ z. inr z) (s.roots i y); sound = s.sound }

  preserves : Preserves E m (with_word m (c.from + 0) v) team (with_worker team k w') g g'
  preserves = record {
    invariant = invariant publishing;
    ages = λ page. omega arith;
    shown = λ p s. record {
      objects = objects p.heap s.objects;
      targets = shown_published publishing p.heap s.targets;
      board = board_unread (unread_word publishing) m.heap v g.identity p.heap s.board;
      as_many = s.as_many;
      makers = s.makers;
      accounts = λ j x e. accounts_put team.worker k w' refl j x (s.accounts j x e);
      registers = λ j x e. registers_put team.worker k w' refl j x (s.registers j x e);
    };
    cycle = λ p cy. record { copying = copying p cy.copying; rooted = rooted p cy.copying cy.rooted; made = made_put team.worker k w' refl cy.made };
  }

  pub copy_published : Preserves E m (with_word m c.from v) team (with_worker team k w') g g'
  copy_published = rw (add-zero c.from) at preserves

pub copy_published_by : (E : Era) (m : Memory) (team : Team) (g : Ghost) (k : ℕ) (c : Copy) (q : Quest) (v : ℕ) (l : Option Linking) → Ready E m team g k
    → (team.worker k).copy ≡ Some c → (team.worker k).quest ≡ Some q → c.reserved ≡ true → c.done ≡ c.size → c.to + c.size ≤ 64 * c.crossed
    → decode v ≡ ForwardWord (c.size - 1) c.to → LinksCopy c l
    → Preserves E m (with_word m c.from v) team (with_worker team k (has_published (team.worker k) c q l)) g (published g k c.from c.to)
copy_published_by E m team g k c q v l ready has asks res full crossed word cell =
    copy_published (record { ready = ready; has = has; asks = asks; res = res; full = full; crossed = crossed; word = word; cell = cell })
