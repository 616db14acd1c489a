-- What a reserved place leaves shown, and what the cycle keeps of it.
use Rattle.std.proofs.Common.{◌≡◌, ◌≢◌, ℕ, ◌+◌, ◌-◌, ◌<◌, ◌≤◌, true, refl, ap, ◌∙◌, arith, Some, None, ⊎_elim, ◌⊎◌, inl, inr, slice_get, ◌/◌, false}
use Rattle.std.specs.Prelude.{slice_get}
use Rattle.std.proofs.lemmas.Bool.{cases_eq, lt-ltb}
use Rattle.std.proofs.lemmas.Option.{slice_get_within}
use Rattle.plain_state.specs.State as plain
use Rattle.plain_state.specs.declared.value.Identity.{Identity}
use Rattle.plain_state.specs.declared.value.Value.TheVariants.{Reference}
use Rattle.plain_state.specs.Layout.{is_field, word_of_value, size_of}
use Rattle.space_map.specs.declared.area_word.AreaWord.{AreaWord}
use Rattle.heap_state.specs.Cycles.Cycle.{Copying, MadeSince, Rooted, StillLeads, RootLeads, ByBoard, ByRegister}
use Rattle.heap_state.specs.Memory.Era.{Era, Memory}
use Rattle.heap_state.specs.Functions.{put}
use Rattle.heap_state.specs.Invariant.Ghost.{Ghost, Here, IsField, Lands}
use Rattle.heap_state.specs.Invariant.Inductive.{Invariant, Knows}
use Rattle.heap_state.specs.Meaning.Values.{Shown, ShowsAll, Shows, RegistersShow, value_of}
use Rattle.heap_state.specs.Known.{Team, Copy, is_mutator}
use Rattle.heap_state.proofs.Workers.Frames.{accounts_put, registers_put, rooted_put}
use Rattle.heap_state.proofs.Puts.{put_at, put_other}
use Rattle.heap_state.proofs.Records.Layouts.{value_within}
use Rattle.heap_state.specs.Targets.{IsCopied}
use Rattle.heap_laws.specs.Copying.{reserved, copying as in_progress}
use Rattle.heap_laws.specs.Steps.{with_worker, with_area, Preserves, Ready, IsAreaNow}
use Rattle.heap_laws.proofs.Copying.Reservation.{not_new, was, is, was_written, written_on, here_back, old_side, value_reserved}
use Rattle.heap_laws.proofs.Copying.Reserving.{Reserving, w', g', mine, reservation, invariant}
use Rattle.heap_laws.proofs.Targets.Frames.{made_put}
use Rattle.heap_laws.proofs.Targets.ShownCopies.{copying_empties_nothing, shown_reserved}

module _ {E : Era} {m : Memory} {team : Team} {g : Ghost} {k : ℕ} {c : Copy} (reserving : Reserving E m team g k c) where
  abbrev inv : Invariant E m team g
  inv = reserving.ready.invariant

  abbrev after : Ghost
  after = g' reserving

  knows : (j : ℕ) → j < team.count → Knows E m.gate m.traced m.front m.low m.old_front m.old_low m.old_owed g m.page m.cross m.announced m.heap j (team.worker j)
  knows = inv.workers

  -- ---- words that lead to records

  -- a record lies in the old space or in the epoch's
  side : (b : ℕ) → 0 < g.size b → ((E.old_start ≤ b) × (b < E.old_start + E.old_span)) ⊎ ((E.start ≤ b) × (b < E.start + E.span))
  side b st = ⊎_elim (λ y. inr (y.0, omega (arith, y, inv.laid.order, st))) (λ z. ⊎_elim (λ y. inr (omega (arith, y, inv.laid.order), omega (arith, y, st))) (λ y. inl (y.0, omega (arith, y, st))) z) (inv.laid.lies b st)

  field_lands : (b i : ℕ) → IsField g.size g.writer g.kind b i → Lands g.size g.writer (m.heap (b + i))
  unfolding Here Lands
  field_lands b i f = ⊎_elim
      (λ (y : (E.old_start ≤ b) × (b < E.old_start + E.old_span)). λ x e. let q = inv.older.older b i x f y.0 y.1 e in (q.0, inv.older.written x q.0 q.1 q.2))
      (λ (y : (E.start ≤ b) × (b < E.start + E.span)). inv.landing.lands (b + i) (inl (record { a = b; i = i; field = f; inside = y; at = refl })))
      (side b f.stands)

  board_lands : (x : ℕ) → x < 16 → Lands g.size g.writer (m.heap (E.board + x))
  unfolding Here
  board_lands x l = inv.landing.lands (E.board + x) (inr (omega arith, omega arith))

  late_lands : (j r : ℕ) → j < team.count → is_mutator (team.worker j).post ≡ true → (team.worker j).account.end ≡ None → r < 8 → Lands g.size g.writer ((team.worker j).registers r)
  late_lands j r l mutator unended b = ((knows j l).registers mutator unended).lands r b

  -- ---- what is shown

  uncopied : (b : ℕ) → (after.copy b ≡ 0) ⊎ (0 < g.keeper b) → (g.copy b ≡ 0) ⊎ (0 < g.keeper b)
  uncopied b y = ⊎_elim (λ (z : after.copy b ≡ 0). inl (let d : b ≢ c.from = (λ e. let q = put_at g.copy c.from (c.to + 1) b e in omega (arith, q, z)) in rw (put_other g.copy c.from (c.to + 1) b d) at z)) (λ z. inr z) y

  -- an old record or one that was there shows what it showed
  shows_on : (b : ℕ) (r : plain.Record) → 0 < g.size b → g.writer b ≡ 0 → Shows (value_of g.identity) m.heap b (g.kind b) (g.size b) r → Shows (value_of after.identity) m.heap b (g.kind b) (g.size b) r
  shows_on b r st w p = record {
    kind = p.kind;
    size = p.size;
    numbers = p.numbers;
    count = p.count;
    fields = λ x l y.
        let v = value_within r p x l in
        let i = word_of_value (g.kind b) x in
        value_reserved (reservation reserving) (m.heap (b + i)) (field_lands b i (record { stands = st; written = w; field = y; first = v.0; last = v.1 })) ∙ p.fields x l y;
  }

  -- it has the identity, kind and size that it had
  same_record : (records : plain.Heap) (b : ℕ) → b ≢ c.to → 0 < g.size b → g.writer b ≡ 0
      → (r : plain.Record) × (plain.record_of records (g.identity b) ≡ Some r) × Shows (value_of g.identity) m.heap b (g.kind b) (g.size b) r
      → (r : plain.Record) × (plain.record_of records (after.identity b) ≡ Some r) × Shows (value_of after.identity) m.heap b (after.kind b) (after.size b) r
  same_record records b d st w o =
      rw (put_other g.identity c.to (g.identity c.from) b d, put_other g.kind c.to (g.kind c.from) b d, put_other g.size c.to c.size b d) (o.0, o.1, shows_on b o.0 st w o.2)

  objects : (records : plain.Heap) → ShowsAll g.size g.writer g.copy g.keeper g.kind g.identity m.heap records → ShowsAll after.size after.writer after.copy after.keeper after.kind after.identity m.heap records
  objects records p = record {
    shows = λ b st w y.
        let d : b ≢ c.to = (λ e. let q = put_at g.writer c.to (k + 1) b e in omega (arith, q, w)) in
        let st' = was (reservation reserving) b d st in
        let w' = was_written (reservation reserving) b w in
        same_record records b d st' w' (p.shows b st' w' (uncopied b y));
  }

  shown : (p : plain.Plain) → Shown E m team g p → Shown E (with_area m (c.to + c.size) m.low (m.owed - c.size)) (with_worker team k (w' reserving)) after p
  shown p s = record {
    objects = objects p.heap s.objects;
    targets = shown_reserved (reservation reserving) m.low (m.owed - c.size) (copying_empties_nothing reserving.ready c reserving.has) inv.older inv.cells.targets p.heap s.targets;
    board = record { sixteen = s.board.sixteen; board = λ x l. value_reserved (reservation reserving) (m.heap (E.board + x)) (board_lands x l) ∙ s.board.board x l };
    as_many = s.as_many;
    makers = s.makers;
    accounts = λ j q e. accounts_put team.worker k (w' reserving) refl j q (s.accounts j q e);
    registers = λ j q e. registers_put team.worker k (w' reserving) refl j q (registers j q e);
  }
    where
      registers : (j : ℕ) (q : plain.Mutator) → slice_get p.mutators j ≡ Some q → RegistersShow (value_of after.identity) (team.worker j).registers q
      registers j q e =
          let r = s.registers j q e in
          let within = slice_get_within p.mutators j q e in
          let few : j < team.mutators = omega (arith, within, s.as_many) in
          let staffed = inv.staffed.few in
          let l : j < team.count = omega (arith, few, staffed) in
          record {
            eight = r.eight;
            registers_show = λ n i b. value_reserved (reservation reserving) ((team.worker j).registers i) (late_lands j i l (inv.staffed.posts j l ∙ lt-ltb j team.mutators few) ((s.accounts j q e).end ∙ n) b) ∙ r.registers_show n i b;
          }

  -- ---- what the cycle keeps

  leads_back : (w : ℕ) (i : Identity) → StillLeads E after.identity w i → StillLeads E g.identity w i
  leads_back w i t = record { at = t.at; points = t.points; old = t.old; named = rw (put_other g.identity c.to (g.identity c.from) (t.at) (old_side (reservation reserving) t.at t.old.0 t.old.1)) at (t.named) }

  leads_on : (w : ℕ) (i : Identity) → StillLeads E g.identity w i → StillLeads E after.identity w i
  leads_on w i t = record { at = t.at; points = t.points; old = t.old; named = rw (put_other g.identity c.to (g.identity c.from) (t.at) (old_side (reservation reserving) t.at t.old.0 t.old.1)) (t.named) }

  copied_on : (i : Identity) → IsCopied E m.front g.size g.writer g.identity i → IsCopied E (c.to + c.size) after.size after.writer after.identity i
  copied_on i y = let d = not_new (reservation reserving) y.at y.stands.0 in record {
    at = y.at;
    stands = (is (reservation reserving) y.at y.stands.0, written_on (reservation reserving) y.at y.stands.0 y.stands.1);
    below = (y.below.0, let f = reserving.at_front in let b = y.below.1 in omega (arith, f, b));
    named = rw (put_other g.identity c.to (g.identity c.from) (y.at) d) (y.named);
  }

  -- a copy that was there before lies below FRONT as it was
  below_front : (b : ℕ) → b ≢ c.to → 0 < g.size b → E.start ≤ b → b < c.to + c.size → b < m.front
  below_front b d st s l =
      let y = inv.laid.lies b st in let o = inv.laid.order in let a = reserving.ready.laid_out.apart in let r = (reservation reserving).room in let f = reserving.at_front in
      omega (arith, y, o, a, r, f, st, s, l, d)

  module _ (p : plain.Plain) (cy : Copying E m.front g.size g.writer g.copy g.keeper g.kind g.identity m.heap p) where
    from_old : (0 < g.size c.from) × (E.old_start ≤ c.from) × (c.from < E.old_start + E.old_span) × (0 < g.keeper c.from)
    from_old = let o = (mine reserving).old in (omega (arith, o), omega (arith, o), omega (arith, o), omega (arith, o))

    new_size : (r : plain.Record) × (plain.record_of p.heap (g.identity c.from) ≡ Some r) × (size_of r ≡ c.size) × (r.kind ≡ g.kind c.from)
    new_size =
        let o = cy.old c.from from_old.0 from_old.1 from_old.2 (inr from_old.3) in
        let s : Shows (value_of g.identity) m.heap c.from (g.kind c.from) (g.size c.from) (o.0) = o.2 in
        (o.0, o.1, s.size ∙ (mine reserving).old.1, s.kind)

    complete : (b x : ℕ) (r : plain.Record) (i : Identity) → b ≢ c.to → 0 < g.size b → g.writer b ≡ 0 → E.start ≤ b → b < c.to + c.size
        → plain.record_of p.heap (g.identity b) ≡ Some r → is_field (g.kind b) (word_of_value (g.kind b) x) ≡ true → slice_get r.values x ≡ Some (Reference i)
        → IsCopied E (c.to + c.size) after.size after.writer after.identity i ⊎ StillLeads E after.identity (m.heap (b + word_of_value (g.kind b) x)) i
    complete b x r i d st w s l of f refers = ⊎_elim (λ y. inl (copied_on i y))
        (λ (y : StillLeads E g.identity (m.heap (b + word_of_value (g.kind b) x)) i). inr (leads_on (m.heap (b + word_of_value (g.kind b) x)) i y))
        (cy.complete b x r i st w s (below_front b d st s l) of f refers)

    copying : Copying E (c.to + c.size) after.size after.writer after.copy after.keeper after.kind after.identity m.heap p
    copying = record {
      old = λ b st l n y. let d = old_side (reservation reserving) b l n in let st' = was (reservation reserving) b d st in
          same_record p.heap b d st' (inv.older.written b st' l n) (cy.old b st' l n (uncopied b y));
      sound = λ x i u t. cy.sound x i (here_back (reservation reserving) x u) (leads_back (m.heap x) i t);
      reached = λ b st l n y. let d = old_side (reservation reserving) b l n in rw (put_other g.identity c.to (g.identity c.from) b d) (⊎_elim
          (λ (e : b ≡ c.from). cy.reached b (was (reservation reserving) b d st) l n (inr (let z : g.keeper b ≡ g.keeper c.from = ap g.keeper e in let o = from_old.3 in omega (arith, z, o))))
          (λ (e : b ≢ c.from). cy.reached b (was (reservation reserving) b d st) l n (⊎_elim (λ z. inl (rw (put_other g.copy c.from (c.to + 1) b e) at z)) (λ z. inr z) y))
          (cases_eq b c.from));
      sizes = λ b st l n. ⊎_elim
          (λ (e : b ≡ c.to). rw (put_at g.identity c.to (g.identity c.from) b e, put_at g.kind c.to (g.kind c.from) b e, put_at g.size c.to c.size b e) new_size)
          (λ (d : b ≢ c.to). let st' = was (reservation reserving) b d st in
          rw (put_other g.identity c.to (g.identity c.from) b d, put_other g.kind c.to (g.kind c.from) b d, put_other g.size c.to c.size b d) (cy.sizes b st' l (below_front b d st' l n)))
          (cases_eq b c.to);
      complete = λ b x r i st w s l of f refers.
          let d : b ≢ c.to = (λ e. let z = put_at g.writer c.to (k + 1) b e in omega (arith, z, w)) in
          let kind = put_other g.kind c.to (g.kind c.from) b d in
          rw kind (complete b x r i d (was (reservation reserving) b d st) (was_written (reservation reserving) b w) s l (rw (put_other g.identity c.to (g.identity c.from) b d) at of) (rw kind at f) refers);
      only = λ b st l n. ⊎_elim
          (λ (e : b ≡ c.to). rw (put_at g.identity c.to (g.identity c.from) b e) (cy.reached c.from from_old.0 from_old.1 from_old.2 (inr from_old.3)))
          (λ (d : b ≢ c.to). let st' = was (reservation reserving) b d st in rw (put_other g.identity c.to (g.identity c.from) b d) (cy.only b st' l (below_front b d st' l n)))
          (cases_eq b c.to);
    }

  rooted : (p : plain.Plain) → Rooted E m.front team.count g.size g.writer g.identity m.heap team.worker p
      → Rooted E (c.to + c.size) team.count after.size after.writer after.identity m.heap (put team.worker k (w' reserving)) p
  rooted p r = rooted_put team.worker k (w' reserving) refl refl refl (λ _ _ a b. (a, b)) (record {
    roots = λ i y. ⊎_elim (λ z. inl (copied_on i z)) (λ z. inr (leads i z)) (r.roots i y);
    sound = λ j x i l mutator unended b t. r.sound j x i l mutator unended b (leads_back ((team.worker j).registers x) i t);
  })
    where
      leads : (i : Identity) → RootLeads E team.count g.identity m.heap team.worker i → RootLeads E team.count after.identity m.heap team.worker i
      leads i (ByBoard x l s) = ByBoard x l (leads_on (m.heap (E.board + x)) i s)
      leads i (ByRegister j x l n d e s) = ByRegister j x l n d e (leads_on ((team.worker j).registers x) i s)

  made : (p : plain.Plain) → MadeSince E m.low team.mutators g.size g.identity team.worker p → MadeSince E m.low team.mutators after.size after.identity (put team.worker k (w' reserving)) p
  made p s = made_put team.worker k (w' reserving) refl (record {
    new = λ a st low up.
        let r = (reservation reserving).room in
        let y = (reservation reserving).some in
        let d : a ≢ c.to = λ e. omega (arith, e, r, y, low) in
        rw (put_other g.identity c.to (g.identity c.from) a d) (s.new a (was (reservation reserving) a d st) low up);
    grown = s.grown;
  })

  pub preserves : Preserves E m (with_area m (c.to + c.size) m.low (m.owed - c.size)) team (with_worker team k (w' reserving)) g after
  preserves = record { invariant = invariant reserving; ages = λ page. omega arith; shown = shown; cycle = λ p cy. record { copying = copying p cy.copying; rooted = rooted p cy.rooted; made = made p cy.made } }

pub place_reserved : (E : Era) (m : Memory) (team : Team) (g : Ghost) (k : ℕ) (c : Copy) (area : AreaWord) → Ready E m team g k
    → (team.worker k).copy ≡ Some c → c.announced ≡ true → c.reserved ≡ false → c.to ≡ m.front → IsAreaNow E m area
    → Preserves E m (with_area m (c.to + c.size) m.low (m.owed - c.size)) team
    (with_worker team k (in_progress (team.worker k) (record c { reserved = true; crossed = (c.to + 63) / 64 }))) g (reserved g k c.from c.to c.size)
place_reserved E m team g k c area ready has ann loose at_front now = preserves (record { ready = ready; has = has; ann = ann; loose = loose; at_front = at_front; area = area; now = now })
