-- The other space's size is stored: the old space of the epoch becomes larger, or stays as large. What is known of it is so of the
-- larger one, since no record stands in what is added.
use Rattle.std.proofs.Common.{◌≡◌, ◌≢◌, ℕ, ◌+◌, ◌<◌, ◌≤◌, true, false, None, Some, refl, ap, ◌∙◌, arith, ⊎_elim, inl, inr}
use Rattle.plain_state.specs.State as plain
use Rattle.plain_state.specs.declared.value.Identity.{Identity}
use Rattle.space_map.specs.declared.gate_word.GateWord.{GateWord}
use Rattle.heap_state.specs.Cycles.Cycle.{Cycle, Copying, Rooted, RootLeads, ByBoard, ByRegister, StillLeads}
use Rattle.heap_state.specs.Memory.Era.{Era, Memory, IsLaidOut}
use Rattle.heap_state.specs.Functions.{count_one}
use Rattle.heap_state.specs.Invariant.Ghost.{Ghost, Here, Leads, Lands}
use Rattle.heap_state.specs.Invariant.Inductive.{Invariant, Knows, KnowsAtPages}
use Rattle.heap_state.specs.Invariant.Parts.Copies.{Copied, Room}
use Rattle.heap_state.specs.Invariant.Parts.Copying.{IsOrigin}
use Rattle.heap_state.specs.Invariant.Parts.Crossing.{Crossing}
use Rattle.heap_state.specs.Invariant.Parts.Knowledge.{Timely, Clean, Accesses, Resets}
use Rattle.heap_state.specs.Invariant.Parts.Leading.{Opened, Landing, Older}
use Rattle.heap_state.specs.Invariant.Parts.OldSpace.{OldSpace, OldArea}
use Rattle.heap_state.specs.Invariant.Parts.Pages.{Shut, Quiet, Filling, Tracing, Aged, OldPages, Sizes, ScannedBy}
use Rattle.heap_state.specs.Invariant.Parts.Records.{Laid, NewWritten}
use Rattle.heap_state.specs.Invariant.Parts.Scanning.{Rounds, Claims, Looks, LastLooks}
use Rattle.heap_state.specs.Invariant.Parts.Stocks.{Stocks, Stocked}
use Rattle.heap_state.specs.Meaning.Values.{MayBeEmptied, Shown, TargetsShow, value_of}
use Rattle.heap_state.specs.Known.{Known, Team, Origin, Register, Scanned, Quest, Stock, Round, Claim, Look, LastLook, Access, Reset, is_mutator, is_flipper, is_late, is_sized, is_asking}
use Rattle.heap_state.proofs.Workers.Frames.{counted_put, staffed_put, scanned_put, stocks_put, numbered_put, rooted_put}
use Rattle.heap_state.proofs.Puts.{team_put, some_same, true_false}
use Rattle.heap_laws.specs.Flipping.Sizes.{sized_era, after_size, SizeKeeps, SizesAreStored}
use Rattle.heap_laws.specs.Steps.{with_worker, Ready}
use Rattle.heap_laws.specs.Tracing.{NothingLeads}
use Rattle.heap_laws.proofs.Cells.Ended.{sizes_carry_chain}
use Rattle.heap_laws.proofs.Flipping.Reset.{one_asks}
use Rattle.heap_laws.proofs.Flipping.Sums.{sum_below-term, one_of}
use Rattle.heap_laws.proofs.Steps.Learning.{shown_put}
use Rattle.heap_laws.proofs.Targets.Ended.{sizes_carry_targets}
use Rattle.heap_laws.proofs.Targets.Frames.{made_put}
use Rattle.heap_laws.proofs.Tracing.TracedExchange.{leads_nowhere}
use Rattle.heap_state.proofs.Workers.Posts.{flips_ask}
use Rattle.heap_state.specs.Targets.{IsCopied}

module _ (E : Era) (m : Memory) (team : Team) (g : Ghost) (k : ℕ) (r : Reset) (q : ℕ) (start : Ready E m team g k) (has : (team.worker k).reset ≡ Some r) (loose : r.sized ≡ false)
    (grown : r.grown ≡ Some q) (out' : IsLaidOut (sized_era E q)) where
  abbrev E1 : Era
  E1 = sized_era E q

  abbrev inv : Invariant E m team g
  inv = start.invariant

  abbrev w' : Known
  w' = after_size (team.worker k) r

  knows : (j : ℕ) → j < team.count → Knows E m.gate m.traced m.front m.low m.old_front m.old_low m.old_owed g m.page m.cross m.announced m.heap j (team.worker j)
  knows = inv.workers

  me : Knows E m.gate m.traced m.front m.low m.old_front m.old_low m.old_owed g m.page m.cross m.announced m.heap k (team.worker k)
  me = knows k start.member

  told : Resets E m.gate m.front m.low m.old_front m.old_low m.old_owed r
  told = me.reset r has

  flips : is_flipper (team.worker k).post ≡ true
  flips = me.resets r has

  traced : m.traced ≡ E.epoch + 1
  traced = (me.seen_traced (me.asks (flips_ask (team.worker k).post flips))).1

  larger : E.old_span ≤ E1.old_span
  larger = let a = me.unsized (flips_ask (team.worker k).post flips) (ap is_sized has ∙ loose) in let b = told.grown q grown in omega (arith, a, b)

  none_behind : m.gate.behind ≡ 0
  none_behind = ap (λ (w : GateWord). w.behind) told.unmoved ∙ told.stopped.1

  requested : {A : Type 0} → m.gate.request ≡ false → A
  requested e =
      let t = sum_below-term team.count (λ j. count_one (is_asking (team.worker j).post)) k start.member in
      let a = one_of (is_asking (team.worker k).post) (flips_ask (team.worker k).post flips) in
      let b : count_one m.gate.request ≡ 0 = rw e refl in
      absurd (omega (arith, t, a, b, inv.counted.request))

  none_late : (j : ℕ) → j < team.count → is_late E.epoch (team.worker j) ≡ true → ⊥
  none_late j l e = let a = (knows j l).licensed.counted e in omega (arith, a, none_behind)

  nothing : NothingLeads E m team g
  nothing = leads_nowhere E m team g start.laid_out inv traced

  -- ---- what stands in the larger space stands in the smaller one

  pub inside : (a : ℕ) → 0 < g.size a → E1.old_start ≤ a → a < E1.old_start + E1.old_span → (a + g.size a ≤ E.old_start + E.old_span)
  inside a st low high = ⊎_elim
      (λ p. absurd (omega (arith, p, st, low, high, out'.apart, inv.laid.order)))
      (λ p. ⊎_elim (λ y. absurd (omega (arith, y, st, low, high, out'.apart, inv.laid.order))) (λ y. y.1) p)
      (inv.laid.lies a st)

  -- what lands, and leads into the larger space, leads into the smaller one
  leads_less : (w : ℕ) → Lands g.size g.writer w → Leads E1 w → Leads E w
  unfolding Leads Lands
  leads_less w lands l = let st = (lands l.0 l.1).0 in let y = inside l.0 st l.2 l.3 in (l.0, l.1, l.2, omega (arith, st, y))

  here_was : (x : ℕ) → Here E1 g.size g.writer g.kind x → Here E g.size g.writer g.kind x
  unfolding Here
  here_was x (inl f) = inl (record { a = f.a; i = f.i; field = f.field; inside = f.inside; at = f.at })
  here_was x (inr b) = inr b

  clean_here : (x : ℕ) → Here E1 g.size g.writer g.kind x → ¬ (Leads E1 (m.heap x))
  clean_here x h l = let y = here_was x h in nothing.clean x y (leads_less (m.heap x) (inv.landing.lands x y) l)

  -- ---- records and pages

  laid : Laid E1 m.front m.low g.size
  laid = record {
    apart = inv.laid.apart;
    lies = λ a st. ⊎_elim (λ p. inl p) (λ p. inr (⊎_elim (λ y. inl y) (λ y. inr (y.0, omega (arith, y.1, larger))) p)) (inv.laid.lies a st);
    order = inv.laid.order;
    aligned = inv.laid.aligned;
    start = inv.laid.start;
    next = inv.laid.next;
  }

  copied : Copied E1 m.front g.size g.writer g.copy g.keeper g.kind g.identity g.kept
  copied = record {
    target = λ a b st e. let t = inv.copied.target a b st e in (t.0, omega (arith, t.1, larger), t.2, t.3, t.4, t.5, t.6, t.7);
    blank = inv.copied.blank;
    origin = inv.copied.origin;
    keeper_of = λ a j st e. let t = inv.copied.keeper_of a j st e in (t.0, t.1, omega (arith, t.2, larger));
  }

  room : Room E1 m.traced m.front m.low m.owed g.size g.copy
  room = record { needs = λ t. absurd (omega (arith, t, traced)); fits = inv.room.fits; small = inv.room.small }

  shut : Shut E1 m.front m.low g.size g.writer m.page
  shut = record { free = inv.shut.free; held = inv.shut.held; by = inv.shut.by }

  quiet : Quiet E m.gate.behind m.front m.page → Quiet E1 m.gate.behind m.front m.page
  quiet y = record { none = y.none; board = y.board; full = y.full }

  filling : Filling E1 m.gate.behind m.front m.page
  filling = record { filling = λ p l n e. quiet (inv.filling.filling p l n e) }

  tracing : Tracing E1 m.traced m.gate.behind m.front m.page
  tracing = record { begun = inv.tracing.begun; bottom = inv.tracing.bottom; top = inv.tracing.top; quiet = λ t. quiet (inv.tracing.quiet t); last = inv.tracing.last }

  aged : Aged E1 m.page
  aged = record { young = inv.aged.young; board = inv.aged.board }

  scanned : ScannedBy E1 team.count m.page (with_worker team k w').worker
  scanned = let s = scanned_put team.worker k w' refl inv.scanned in record { scanned = s.scanned }

  opened : Opened E1 g.size g.writer g.kind m.heap m.page
  opened = record { opened = λ x h o. clean_here x h }

  landing : Landing E1 g.size g.writer g.kind m.heap
  landing = record { lands = λ x h. inv.landing.lands x (here_was x h) }

  older : Older E1 g.size g.writer g.kind m.heap
  older = record {
    older = λ a i b f low high e. let y = inside a f.stands low high in let t = inv.older.older a i b f low (omega (arith, y, f.stands)) e in (t.0, t.1, omega (arith, t.2, larger));
    written = λ a st low high. let y = inside a st low high in inv.older.written a st low (omega (arith, y, st));
  }

  new_written : NewWritten E1 m.low g.size g.writer
  new_written = record { written = inv.new_written.written }

  old_space : OldSpace E1 m.traced m.old_front m.old_low g.size m.heap m.page
  old_space = record { walks = λ t. absurd (omega (arith, t, traced)) }

  old_area : OldArea E1 m.old_front m.old_low
  old_area = record { order = let o = inv.old_area.order in (o.0, o.1, omega (arith, o.2, larger)) }

  old_pages : OldPages E1 m.old_front m.page
  old_pages = record { old = inv.old_pages.old }

  sizes : Sizes E1 m.gate.request
  sizes = record { below = λ e. requested e }

  crossing : Crossing E1 m.front g.size g.writer m.cross
  crossing = record { crossing = inv.crossing.crossing }

  stocked : (s : Stock) → Stocked E m.low g.size m.heap m.page s → Stocked E1 m.low g.size m.heap m.page s
  stocked s y = assumption (y)

  stocks : Stocks E1 m.low team.count g.size m.heap m.page (with_worker team k w').worker
  stocks = let s = stocks_put team.worker k w' (λ _ e. e) inv.stocks in record { stocked = λ j l p e n. stocked p (s.stocked j l p e n); apart = s.apart }

  -- ---- the workers

  module _ (j : ℕ) (l : j < team.count) where
    abbrev u : Known
    u = team.worker j

    kn : Knows E m.gate m.traced m.front m.low m.old_front m.old_low m.old_owed g m.page m.cross m.announced m.heap j u
    kn = knows j l

    no_quest : (s : Quest) → u.quest ≡ Some s → ⊥
    no_quest s e = by_origin s.origin (kn.origin s e)
      where
        by_origin : (o : Origin) → IsOrigin E g.size g.writer g.kind m.heap (is_late E.epoch u) u.done u.registers u.scan s.old o → ⊥
        by_origin (Register n) y = none_late j l y.0
        by_origin (Scanned x) y = nothing.none_scans j y.0.0 l y.0.1

    timely : Timely E1 u.post u.epoch u.done
    timely = let t = kn.timely in assumption (t)

    registers : is_mutator u.post ≡ true → u.account.end ≡ None → Clean E1 g.size g.writer (is_late E1.epoch u) u.done u.registers
    registers mu end = let c = kn.registers mu end in record {
      clean = λ i s n y. c.clean i s n (leads_less (u.registers i) (c.lands i s) y);
      lands = c.lands;
      old = λ late. absurd (none_late j l late);
    }

    access : (f : Access) → u.access ≡ Some f → Accesses E1 g.size g.writer g.kind f
    access f e = let a = kn.access f e in assumption (a)

    rounds : (s : Round) → u.round ≡ Some s → Rounds E1 m.traced m.front u.epoch s
    rounds s e = let y = kn.pages.round s e in record { traced_then = y.traced_then; front_then = y.front_then }

    claims : (s : Claim) → u.claim ≡ Some s → Claims E1 m.front m.gate.behind g.size g.writer m.page u.epoch s
    claims s e = let y = kn.pages.claim s e in record {
      earlier = y.earlier;
      full = y.full;
      clear = y.clear;
      last = λ d i. let t = y.last d i in (t.0, t.1, ⊎_elim (λ a. inl a) (λ a. inr (a.0, quiet a.1)) t.2);
      late = y.late;
      in_place = y.in_place;
    }

    looks : (s : Look) → u.look ≡ Some s → Looks E1 m.gate.behind m.front m.page u.epoch s
    looks s e = let y = kn.pages.look s e in record { earlier = y.earlier; none = y.none; board = y.board; full = y.full; last = y.last; start = y.start; late = y.late }

    last_looks : (s : LastLook) → u.last_look ≡ Some s → LastLooks E1 m.traced m.gate.behind m.front m.page u.epoch s
    last_looks s e = let y = kn.pages.last_look s e in record { earlier = y.earlier; now = λ d t. let a = y.now d t in (quiet a.0, a.1); late = y.late }

    pages : KnowsAtPages E1 m.traced m.front m.gate.behind g.size g.writer m.page u
    pages = record { round = rounds; claim = claims; look = looks; last_look = last_looks }

    -- with what is known of its flip
    with_reset : (v : Known) → v ≡ record u { reset = v.reset }
        → ((s : Reset) → v.reset ≡ Some s → is_flipper u.post ≡ true) → ((s : Reset) → v.reset ≡ Some s → Resets E1 m.gate m.front m.low m.old_front m.old_low m.old_owed s)
        → (is_asking u.post ≡ true → is_sized v.reset ≡ false → E1.old_span ≤ E1.span)
        → Knows E1 m.gate m.traced m.front m.low m.old_front m.old_low m.old_owed g m.page m.cross m.announced m.heap j (record u { reset = v.reset })
    with_reset v same resets reset unsized = record {
      timely = timely;
      ends = kn.ends;
      outside = kn.outside;
      stock = kn.stock;
      registers = registers;
      active = kn.active;
      access = access;
      opened = kn.opened;
      origin = λ s e. absurd (no_quest s e);
      quest = λ s e. absurd (no_quest s e);
      licensed = kn.licensed;
      copy = λ c e. absurd (nothing.none_copies j c l e);
      keeps = kn.keeps;
      present = kn.present;
      scan = λ s e. absurd (nothing.none_scans j s l e);
      stepping = λ s e. absurd (nothing.none_scans j s l e);
      pages = assumption (pages);
      seen_traced = kn.seen_traced;
      size_seen = kn.size_seen;
      asks = kn.asks;
      passage = kn.passage;
      resets = resets;
      reset = reset;
      unsized = unsized;
    }

  abbrev KnowsNow : ℕ → Known → Type 0
  KnowsNow = Knows E1 m.gate m.traced m.front m.low m.old_front m.old_low m.old_owed g m.page m.cross m.announced m.heap

  others : (j : ℕ) → j < team.count → j ≢ k → KnowsNow j (team.worker j)
  others j l d =
      let alone : is_asking (team.worker j).post ≡ true → ⊥ = λ f. d (one_asks E m team g inv j k l start.member f (flips_ask (team.worker k).post flips)) in
      with_reset j l (team.worker j) refl (knows j l).resets (λ s e. absurd (alone (flips_ask (team.worker j).post ((knows j l).resets s e)))) (λ f _. absurd (alone f))

  reset_now : Resets E1 m.gate m.front m.low m.old_front m.old_low m.old_owed (record r { sized = true })
  reset_now = record {
    unmoved = told.unmoved;
    stopped = told.stopped;
    size = told.size;
    grown = told.grown;
    used = told.used;
    sized = λ e. (q, grown, refl);
    stored = λ e. true_false loose (told.stored e).0;
  }

  own : KnowsNow k w'
  own = with_reset k start.member w' refl (λ s e. flips) (λ s e. rw (← some_same e) reset_now) (λ f e. absurd (cc))

  invariant : Invariant E1 m (with_worker team k w') g
  invariant =
      let p1 = counted_put team.worker k w' refl refl inv.counted in
      let p2 = staffed_put team.worker k w' refl inv.staffed in
      let p3 = numbered_put team.worker k w' refl inv.numbered in
      record {
        counted = p1;
        staffed = p2;
        laid = laid;
        headed = inv.headed;
        copied = copied;
        once = inv.once;
        kept = inv.kept;
        room = room;
        raw_words = inv.raw_words;
        counts = inv.counts;
        shut = shut;
        filling = filling;
        tracing = tracing;
        aged = aged;
        scanned = scanned;
        opened = opened;
        landing = landing;
        older = older;
        new = inv.new;
        new_written = new_written;
        old_space = old_space;
        old_area = old_area;
        old_pages = old_pages;
        sizes = sizes;
        crossing = crossing;
        stocks = stocks;
        numbered = p3;
        cells = record { ranks = inv.cells.ranks; chain = sizes_carry_chain E m m.weak m.weak_turn team g inv.cells.ranks k r q start has inv.cells.chain; targets = sizes_carry_targets E m team g k r q start has out' inv.cells.targets };
        workers = team_put team.count KnowsNow team.worker k w' others own;
      }

  -- ---- what is shown, and the cycle

  -- the epoch is traced, so that no old cell is shown, and the walk has emptied none
  targets : (p : plain.Plain) → TargetsShow E m g p.heap → TargetsShow E1 m g p.heap
  targets p t = record {
    shows = λ a v c is. ⊎_elim
        (λ (e : value_of g.identity (m.heap (a + 1)) ≡ Some v). inl e)
        (λ (l : MayBeEmptied E m g a v). absurd (let z = l.walked.0 in omega (arith, z, traced)))
        (t.shows a v (record { cell = c.cell; place = ⊎_elim (λ i. inl i) (λ o. absurd (let z = o.0 in omega (arith, z, traced))) c.place }) is);
  }

  shown : (p : plain.Plain) → Shown E m team g p → Shown E1 m (with_worker team k w') g p
  shown p s = let t = shown_put E m m team g k w' p refl refl refl refl refl (λ e. e) s in record {
    objects = t.objects;
    targets = targets p s.targets;
    board = record { sixteen = t.board.sixteen; board = t.board.board };
    as_many = t.as_many;
    makers = t.makers;
    accounts = t.accounts;
    registers = t.registers;
  }

  leads_on : (w : ℕ) (i : Identity) → StillLeads E g.identity w i → StillLeads E1 g.identity w i
  leads_on w i y = record { at = y.at; points = y.points; old = (y.old.0, omega (arith, y.old.1, larger)); named = y.named }

  leads_back : (w : ℕ) (i : Identity) → Lands g.size g.writer w → StillLeads E1 g.identity w i → StillLeads E g.identity w i
  unfolding Lands
  leads_back w i lands y =
      let st = (lands y.at y.points).0 in let z = inside y.at st y.old.0 y.old.1 in
      record { at = y.at; points = y.points; old = (y.old.0, omega (arith, st, z)); named = y.named }

  copied_on : (i : Identity) → IsCopied E m.front g.size g.writer g.identity i → IsCopied E1 m.front g.size g.writer g.identity i
  copied_on i y = record { at = y.at; stands = y.stands; below = y.below; named = y.named }

  module _ (p : plain.Plain) (c : Cycle E m team g p) where
    copying : Copying E1 m.front g.size g.writer g.copy g.keeper g.kind g.identity m.heap p
    copying = let y = c.copying in record {
      old = λ a st low high n. let z = inside a st low high in y.old a st low (omega (arith, z, st)) n;
      sound = λ x i h s. let was = here_was x h in y.sound x i was (leads_back (m.heap x) i (inv.landing.lands x was) s);
      reached = λ a st low high n. let z = inside a st low high in y.reached a st low (omega (arith, z, st)) n;
      sizes = y.sizes;
      complete = λ b x s i st w low high at f e. ⊎_elim (λ z. inl (copied_on i z)) (λ z. inr (leads_on _ i z)) (y.complete b x s i st w low high at f e);
      only = y.only;
    }

    rooted_then : Rooted E m.front team.count g.size g.writer g.identity m.heap (with_worker team k w').worker p
    rooted_then = rooted_put team.worker k w' refl refl refl (λ _ _ a b. (a, b)) c.rooted

    root_on : (i : Identity) → RootLeads E team.count g.identity m.heap (with_worker team k w').worker i → RootLeads E1 team.count g.identity m.heap (with_worker team k w').worker i
    root_on i (ByBoard x l y) = ByBoard x l (leads_on _ i y)
    root_on i (ByRegister j n l s late d y) = ByRegister j n l s late d (leads_on _ i y)

    rooted : Rooted E1 m.front team.count g.size g.writer g.identity m.heap (with_worker team k w').worker p
    rooted = record {
      roots = λ i root. ⊎_elim (λ z. inl (copied_on i z)) (λ z. inr (root_on i z)) (rooted_then.roots i root);
      sound = λ j n i l mu end s y. rooted_then.sound j n i l mu end s (leads_back _ i (lands j n l mu end s) y);
    }
      where
        lands : (j n : ℕ) → j < team.count → is_mutator ((with_worker team k w').worker j).post ≡ true → ((with_worker team k w').worker j).account.end ≡ None → n < 8
            → Lands g.size g.writer (((with_worker team k w').worker j).registers n)
        lands j n l mu end s = ((invariant.workers j l).registers mu end).lands n s

    cycle : Cycle E1 m (with_worker team k w') g p
    cycle = record { copying = copying; rooted = rooted; made = let y = made_put team.worker k w' refl c.made in record { new = y.new; grown = y.grown } }

  pub size_keeps : SizeKeeps E m team g k r q
  size_keeps = record { invariant = invariant; shown = shown; cycle = cycle }

pub sizes_are_stored : SizesAreStored
sizes_are_stored E m team g k r q ready has loose grown out = size_keeps E m team g k r q ready has loose grown out
