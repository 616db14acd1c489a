-- The flip: the gate is exchanged, the same plain state is shown, and a cycle begins.
use Rattle.std.proofs.Common.{◌≡◌, ◌≢◌, ℕ, zero, suc, List, [], ◌∷◌, ◌+◌, ◌-◌, ◌<◌, Bool, true, false, length, Option, Some, None, is_some, refl, sym, ap, ◌∙◌, arith, ⊎_elim, inl, inr}
use Rattle.std.specs.Prelude.{slice_get}
use Rattle.std.proofs.lemmas.Bool.{cases_Bool, lt-ltb, ltb-true}
use Rattle.std.proofs.lemmas.Option.{slice_get_within}
use Rattle.plain_state.specs.declared.value.Identity.{Identity}
use Rattle.plain_state.specs.declared.value.Value.{Value}
use Rattle.plain_state.specs.declared.value.Value.TheVariants.{Reference}
use Rattle.plain_state.specs.Reachable.{Reachable, FromRegister, FromBoard}
use Rattle.plain_state.specs.State as plain
use Rattle.space_map.specs.declared.gate_word.GateWord.{GateWord}
use Rattle.heap_state.specs.Cells.{no_ranks}
use Rattle.heap_state.specs.Cycles.Cycle.{Cycle, Copying, MadeSince, Rooted, RootLeads, ByBoard, ByRegister, IsRoot, InRegister, OnTheBoard, StillLeads}
use Rattle.heap_state.specs.Memory.Era.{Era, Memory, IsLaidOut, era_of, memory_of}
use Rattle.heap_state.specs.Functions.{put, sum_below, count_one}
use Rattle.heap_state.specs.Invariant.Ghost.{Ghost, Here, OnBoard, Lands, Leads}
use Rattle.heap_state.specs.Invariant.Inductive.{Invariant, Knows}
use Rattle.heap_state.specs.Invariant.Parts.Gate.{Counted, Staffed}
use Rattle.heap_state.specs.Invariant.Parts.Stocks.{Stocks, Numbered}
use Rattle.heap_state.specs.Memory.Table.{Table}
use Rattle.heap_state.specs.Meaning.Values.{MayBeEmptied, Shown, TargetsShow, value_of}
use Rattle.heap_state.specs.Known.{Known, Team, Post, Stopped, Reset, is_mutator, is_live, is_running, is_gone, is_behind, is_late, is_asking}
use Rattle.heap_state.proofs.Table.Seen.{follows}
use Rattle.heap_state.proofs.Records.Holding.{uncopied_here}
use Rattle.heap_state.proofs.Puts.{each_put, proj_put, team_put, sum_below-same, sum_below-none}
use Rattle.heap_state.specs.Memory.Entries.{GateIs, with_entry}
use Rattle.heap_laws.specs.Steps as laws
use Rattle.heap_laws.specs.Flipping.Flip.{next_era, next_memory, next_ghost, flipped_gate, after_flip, Flips, FlipKeeps}
use Rattle.heap_laws.specs.Steps.{with_worker}
use Rattle.heap_laws.proofs.Cells.Ended.{flipping_carries_chain}
use Rattle.heap_laws.proofs.Targets.Ended.{flipping_carries_targets}
use Rattle.heap_laws.proofs.Flipping.FlippedParts.{ReadyToFlip, nothing, was, laid, headed, copied, once, kept, room, raw_words, counts, shut, filling, tracing, aged, scanned, old_area, old_pages, lands_on, here_board, board_here, opened, landing, older, new, new_written, crossing, old_space}
use Rattle.heap_laws.proofs.Flipping.Reset.{one_asks}
use Rattle.heap_laws.proofs.Flipping.FlippedWorkers.{late_is, done_none, other, flipper, none_true, not_live}
use Rattle.heap_laws.proofs.Frames.Values.{pointer_from_value, value_from_pointer, pointer_lands, zero_word}

some_of : {X : Type 0} (xs : List X) (i : ℕ) → i < length xs → (x : X) × (slice_get xs i ≡ Some x)
some_of [] i l = absurd (omega (arith, l))
some_of (x ∷ xs) zero l = (x, refl)
some_of (x ∷ xs) (suc i) l = some_of xs i (omega (arith, l))

module _ (E : Era) (m : Memory) (team : Team) (g : Ghost) (k : ℕ) (r : Reset) (start : laws.Ready E m team g k) (flips : Flips E team k r) where
  abbrev out : IsLaidOut E
  out = start.laid_out

  abbrev inv : Invariant E m team g
  inv = start.invariant

  abbrev w' : Known
  w' = after_flip (team.worker k)

  me : Knows E m.gate m.traced m.front m.low m.old_front m.old_low m.old_owed g m.page m.cross m.announced m.heap k (team.worker k)
  me = inv.workers k start.member

  is_asker : is_asking (team.worker k).post ≡ true
  is_asker = ap is_asking flips.post

  won : m.gate ≡ r.read
  won = (me.reset r flips.reset).unmoved

  ready : ReadyToFlip E m team g
  ready = let t = me.reset r flips.reset in let s = t.stored flips.stored in record {
    out = out;
    inv = inv;
    traced = (me.seen_traced (me.asks is_asker)).1;
    still = ap (λ (w : GateWord). w.running) won ∙ t.stopped.0;
    none = ap (λ (w : GateWord). w.behind) won ∙ t.stopped.1;
    front = s.1;
    low = s.2;
    used = t.used m.old_owed s.3;
    large = flips.large;
  }

  not_asking : (j : ℕ) → j < team.count → j ≢ k → is_asking (team.worker j).post ≡ false
  not_asking j l d = none_true (is_asking (team.worker j).post) (λ e. d (one_asks E m team g inv j k l start.member e is_asker))

  -- ---- the gate

  count_same : (is : Post → Bool) → is Stopped ≡ is (team.worker k).post → sum_below team.count (λ j. count_one (is (team.worker j).post)) ≡ sum_below team.count (λ j. count_one (is (put team.worker k w' j).post))
  count_same is e = sum_below-same _ _ _ (λ j l. ap count_one (sym (proj_put (λ u. is u.post) team.worker k w' j e)))

  counted : Counted (flipped_gate m.gate) team.count (put team.worker k w')
  counted = record {
    live = inv.counted.live ∙ count_same is_live (sym (ap is_live flips.post));
    running = inv.counted.running ∙ count_same is_running (sym (ap is_running flips.post));
    behind = inv.counted.live ∙ sum_below-same _ _ _ (λ j l. ap count_one (behind j l));
    left = inv.counted.left ∙ count_same is_gone (sym (ap is_gone flips.post));
    request = sym (sum_below-none team.count (λ j. count_one (is_asking (put team.worker k w' j).post)) (λ j l. none_asks j l));
    still = λ b. (ready.still, refl);
    epoch_fits = let a = start.at_gate in let f = flips.fits in omega (arith, a, f);
  }
    where
      late_now : is_late (m.gate.epoch + 1) w' ≡ is_late (m.gate.epoch + 1) (team.worker k)
      late_now = sym (ap (λ p. is_behind (m.gate.epoch + 1) p (team.worker k).epoch) flips.post)

      behind : (j : ℕ) → j < team.count → is_live (team.worker j).post ≡ is_late (m.gate.epoch + 1) (put team.worker k w' j)
      behind j l =
          let a : m.gate.epoch + 1 ≡ E.epoch + 1 = ap (λ e. e + 1) start.at_gate in
          let b : is_late (m.gate.epoch + 1) (team.worker j) ≡ is_live (team.worker j).post = rw a (late_is ready j l) in
          sym b ∙ sym (proj_put (is_late (m.gate.epoch + 1)) team.worker k w' j late_now)

      none_asks : (j : ℕ) → j < team.count → count_one (is_asking (put team.worker k w' j).post) ≡ 0
      none_asks j l = each_put (λ i u. i < team.count → count_one (is_asking u.post) ≡ 0) team.worker k w' j (λ d b. rw (not_asking j b d) refl) (λ e b. refl) l

  staffed : Staffed team.mutators team.count (put team.worker k w')
  staffed = record { few = inv.staffed.few; posts = λ j l. proj_put (λ u. is_mutator u.post) team.worker k w' j (sym (ap is_mutator flips.post)) ∙ inv.staffed.posts j l }

  -- ---- what is claimed and made

  stock_same : (j : ℕ) → (put team.worker k w' j).stock ≡ (team.worker j).stock
  stock_same j = proj_put (λ u. u.stock) team.worker k w' j refl

  stocks : Stocks (next_era E) m.old_low team.count (next_ghost E g).size m.heap m.page (put team.worker k w')
  stocks = record {
    stocked = λ j l q e n. absurd (let s = (inv.workers j l).stock q (sym (stock_same j) ∙ e) in let p = (inv.workers j l).timely.past in omega (arith, s, p, n));
    apart = λ i j li lj d p q e f a b. absurd (let s = (inv.workers i li).stock p (sym (stock_same i) ∙ e) in let t = (inv.workers i li).timely.past in omega (arith, s, t, a));
  }

  numbered : Numbered team.mutators (next_ghost E g).size g.identity (put team.worker k w')
  numbered = record {
    maker = λ a st. inv.numbered.maker a (was ready a st).0;
    last = λ a st. rw (proj_put (λ u. u.account) team.worker k w' (g.identity a).mutator refl) (inv.numbered.last a (was ready a st).0);
  }

  invariant : Invariant (next_era E) (next_memory m) (with_worker team k w') (next_ghost E g)
  invariant = record {
    counted = counted;
    staffed = staffed;
    laid = laid ready;
    headed = headed ready;
    copied = copied ready;
    once = once ready;
    kept = kept ready;
    room = room ready;
    raw_words = raw_words ready;
    counts = counts ready;
    shut = shut ready;
    filling = filling ready m.gate.live;
    tracing = tracing ready m.gate.live;
    aged = aged ready;
    scanned = scanned ready (put team.worker k w');
    opened = opened ready;
    landing = landing ready;
    older = older ready;
    new = new ready;
    new_written = new_written ready;
    old_space = old_space ready;
    old_area = old_area ready;
    old_pages = old_pages ready;
    sizes = record { below = λ e. flips.large };
    crossing = crossing ready;
    stocks = stocks;
    numbered = numbered;
    cells = record { ranks = no_ranks; chain = flipping_carries_chain E m m.weak m.weak_turn team g inv.cells.ranks k r start flips flips.cleared inv.cells.chain; targets = flipping_carries_targets E m team g k r start flips inv.cells.targets };
    workers = team_put team.count (Knows (next_era E) (flipped_gate m.gate) m.traced m.old_front m.old_low m.front m.low m.owed (next_ghost E g) m.page m.cross m.announced m.heap) team.worker k w'
        (λ j l d. other ready j l (not_asking j l d)) (flipper ready k start.member flips.asked flips.post);
  }

  -- ---- what is shown

  account_same : (j : ℕ) → (put team.worker k w' j).account ≡ (team.worker j).account
  account_same j = proj_put (λ u. u.account) team.worker k w' j refl

  registers_same : (j : ℕ) → (put team.worker k w' j).registers ≡ (team.worker j).registers
  registers_same j = proj_put (λ u. u.registers) team.worker k w' j refl

  -- A cell that is shown is one of the space that becomes the old one, and was shown: the epoch is traced, so that its target denoted the value.
  targets : (p : plain.Plain) → TargetsShow E m g p.heap → TargetsShow (next_era E) (next_memory m) (next_ghost E g) p.heap
  targets p t = record {
    shows = λ a v c is.
        let u = was ready a c.cell.stands in
        ⊎_elim
        (λ (e : value_of g.identity (m.heap (a + 1)) ≡ Some v). inl e)
        (λ (l : MayBeEmptied E m g a v). absurd (let z = l.walked.0 in let y = ready.traced in omega (arith, z, y)))
        (t.shows a v (record { cell = record { stands = u.0; written = (nothing ready).none_writes a u.0; weak = c.cell.weak }; place = inl (u.1, u.2) }) is);
  }

  shown : (p : plain.Plain) → Shown E m team g p → Shown (next_era E) (next_memory m) (with_worker team k w') (next_ghost E g) p
  shown p s = record {
    objects = record {
      shows = λ a st w y. let u = was ready a st in
          let c = uncopied_here E m team g inv out a u.0 u.1 u.2 in
          rw u.3 (s.objects.shows a u.0 ((nothing ready).none_writes a u.0) (inl c.0));
    };
    targets = targets p s.targets;
    board = record { sixteen = s.board.sixteen; board = s.board.board };
    as_many = s.as_many;
    makers = s.makers;
    accounts = λ j q e. rw (account_same j) (s.accounts j q e);
    registers = λ j q e. rw (registers_same j) (s.registers j q e);
  }

  -- ---- the cycle

  module _ (p : plain.Plain) (s : Shown E m team g p) where
    -- a word that lands and denotes a reference leads, in the next epoch, to an old record of it
    leads : (w : ℕ) (i : Identity) → Lands g.size g.writer w → ¬ (Leads E w) → value_of g.identity w ≡ Some (Reference i) → StillLeads (next_era E) g.identity w i
    leads w i lands clean e =
        let a = pointer_from_value g.identity w i e in
        let st = pointer_lands (next_ghost E g).size (next_ghost E g).writer w a.0 (lands_on ready w lands clean) a.1 in
        let u = was ready a.0 st in
        record { at = a.0; points = a.1; old = (u.1, u.2); named = a.2 }

    reference_of : (w : ℕ) (i : Identity) (v : Option Value) → value_of g.identity w ≡ v → StillLeads (next_era E) g.identity w i → v ≡ Some (Reference i)
    reference_of w i v e t = sym e ∙ (value_from_pointer g.identity w t.at t.points ∙ ap (λ j. Some (Reference j)) t.named)

    board_reached : (x : ℕ) (i : Identity) → OnBoard E x → StillLeads (next_era E) g.identity (m.heap x) i → Reachable p i
    board_reached x i b t =
        let n = x - E.board in
        let e : E.board + n ≡ x = omega (arith, b) in
        let d : value_of g.identity (m.heap (E.board + n)) ≡ slice_get p.heap.board n = s.board.board n (omega (arith, b)) in
        let f : value_of g.identity (m.heap x) ≡ slice_get p.heap.board n = rw e at d in
        FromBoard n i (reference_of (m.heap x) i (slice_get p.heap.board n) f t)

    copying : Copying (next_era E) m.old_front (next_ghost E g).size (next_ghost E g).writer (next_ghost E g).copy (next_ghost E g).keeper g.kind g.identity m.heap p
    copying = record {
      old = λ a st l n y. (shown p s).objects.shows a st refl y;
      sound = λ x i u t. board_reached x i (here_board ready x u) t;
      reached = λ a st l n y. absurd (omega (arith, y));
      sizes = λ b st l n. absurd (let f = ready.front in omega (arith, f, l, n));
      complete = λ b x r i st w l n. absurd (let f = ready.front in omega (arith, f, l, n));
      only = λ b st l n. absurd (let f = ready.front in omega (arith, f, l, n));
    }

    -- a mutator without an end whose register denotes a reference is late
    mutator_below : (j : ℕ) (q : plain.Mutator) → slice_get p.mutators j ≡ Some q → (j < team.count) × (is_mutator (team.worker j).post ≡ true)
    mutator_below j q e =
        let n = slice_get_within p.mutators j q e in
        let a = s.as_many in
        let few : j < team.mutators = omega (arith, n, a) in
        let l : j < team.count = (let f = inv.staffed.few in omega (arith, few, f)) in
        (l, inv.staffed.posts j l ∙ lt-ltb j team.mutators few)

    is_late_then : (j : ℕ) (i : Identity) → j < team.count → is_mutator (team.worker j).post ≡ true → (team.worker j).account.end ≡ None → (x : ℕ) → x < 8
        → value_of g.identity ((team.worker j).registers x) ≡ Some (Reference i) → is_late (E.epoch + 1) (team.worker j) ≡ true
    is_late_then j i l mu end x small e = ⊎_elim
        (λ (live : is_live (team.worker j).post ≡ true). late_is ready j l ∙ live)
        (λ (dead : is_live (team.worker j).post ≡ false). absurd (
        let ended : is_some (team.worker j).account.end ≡ false = rw end refl in
        let o = not_live (team.worker j).post mu dead (none_true (is_gone (team.worker j).post) (λ y. let z = (inv.workers j l).ends.gone y in let q = sym ended ∙ z in cc)) in
        let z : (team.worker j).registers x ≡ 0 = (inv.workers j l).outside o x small in
        let e0 : value_of g.identity 0 ≡ Some (Reference i) = rw z at e in
        let a = pointer_from_value g.identity 0 i e0 in
        let b = a.1 in
        let q = sym zero_word ∙ b in cc))
        (cases_Bool (is_live (team.worker j).post))

    rooted : Rooted (next_era E) m.old_front team.count (next_ghost E g).size (next_ghost E g).writer g.identity m.heap (put team.worker k w') p
    rooted = record {
      roots = λ i root. inr (by_root i root);
      sound = λ j n i l mu end small t. register_reached j n i l (sym (proj_put (λ u. is_mutator u.post) team.worker k w' j (sym (ap is_mutator flips.post))) ∙ mu)
          (sym (ap (λ a. a.end) (account_same j)) ∙ end) small (rw (registers_same j) at t);
    }
      where
        on_board : (x : ℕ) → x < 16 → Here E g.size g.writer g.kind (E.board + x)
        on_board x l = board_here ready (E.board + x) (omega arith, omega arith)

        by_root : (i : Identity) → IsRoot p i → RootLeads (next_era E) team.count g.identity m.heap (put team.worker k w') i
        by_root i (OnTheBoard x e) =
            let l : x < 16 = (let n = slice_get_within p.heap.board x (Reference i) e in let a = s.board.sixteen in omega (arith, n, a)) in
            ByBoard x l (leads (m.heap (E.board + x)) i (inv.landing.lands (E.board + x) (on_board x l)) ((nothing ready).clean (E.board + x) (on_board x l)) (s.board.board x l ∙ e))
        by_root i (InRegister j x q at end e) =
            let b = mutator_below j q at in
            let rs = s.registers j q at in
            let l : x < 8 = (let n = slice_get_within q.registers x (Reference i) e in let a = rs.eight in omega (arith, n, a)) in
            let v : value_of g.identity ((team.worker j).registers x) ≡ Some (Reference i) = rs.registers_show end x l ∙ e in
            let none : (team.worker j).account.end ≡ None = (s.accounts j q at).end ∙ end in
            let late = is_late_then j i b.0 b.1 none x l v in
            let same_late : is_late (E.epoch + 1) w' ≡ is_late (E.epoch + 1) (team.worker k) = sym (ap (λ z. is_behind (E.epoch + 1) z (team.worker k).epoch) flips.post) in
            let t = leads ((team.worker j).registers x) i (((inv.workers j b.0).registers b.1 none).lands x l) ((nothing ready).registers j x b.0 l b.1 none) v in
            let done : (put team.worker k w' j).done ≡ 0 = proj_put (λ u. u.done) team.worker k w' j refl ∙ done_none ready j b.0 in
            ByRegister j x b.0 l (proj_put (is_late (E.epoch + 1)) team.worker k w' j same_late ∙ late) (omega (arith, done)) (rw (registers_same j) t)

        register_reached : (j n : ℕ) (i : Identity) → j < team.count → is_mutator (team.worker j).post ≡ true → (team.worker j).account.end ≡ None → n < 8
            → StillLeads (next_era E) g.identity ((team.worker j).registers n) i → Reachable p i
        register_reached j n i l mu end small t =
            let few : j < length p.mutators = (let a = s.as_many in let b = ltb-true j team.mutators (sym (inv.staffed.posts j l) ∙ mu) in omega (arith, a, b)) in
            let q = some_of p.mutators j few in
            let none : q.0.end ≡ None = sym (s.accounts j q.0 q.1).end ∙ end in
            FromRegister j q.0 n i q.1 none (reference_of ((team.worker j).registers n) i (slice_get q.0.registers n) ((s.registers j q.0 q.1).registers_show none n small) t)

    -- nothing was made since: the new area is empty, and each mutator has made what its plain one has
    made : MadeSince (next_era E) m.old_low team.mutators (next_ghost E g).size g.identity (put team.worker k w') p
    made = record {
      new = λ a st low high. absurd (let l = ready.low in omega (arith, low, high, l));
      grown = λ j l.
          let q = some_of p.mutators j (let n = s.as_many in omega (arith, l, n)) in
          let same : (team.worker j).account.serial ≡ plain.serial_of p.heap j = (s.accounts j q.0 q.1).serial in
          rw (account_same j) (omega (arith, same));
    }

    pub begins : Cycle (next_era E) (next_memory m) (with_worker team k w') (next_ghost E g) p
    begins = record { copying = copying; rooted = rooted; made = made }

  pub flip_keeps : FlipKeeps E m team g k r
  flip_keeps = record { won = won; invariant = invariant; shown = shown; pages = refl; begins = begins }

-- ---- the table

-- the table with the gate of the flip is that of the next epoch
pub record TableFlips (t : Table) : Type 0 where
  pub era : era_of (with_entry (GateIs (flipped_gate t.gate)) t) ≡ next_era (era_of t)
  pub memory : memory_of (with_entry (GateIs (flipped_gate t.gate)) t) ≡ next_memory (memory_of t)

pub table_flips : (t : Table) → TableFlips t
table_flips t = let q = follows.flip t (flipped_gate t.gate) refl in record { era = q.era; memory = q.memory }
