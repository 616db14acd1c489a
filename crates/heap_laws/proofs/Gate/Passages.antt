-- The passages of the gate.
use Rattle.std.proofs.Common.{◌≡◌, ◌≢◌, ℕ, ◌+◌, ◌-◌, ◌<◌, Bool, true, false, Option, Some, None, is_some, refl, sym, ap, ◌∙◌, arith, ⊎_elim, ◌⊎◌, inl, inr, subst, ◌*◌, ◌≤◌}
use Rattle.std.proofs.lemmas.Bool.{eq-eqb}
use Rattle.space_map.specs.declared.gate_word.GateWord.{GateWord}
use Rattle.space_map.specs.declared.page_word.PageWord.TheVariants.{Open}
use Rattle.heap_state.specs.Cells.{KnowsCopy, SameGround}
use Rattle.heap_state.specs.Memory.Era.{Era, Memory}
use Rattle.heap_state.specs.Functions.{count_one}
use Rattle.heap_state.specs.Invariant.Ghost.{Ghost}
use Rattle.heap_state.specs.Invariant.Inductive.{Invariant, Knows}
use Rattle.heap_state.specs.Invariant.Parts.Copying.{IsOrigin, Licensed}
use Rattle.heap_state.specs.Invariant.Parts.Knowledge.{Accesses, Clean, Ends, Passes, Resets}
use Rattle.heap_state.specs.Invariant.Parts.Pages.{Quiet, Sizes}
use Rattle.heap_state.specs.Invariant.Parts.Scanning.{Claims, Looks, LastLooks}
use Rattle.heap_state.specs.Known.{Known, Team, Post, Outside, Running, Stopped, Flipping, Gone, Passage, Enter, Park, Request, Forwarded, Resume, Leave, Origin, Register, Scanned, Quest, Claim, Look, LastLook, GateStep, Reset, Access, is_mutator, is_flipper, is_gone, is_live, is_running, is_late, Snapping, RequestSnap, Clear, is_asking}
use Rattle.heap_state.proofs.Puts.{none≢some, true_false}
use Rattle.heap_state.specs.Memory.Entries.{GateIs}
use Rattle.heap_laws.specs.Cells.Frames.{GoesOnInChain}
use Rattle.heap_laws.specs.Gate.{gate_after, into_epoch, worker_after, WinsGate, PassingGateKeeps, out_of_run}
use Rattle.heap_laws.specs.Steps.{with_worker, Ready, Steps, InGate, with_gate, Preserves}
use Rattle.heap_laws.proofs.Cells.Kept.{none_is_some}
use Rattle.heap_laws.proofs.Flipping.Sums.{sum_below-term, sum_below-two, one_of}
use Rattle.heap_laws.proofs.Gate.GateCounts.{counted_moves, fits}
use Rattle.heap_laws.proofs.Gate.Team.{passing_keeps, usual}
use Rattle.heap_laws.proofs.Gate.Worker.{no_reset, none_at_pages, knows_then, NoneFlips}
use Rattle.heap_laws.proofs.Scanning.Scanners.{now_not_late}
use Rattle.space_map.specs.declared.spaces.TheConstants.{PAGE_WORDS}
use Rattle.heap_state.proofs.Workers.Posts.{flips_ask}
use Rattle.heap_laws.proofs.Flipping.Reset.{one_asks}
use Rattle.heap_laws.proofs.Fields.RunningMutators.{none_sized}

runs : (p : Post) → is_running p ≡ true → p ≡ Running
runs Running e = refl
runs _ e = absurd (cc)

module _ (E : Era) (m : Memory) (team : Team) (g : Ghost) (k : ℕ) (s : GateStep) (ready : Ready E m team g k) (free : (team.worker k).pass ≡ None) (wins : WinsGate m team k s) where
  abbrev inv : Invariant E m team g
  inv = ready.invariant

  abbrev w : Known
  w = team.worker k

  me : Knows E m.gate m.traced m.front m.low m.old_front m.old_low m.old_owed g m.page m.cross m.announced m.heap k w
  me = inv.workers k ready.member

  no_flip : (m.gate.request ≡ false) ⊎ ((0 < m.gate.running) ⊎ (0 < m.gate.behind)) → (r : Reset) → w.reset ≡ Some r → ⊥
  no_flip busy r e = no_reset E m team g inv busy k r ready.member e

  -- one that runs is counted
  running_some : is_running w.post ≡ true → 0 < m.gate.running
  running_some e = let t = sum_below-term team.count (λ j. count_one (is_running (team.worker j).post)) k ready.member in let a = one_of (is_running w.post) e in let c = inv.counted.running in omega (arith, t, a, c)

  live_some : is_live w.post ≡ true → 0 < m.gate.live
  live_some e = let t = sum_below-term team.count (λ j. count_one (is_live (team.worker j).post)) k ready.member in let a = one_of (is_live w.post) e in let c = inv.counted.live in omega (arith, t, a, c)

  -- one of the current epoch has forwarded nothing
  done_none : w.epoch ≡ E.epoch → w.done ≡ 0
  done_none now = me.timely.rest (now_not_late E.epoch w.epoch w.post now)

  not_late : {A : Type 0} → w.epoch ≡ E.epoch → is_late E.epoch w ≡ true → A
  not_late now late = true_false (now_not_late E.epoch w.epoch w.post now) late

  request_read : (b : Bool) → s.read.request ≡ b → m.gate.request ≡ b
  request_read b e = ap (λ (x : GateWord). x.request) wins.unchanged ∙ e

  behind_read : s.read.behind ≡ 0 → m.gate.behind ≡ 0
  behind_read e = ap (λ (x : GateWord). x.behind) wins.unchanged ∙ e

  -- its registers lead nowhere old
  clean_now : w.epoch ≡ E.epoch → is_mutator w.post ≡ true → w.account.end ≡ None → Clean E g.size g.writer false 0 w.registers
  clean_now now mu end = let c = me.registers mu end in record { clean = λ j l f. c.clean j l (λ t. not_late now t); lands = c.lands; old = λ t. true_false refl t }

  -- who was not late, or has nothing to link, has the same part in the chain of copied cells
  goes : (u : Known) → u.linking ≡ w.linking → u.pass ≡ w.pass → u.reset ≡ w.reset → u.quest ≡ w.quest → u.scan ≡ w.scan
      → (is_late E.epoch w ≡ true → KnowsCopy w → ⊥) → (is_some w.pass ≡ true → SameGround u w) → GoesOnInChain E u w
  goes u linking pass reset quest scan none_links ground = record {
    linking = linking;
    pass = pass;
    cleared = λ e. rw reset at e;
    licence = λ _ knows may. (⊎_elim (λ y. inl (y.0, scan ∙ y.1)) (λ y. absurd (none_links y knows)) may, (knows.0, quest ∙ knows.1, knows.2));
    ground = ground;
  }

  -- ---- in

  enters : w.post ≡ Outside → s.read.request ≡ false → s.read.behind ≡ 0 → Preserves E m (with_gate m (gate_after Enter m.gate)) team (with_worker team k (worker_after m.gate.epoch Enter w)) g g
  enters at request behind =
      let q = request_read false request in
      let b = behind_read behind in
      let late : (e : ℕ) → is_late e w ≡ false = λ e. rw at refl in
      usual E m team g k (worker_after m.gate.epoch Enter w) (m.gate.live + 1) (m.gate.running + 1) m.gate.left m.gate.request
      (record {
        inv = inv;
        below = ready.member;
        mutator = sym (ap is_mutator at);
        account = refl;
        registers = refl;
        scan = refl;
        stock = λ y e. none≢some e;
        goes = goes (worker_after m.gate.epoch Enter w) refl refl refl refl refl (λ y _. true_false (late E.epoch) y) (λ walks. none_is_some free walks);
        none_left = λ r l y d. true_false (late E.epoch) y;
      })
      (no_reset E m team g inv (inl q))
      (counted_moves team.worker team.count k (worker_after m.gate.epoch Enter w) Outside Running m.gate (gate_after Enter m.gate) false false ready.member at refl (late m.gate.epoch) (now_not_late m.gate.epoch m.gate.epoch Running refl)
      refl (omega arith) (omega arith) refl refl refl (λ y. absurd (omega (arith, y, b))) inv.counted)
      inv.sizes
      (knows_then E m team g k (gate_after Enter m.gate) inv ready.member (no_flip (inl q)) Running m.gate.epoch 0 (into_epoch w m.gate.epoch) w.access w.opened w.size_seen w.traced_seen
      (record {
        now = ready.at_gate;
        done_none = refl;
        inside = λ e. absurd (cc);
        ends = record { stays = λ e. inl refl; gone = λ e. absurd (cc) };
        not_asked = λ y l e. true_false (late E.epoch) l;
        clean = λ mu end. let c = me.registers (ap is_mutator at) end in record { clean = λ j l f. c.clean j l (λ t. true_false (late E.epoch) t); lands = c.lands; old = λ t. true_false refl t };
        stocks = λ y e. none≢some e;
        accesses = λ f e. (refl, me.access f e);
        opens = λ x e. (refl, (me.opened x e).1);
        sizes = λ x e. (refl, (me.size_seen x e).1);
        pages = none_at_pages w m.gate.epoch;
        seen = λ e. (inl refl, (me.seen_traced e).1);
        asks = λ e. absurd (cc);
        unsized = λ e. absurd (cc);
      }))

  -- ---- within the epoch

  -- a mutator goes from post p to post q: what the gate counts, and what the worker still knows
  stays : (p q : Post) (access : Option Access) (opened size : Option ℕ) (seen : Bool) (live running left : ℕ) (request : Bool) → w.epoch ≡ E.epoch → w.post ≡ p → is_mutator p ≡ true → is_mutator q ≡ true
      → NoneFlips E m team g inv
      → live + count_one (is_live p) ≡ m.gate.live + count_one (is_live q) → running + count_one (is_running p) ≡ m.gate.running + count_one (is_running q)
      → left + count_one (is_gone p) ≡ m.gate.left + count_one (is_gone q) → count_one request + count_one (is_asking p) ≡ count_one m.gate.request + count_one (is_asking q)
      → (0 < m.gate.behind → (running ≡ 0) × (request ≡ false)) → q ≢ Outside → Ends q (is_some w.account.end)
      → ((f : Access) → access ≡ Some f → (is_running q ≡ true) × Accesses E g.size g.writer g.kind f)
      → ((x : ℕ) → opened ≡ Some x → (is_running q ≡ true) × (m.page x ≡ Open E.epoch)) → ((x : ℕ) → size ≡ Some x → (is_running q ≡ true) × (E.span ≡ PAGE_WORDS * x))
      → (seen ≡ true → ((is_running q ≡ true) ⊎ (is_asking q ≡ true)) × (m.traced ≡ E.epoch + 1)) → (is_asking q ≡ true → seen ≡ true)
      → Sizes E request → (is_asking q ≡ true → E.old_span ≤ E.span)
      → Preserves E m (with_gate m (record m.gate { live = live; running = running; left = left; request = request })) team (with_worker team k (record w { post = q; access = access; opened = opened; size_seen = size; traced_seen = seen; gate_step = None })) g g
  stays p q access opened size seen live running left request now at mutator mutates none lives runs leaves requests still inside ends accesses opens sizes sees asks smaller unsized =
      let w' : Known = record w { post = q; access = access; opened = opened; size_seen = size; traced_seen = seen; gate_step = None } in
      let gate' : GateWord = record m.gate { live = live; running = running; left = left; request = request } in
      let gate_now : w.epoch ≡ m.gate.epoch = now ∙ sym ready.at_gate in
      let was : is_mutator w.post ≡ true = rw at mutator in
      usual E m team g k w' live running left request
      (record {
        inv = inv;
        below = ready.member;
        mutator = mutates ∙ sym was;
        account = refl;
        registers = refl;
        scan = refl;
        stock = λ y e. e;
        goes = goes w' refl refl refl refl refl (λ y _. not_late now y) (λ _. (refl, refl));
        none_left = λ r l y d. not_late now y;
      })
      none
      (counted_moves team.worker team.count k w' p q m.gate gate' false false ready.member at refl (now_not_late m.gate.epoch w.epoch w.post gate_now) (now_not_late m.gate.epoch w.epoch q gate_now)
      refl lives runs refl leaves requests still inv.counted)
      smaller
      (knows_then E m team g k gate' inv ready.member (λ r e. none k r ready.member e) q w.epoch w.done w access opened size seen
      (record {
        now = now;
        done_none = done_none now;
        inside = inside;
        ends = ends;
        not_asked = λ y l e. not_late now l;
        clean = λ mu end. clean_now now was end;
        stocks = me.stock;
        accesses = accesses;
        opens = opens;
        sizes = sizes;
        pages = me.pages;
        seen = sees;
        asks = asks;
        unsized = unsized;
      }))

  resumes : w.post ≡ Stopped → s.read.epoch ≡ w.epoch → s.read.request ≡ false → s.read.behind ≡ 0 → Preserves E m (with_gate m (gate_after Resume m.gate)) team (with_worker team k (worker_after m.gate.epoch Resume w)) g g
  resumes at epoch request behind =
      let q = request_read false request in
      let b = behind_read behind in
      let same : m.gate.epoch ≡ s.read.epoch = ap (λ (x : GateWord). x.epoch) wins.unchanged in
      stays Stopped Running w.access w.opened w.size_seen w.traced_seen m.gate.live (m.gate.running + 1) m.gate.left m.gate.request (sym (same ∙ epoch) ∙ ready.at_gate) at refl refl (no_reset E m team g inv (inl q))
      refl (omega arith) refl refl (λ y. absurd (omega (arith, y, b))) (λ e. absurd (cc)) (record { stays = λ e. inl refl; gone = λ e. absurd (cc) })
      (λ f e. (refl, me.access f e)) (λ x e. (refl, (me.opened x e).1)) (λ x e. (refl, (me.size_seen x e).1)) (λ e. (inl refl, (me.seen_traced e).1)) (λ e. absurd (cc)) inv.sizes (λ e. absurd (cc))

  -- who runs no more has left one running worker less
  module _ (running : is_running w.post ≡ true) where
    some : 0 < m.gate.running
    some = running_some running

    none_behind : {A : Type 0} → 0 < m.gate.behind → A
    none_behind y = absurd (let c = inv.counted.still y in let z = some in omega (arith, c.0, z))

    parks : is_some w.account.end ≡ false → Preserves E m (with_gate m (gate_after Park m.gate)) team (with_worker team k (worker_after m.gate.epoch Park w)) g g
    parks ended = stays Running Stopped None None None false m.gate.live (m.gate.running - 1) m.gate.left m.gate.request (me.timely.running running) (runs w.post running) refl refl (no_reset E m team g inv (inr (inl some)))
        refl (let z = some in omega (arith, z)) refl refl (λ y. none_behind y) (λ e. absurd (cc)) (record { stays = λ e. true_false ended e; gone = λ e. absurd (cc) })
        (λ f e. none≢some e) (λ x e. none≢some e) (λ x e. none≢some e) (λ e. absurd (cc)) (λ e. absurd (cc)) inv.sizes (λ e. absurd (cc))

    -- it stops, and the request is its own
    asks_for : (q : Post) → is_mutator q ≡ true → is_live q ≡ true → is_running q ≡ false → is_gone q ≡ false → is_asking q ≡ true → q ≢ Outside
        → is_some w.account.end ≡ false → s.read.request ≡ false → w.traced_seen ≡ true
        → Preserves E m (with_gate m (record m.gate { running = m.gate.running - 1; request = true })) team (with_worker team k (record (out_of_run w) { post = q })) g g
    asks_for q mutates live still there asks inside ended request seen =
        let none : count_one m.gate.request ≡ 0 = ap count_one (request_read false request) in
        stays Running q None None None w.traced_seen m.gate.live (m.gate.running - 1) m.gate.left true (me.timely.running running) (runs w.post running) refl mutates (no_reset E m team g inv (inr (inl some)))
        (rw live refl) (rw still (let z = some in omega (arith, z))) (rw there refl) (rw asks (omega (arith, none))) (λ y. none_behind y) inside
        (record { stays = λ e. true_false ended e; gone = λ e. true_false there e })
        (λ f e. none≢some e) (λ x e. none≢some e) (λ x e. none≢some e) (λ e. (inr asks, (me.seen_traced e).1)) (λ e. seen)
        (record { below = λ e. absurd (cc) }) (λ e. inv.sizes.below (request_read false request))

    requests : (asked : ℕ) → is_some w.account.end ≡ false → s.read.request ≡ false → w.traced_seen ≡ true → Preserves E m (with_gate m (gate_after (Request asked) m.gate)) team (with_worker team k (worker_after m.gate.epoch (Request asked) w)) g g
    requests asked = asks_for (Flipping asked) refl refl refl refl refl (λ e. absurd (cc))

    requests_snap : is_some w.account.end ≡ false → s.read.request ≡ false → w.traced_seen ≡ true → Preserves E m (with_gate m (gate_after RequestSnap m.gate)) team (with_worker team k (worker_after m.gate.epoch RequestSnap w)) g g
    requests_snap = asks_for Snapping refl refl refl refl refl (λ e. absurd (cc))

    leaves : is_some w.account.end ≡ true → Preserves E m (with_gate m (gate_after Leave m.gate)) team (with_worker team k (worker_after m.gate.epoch Leave w)) g g
    leaves ended =
        let alive = live_some (ap is_live (runs w.post running)) in
        stays Running Gone None None None false (m.gate.live - 1) (m.gate.running - 1) (m.gate.left + 1) m.gate.request (me.timely.running running) (runs w.post running) refl refl (no_reset E m team g inv (inr (inl some)))
        (omega (arith, alive)) (let z = some in omega (arith, z)) (omega arith) refl (λ y. none_behind y) (λ e. absurd (cc)) (record { stays = λ e. inr refl; gone = λ e. ended })
        (λ f e. none≢some e) (λ x e. none≢some e) (λ x e. none≢some e) (λ e. absurd (cc)) (λ e. absurd (cc)) inv.sizes (λ e. absurd (cc))

  -- ---- the request cleared

  module _ (at : w.post ≡ Snapping) where
    asks : is_asking w.post ≡ true
    asks = ap is_asking at

    request_set : m.gate.request ≡ true
    request_set = by_request m.gate.request refl
      where
        by_request : (b : Bool) → m.gate.request ≡ b → m.gate.request ≡ true
        by_request true e = e
        by_request false e =
            let t = sum_below-term team.count (λ j. count_one (is_asking (team.worker j).post)) k ready.member in
            let o = one_of (is_asking w.post) asks in
            let z : count_one m.gate.request ≡ 0 = ap count_one e in
            absurd (omega (arith, t, o, z, inv.counted.request))

    -- who flips would have the request too
    nobody_flips : NoneFlips E m team g inv
    nobody_flips j r l e =
        let flips = (inv.workers j l).resets r e in
        let own : j ≡ k = one_asks E m team g inv j k l ready.member (flips_ask (team.worker j).post flips) asks in
        let post : (team.worker j).post ≡ Snapping = ap (λ (i : ℕ). (team.worker i).post) own ∙ at in
        true_false (ap is_flipper post) flips

    clears : Preserves E m (with_gate m (gate_after Clear m.gate)) team (with_worker team k (worker_after m.gate.epoch Clear w)) g g
    clears =
        let one : count_one m.gate.request ≡ 1 = ap count_one request_set in
        stays Snapping Stopped None None None false m.gate.live m.gate.running m.gate.left false (me.timely.asking asks) at refl refl nobody_flips
        refl refl refl (omega (arith, one)) (λ y. absurd (let z = sym (inv.counted.still y).1 ∙ request_set in cc)) (λ e. absurd (cc))
        (record { stays = λ e. absurd (⊎_elim (λ y. true_false (ap is_running at) y) (λ y. true_false (ap is_gone at) y) (me.ends.stays e)); gone = λ e. absurd (cc) })
        (λ f e. none≢some e) (λ x e. none≢some e) (λ x e. none≢some e) (λ e. absurd (cc)) (λ e. absurd (cc))
        (record { below = λ e. me.unsized asks (none_sized w.reset (λ r f. nobody_flips k r ready.member f)) }) (λ e. absurd (cc))

  -- ---- registers forwarded

  module _ (at : w.post ≡ Stopped) (epoch : s.read.epoch ≡ w.epoch + 1) (all : w.done ≡ 8) where
    abbrev gate' : GateWord
    gate' = gate_after Forwarded m.gate

    gate_next : w.epoch + 1 ≡ m.gate.epoch
    gate_next = sym epoch ∙ sym (ap (λ (x : GateWord). x.epoch) wins.unchanged)

    next : w.epoch + 1 ≡ E.epoch
    next = gate_next ∙ ready.at_gate

    late : (e : ℕ) → w.epoch + 1 ≡ e → is_late e w ≡ true
    late e y = rw (at, eq-eqb (w.epoch + 1) e y) refl

    behind_some : 0 < m.gate.behind
    behind_some = me.licensed.counted (late E.epoch next)

    busy : (m.gate.request ≡ false) ⊎ ((0 < m.gate.running) ⊎ (0 < m.gate.behind))
    busy = inr (inr behind_some)

    unquiet : {A : Type 0} → Quiet E m.gate.behind m.front m.page → A
    unquiet q = let b = behind_some in absurd (omega (arith, b, q.none))

    not_asked : (q : Quest) → w.quest ≡ Some q → ⊥
    not_asked q e = by_origin q.origin (me.origin q e)
      where
        by_origin : (o : Origin) → IsOrigin E g.size g.writer g.kind m.heap (is_late E.epoch w) w.done w.registers w.scan q.old o → ⊥
        by_origin (Register r) y = omega (arith, y.1, y.2, all)
        by_origin (Scanned x) y = let p = me.present y.0.0 y.0.1 in omega (arith, p, next)

    others : (j : ℕ) → j < team.count → j ≢ k → Knows E gate' m.traced m.front m.low m.old_front m.old_low m.old_owed g m.page m.cross m.announced m.heap j (team.worker j)
    others j l d =
        let u = inv.workers j l in
        let a : Licensed (m.gate.behind - 1) g.kept j (is_late E.epoch (team.worker j)) (team.worker j).copy (team.worker j).quest (team.worker j).scan = record {
          licensed = u.licensed.licensed;
          asked = u.licensed.asked;
          idle = u.licensed.idle;
          counted = λ e. let t = sum_below-two team.count (λ i. count_one (is_late m.gate.epoch (team.worker i))) j k l ready.member d in
              let x = one_of (is_late m.gate.epoch (team.worker j)) (rw ready.at_gate e) in let y = one_of (is_late m.gate.epoch w) (late m.gate.epoch gate_next) in
              let c = inv.counted.behind in omega (arith, t, x, y, c);
        } in
        let b : (q : Claim) → (team.worker j).claim ≡ Some q → Claims E m.front (m.gate.behind - 1) g.size g.writer m.page (team.worker j).epoch q = λ q e. claims (team.worker j).epoch q (u.pages.claim q e) in
        let c : (q : Look) → (team.worker j).look ≡ Some q → Looks E (m.gate.behind - 1) m.front m.page (team.worker j).epoch q = λ q e. looks (team.worker j).epoch q (u.pages.look q e) in
        let f : (q : LastLook) → (team.worker j).last_look ≡ Some q → LastLooks E m.traced (m.gate.behind - 1) m.front m.page (team.worker j).epoch q = λ q e. last_looks (team.worker j).epoch q (u.pages.last_look q e) in
        let h : (r : Reset) → (team.worker j).reset ≡ Some r → Resets E gate' m.front m.low m.old_front m.old_low m.old_owed r = λ r e. absurd (no_reset E m team g inv busy j r l e) in
        assumption
      where
        claims : (d : ℕ) (q : Claim) → Claims E m.front m.gate.behind g.size g.writer m.page d q → Claims E m.front (m.gate.behind - 1) g.size g.writer m.page d q
        claims d q p = record { earlier = p.earlier; full = p.full; clear = p.clear; late = p.late; in_place = p.in_place; last = λ e i. let v = p.last e i in (v.0, v.1, ⊎_elim (λ y. inl y) (λ y. unquiet y.1) v.2) }

        looks : (d : ℕ) (q : Look) → Looks E m.gate.behind m.front m.page d q → Looks E (m.gate.behind - 1) m.front m.page d q
        looks d q p = record { earlier = p.earlier; board = p.board; full = p.full; last = p.last; start = p.start; late = p.late; none = λ e. let n = p.none e in (omega (arith, n.0), n.1) }

        last_looks : (d : ℕ) (q : LastLook) → LastLooks E m.traced m.gate.behind m.front m.page d q → LastLooks E m.traced (m.gate.behind - 1) m.front m.page d q
        last_looks d q p = record { earlier = p.earlier; late = p.late; now = λ e t. unquiet (p.now e t).0 }

    pub forwards : Preserves E m (with_gate m (gate_after Forwarded m.gate)) team (with_worker team k (worker_after m.gate.epoch Forwarded w)) g g
    forwards = passing_keeps
        (record {
          inv = inv;
          below = ready.member;
          mutator = refl;
          account = refl;
          registers = refl;
          scan = refl;
          stock = λ y e. none≢some e;
          goes = goes (worker_after m.gate.epoch Forwarded w) refl refl refl refl refl (λ _ knows. absurd (not_asked knows.0 knows.1)) (λ walks. none_is_some free walks);
          none_left = λ r l y d. omega (arith, l, d, all);
        })
        (gate_after Forwarded m.gate)
        (counted_moves team.worker team.count k (worker_after m.gate.epoch Forwarded w) w.post w.post m.gate (gate_after Forwarded m.gate) true false ready.member refl refl (late m.gate.epoch gate_next) (now_not_late m.gate.epoch m.gate.epoch w.post refl)
        refl refl refl (let b = behind_some in omega (arith, b)) refl refl (λ y. inv.counted.still behind_some) inv.counted)
        (record { filling = λ p l n a. unquiet (inv.filling.filling p l n a) })
        (record { begun = inv.tracing.begun; bottom = inv.tracing.bottom; top = inv.tracing.top; quiet = λ e. unquiet (inv.tracing.quiet e); last = inv.tracing.last })
        inv.sizes
        others
        (knows_then E m team g k (gate_after Forwarded m.gate) inv ready.member (no_flip busy) w.post m.gate.epoch 0 (into_epoch w m.gate.epoch) w.access w.opened w.size_seen w.traced_seen
        (record {
          now = ready.at_gate;
          done_none = refl;
          inside = λ e. absurd (let q = sym at ∙ e in cc);
          ends = me.ends;
          not_asked = λ y l e. not_asked y e;
          clean = λ mu end. let c = me.registers mu end in record { clean = λ j l f. c.clean j l (λ t. omega (arith, l, all)); lands = c.lands; old = λ t. true_false refl t };
          stocks = λ y e. none≢some e;
          accesses = λ f e. (me.active f e, me.access f e);
          opens = me.opened;
          sizes = me.size_seen;
          pages = none_at_pages w m.gate.epoch;
          seen = me.seen_traced;
          asks = me.asks;
          unsized = λ e. absurd (let q = sym (ap is_asking at) ∙ e in cc);
        }))

  by_passage : (p : Passage) → Passes w.post w.epoch w.done (is_some w.account.end) w.traced_seen s.read p → Preserves E m (with_gate m (gate_after p m.gate)) team (with_worker team k (worker_after m.gate.epoch p w)) g g
  by_passage Enter y = enters y.0 y.1 y.2
  by_passage Park y = parks y.0 y.1
  by_passage (Request asked) y = requests y.0 asked y.1 y.2 y.3
  by_passage RequestSnap y = requests_snap y.0 y.1 y.2 y.3
  by_passage Clear y = clears y
  by_passage Forwarded y = forwards y.0 y.1 y.2
  by_passage Resume y = resumes y.0 y.1 y.2 y.3
  by_passage Leave y = leaves y.0 y.1

-- a passage stays in the epoch
pub same_epoch : (p : Passage) (gate : GateWord) → (gate_after p gate).epoch ≡ gate.epoch
same_epoch Enter gate = refl
same_epoch _ gate = refl

pub passes_gate : PassingGateKeeps
passes_gate E m team g k s ready free wins =
    let keeps = by_passage E m team g k s ready free wins s.passage ((ready.invariant.workers k ready.member).passage s wins.step) in
    subst (λ (read : GateWord). Steps E m team g k (Some (GateIs (gate_after s.passage read))) (worker_after read.epoch s.passage (team.worker k)) g) wins.unchanged (record {
      later = with_gate m (gate_after s.passage m.gate);
      writes = InGate (gate_after s.passage m.gate) (fits E _ _ g keeps.invariant) (same_epoch s.passage m.gate ∙ ready.at_gate);
      keeps = keeps;
    })
