-- TRACED is exchanged, and what holds then.
use Rattle.std.proofs.Common.{◌≡◌, ◌≢◌, ℕ, ◌+◌, ◌*◌, ◌/◌, ◌<◌, ◌≤◌, true, Some, None, is_some, refl, ap, arith, ⊎_elim, ◌⊎◌, subst, sym}
use Rattle.std.proofs.lemmas.Bool.{cases_lt}
use Rattle.plain_state.specs.State.{Plain}
use Rattle.space_map.specs.declared.page_word.PageWord.TheVariants.{Open}
use Rattle.heap_state.specs.Cycles.Cycle.{Cycle}
use Rattle.heap_state.specs.Invariant.Parts.Cells.{Cells}
use Rattle.heap_state.specs.Memory.Era.{Era, Memory, IsLaidOut}
use Rattle.heap_state.specs.Invariant.Ghost.{Ghost, Here, Leads}
use Rattle.heap_state.specs.Invariant.Inductive.{Invariant, Knows}
use Rattle.heap_state.specs.Invariant.Parts.Copies.{Room}
use Rattle.heap_state.specs.Invariant.Parts.OldSpace.{OldSpace}
use Rattle.heap_state.specs.Invariant.Parts.Pages.{Quiet, IsLastOpen, Tracing}
use Rattle.heap_state.specs.Invariant.Parts.Scanning.{Rounds, LastLooks}
use Rattle.heap_state.specs.Known.{Known, Team, Copy, Scan, Round, LastLook, is_mutator, is_running, is_asking}
use Rattle.heap_state.proofs.Workers.Frames.{counted_put, staffed_put, scanned_put, stocks_put, numbered_put, rooted_put}
use Rattle.heap_state.proofs.Puts.{team_put, none≢some}
use Rattle.heap_state.specs.Memory.Entries.{TracedIs}
use Rattle.heap_laws.specs.Steps.{with_worker, Ready, StepsTo, WritesRow, InTraced, with_traced}
use Rattle.heap_laws.specs.Tracing.{WinsTraced, has_traced, Traces, SleeperLosesTraced, NothingLeads}
use Rattle.heap_laws.proofs.Cells.Kept.{of_chain}
use Rattle.heap_laws.proofs.Cells.Turned.{tracing_carries_chain}
use Rattle.heap_laws.proofs.Scanning.Scanners.{open_scan, scans_last, copies_last, none_writes, here_lies}
use Rattle.heap_laws.proofs.Targets.Frames.{made_put}
use Rattle.heap_laws.proofs.Targets.ShownEmptied.{shown_traced}
use Rattle.heap_laws.proofs.Targets.Walked.{tracing_carries_targets}
use Rattle.heap_laws.proofs.Tracing.SecondLooks.{looked_twice}

pub sleeper_loses_traced : SleeperLosesTraced
sleeper_loses_traced E m team g k l ready looks past won = let o = looked_twice ready looks in let a = o.late past in let b = o.earlier in omega (arith, a, b, won)

module _ (E : Era) (m : Memory) (team : Team) (g : Ghost) (k : ℕ) (l : LastLook) (ready : Ready E m team g k) (wins : WinsTraced m team k l) where
  abbrev inv : Invariant E m team g
  inv = ready.invariant

  abbrev w' : Known
  w' = has_traced (team.worker k)

  me : Knows E m.gate m.traced m.front m.low m.old_front m.old_low m.old_owed g m.page m.cross m.announced m.heap k (team.worker k)
  me = inv.workers k ready.member

  of_now : (team.worker k).epoch ≡ E.epoch
  of_now = ⊎_elim
      (λ (y : (team.worker k).epoch < E.epoch). absurd (sleeper_loses_traced E m team g k l ready wins.looks y wins.unchanged))
      (λ (y : E.epoch ≤ (team.worker k).epoch). let z = me.timely.past in omega (arith, y, z))
      (cases_lt (team.worker k).epoch E.epoch)

  mine : LastLooks E m.traced m.gate.behind m.front m.page (team.worker k).epoch l
  mine = looked_twice ready wins.looks

  now : Quiet E m.gate.behind m.front m.page × IsLastOpen E m.front m.page
  now = mine.now of_now wins.unchanged

  rounds : (d : ℕ) (r : Round) → Rounds E m.traced m.front d r → Rounds E (E.epoch + 1) m.front d r
  rounds d r o = record { traced_then = (let a = o.traced_then in let t = inv.tracing.top in omega (arith, a, t), o.traced_then.1); front_then = o.front_then }

  looks : (d : ℕ) (q : LastLook) → LastLooks E m.traced m.gate.behind m.front m.page d q → LastLooks E (E.epoch + 1) m.gate.behind m.front m.page d q
  looks d q o = record { earlier = o.earlier; now = λ e t. absurd (let a = o.earlier in omega (arith, e, t, a)); late = λ y. omega (arith, y) }

  abbrev KnowsNow : ℕ → Known → Type 0
  KnowsNow = Knows E m.gate (E.epoch + 1) m.front m.low m.old_front m.old_low m.old_owed g m.page m.cross m.announced m.heap

  others : (j : ℕ) → j < team.count → j ≢ k → KnowsNow j (team.worker j)
  others j y d =
      let u = inv.workers j y in
      let a = λ (r : Round) (e : (team.worker j).round ≡ Some r). rounds (team.worker j).epoch r (u.pages.round r e) in
      let b = λ (q : LastLook) (e : (team.worker j).last_look ≡ Some q). looks (team.worker j).epoch q (u.pages.last_look q e) in
      let c : (team.worker j).traced_seen ≡ true → ((is_running (team.worker j).post ≡ true) ⊎ (is_asking (team.worker j).post ≡ true)) × (E.epoch + 1 ≡ E.epoch + 1) = λ e. ((u.seen_traced e).0, refl) in
      assumption

  own : KnowsNow k w'
  own =
      let u = me in
      let a = λ (r : Round) (e : (team.worker k).round ≡ Some r). rounds (team.worker k).epoch r (u.pages.round r e) in
      let b : (q : LastLook) → None ≡ Some q → LastLooks E (E.epoch + 1) m.gate.behind m.front m.page (team.worker k).epoch q = λ q e. none≢some e in
      let c : (team.worker k).traced_seen ≡ true → ((is_running (team.worker k).post ≡ true) ⊎ (is_asking (team.worker k).post ≡ true)) × (E.epoch + 1 ≡ E.epoch + 1) = λ e. ((u.seen_traced e).0, refl) in
      assumption

  cells : Cells E (with_traced m (E.epoch + 1)) (with_worker team k w') g
  cells =
      let writes : WritesRow E m (Some (TracedIs ((team.worker k).epoch + 1))) (with_traced m (E.epoch + 1)) = rw of_now (InTraced (E.epoch + 1)) in
      of_chain {m = m} (assumption)
      (tracing_carries_chain E m (with_traced m (E.epoch + 1)) m.weak m.weak_turn team g inv.cells.ranks k w' ready (ap is_some wins.walked) refl refl refl writes inv.cells.chain)
      (tracing_carries_targets E m (with_traced m (E.epoch + 1)) m.weak m.weak_turn team g inv.cells.ranks k ready wins.walked writes inv.cells.chain inv.cells.targets)

  pub invariant : Invariant E (with_traced m (E.epoch + 1)) (with_worker team k w') g
  invariant =
      let p1 = counted_put team.worker k w' refl refl inv.counted in
      let p2 = staffed_put team.worker k w' refl inv.staffed in
      let p3 = scanned_put team.worker k w' refl inv.scanned in
      let p4 : Room E (E.epoch + 1) m.front m.low m.owed g.size g.copy = record { needs = λ y. absurd (omega (arith, y)); fits = λ y. absurd (omega (arith, y)); small = inv.room.small } in
      let p5 : Tracing E (E.epoch + 1) m.gate.behind m.front m.page = record { begun = omega arith; bottom = omega arith; top = omega arith; quiet = λ _. now.0; last = λ _. now.1 } in
      let p6 : OldSpace E (E.epoch + 1) m.old_front m.old_low g.size m.heap m.page = record { walks = λ y. absurd (omega (arith, y)) } in
      let p7 = stocks_put team.worker k w' (λ _ e. e) inv.stocks in
      let p8 = numbered_put team.worker k w' refl inv.numbered in
      let p9 = cells in
      let p10 = team_put team.count KnowsNow team.worker k w' others own in
      assumption

  pub cycle : (p : Plain) → Cycle E m team g p → Cycle E (with_traced m (E.epoch + 1)) (with_worker team k w') g p
  cycle p y = record { copying = y.copying; rooted = rooted_put team.worker k w' refl refl refl (λ _ _ a b. (a, b)) y.rooted; made = made_put team.worker k w' refl y.made }

  pub traces : Traces E m team g k
  traces = record {
    now = of_now;
    steps = λ p q s follows. subst (λ (e : ℕ). StepsTo E m team g k (Some (TracedIs (e + 1))) w' g q) (sym of_now) (record {
      later = with_traced m (E.epoch + 1);
      writes = InTraced (E.epoch + 1);
      makes = record { invariant = invariant; shown = shown_traced E m team g p q follows s k w' refl refl; cycle = cycle; ages = λ page. omega arith };
    });
  }

-- ---- the epoch is traced

module _ (E : Era) (m : Memory) (team : Team) (g : Ghost) (out : IsLaidOut E) (inv : Invariant E m team g) (traced : m.traced ≡ E.epoch + 1) where
  quiet : Quiet E m.gate.behind m.front m.page
  quiet = inv.tracing.quiet traced

  last : IsLastOpen E m.front m.page
  last = inv.tracing.last traced

  all_open : (x : ℕ) → Here E g.size g.writer g.kind x → m.page (x / 64) ≡ Open E.epoch
  all_open x h = ⊎_elim
      (λ b. let a = out.board in let y : x / 64 ≡ E.board / 64 = omega (arith, b, a) in rw y quiet.board)
      (λ y. ⊎_elim
      (λ f. ⊎_elim
      (λ (z : m.front < 64 * (x / 64) + 64). last (x / 64) (omega (arith, f)) z)
      (λ (z : 64 * (x / 64) + 64 ≤ m.front). let a = out.start in quiet.full (x / 64) (omega (arith, f, a)) z)
      (cases_lt m.front (64 * (x / 64) + 64)))
      (λ n. n.2) y)
      (here_lies E m team g inv out x h)

  clean : (x : ℕ) → Here E g.size g.writer g.kind x → ¬ (Leads E (m.heap x))
  clean x h = inv.opened.opened x h (all_open x h)

  no_scan : (k : ℕ) (s : Scan) → k < team.count → ¬ ((team.worker k).scan ≡ Some s)
  no_scan k s below e = let y = scans_last E m team g inv k s below e quiet in open_scan (last s.page y.0 y.1) y.2

  no_copy : (k : ℕ) (c : Copy) → k < team.count → ¬ ((team.worker k).copy ≡ Some c)
  no_copy k c below e = let y = copies_last E m team g inv k c below e quiet in no_scan k y.0 below y.1

  no_place : (b : ℕ) → 0 < g.size b → g.writer b ≡ 0
  no_place = none_writes E m team g inv quiet (λ p j f n s. open_scan (last p f n) s)

  registers : (k r : ℕ) → k < team.count → r < 8 → is_mutator (team.worker k).post ≡ true → (team.worker k).account.end ≡ None → ¬ (Leads E ((team.worker k).registers r))
  registers k r below small mu end = let u = inv.workers k below in (u.registers mu end).clean r small (λ late. absurd (let q = u.licensed.counted late in let z = quiet.none in omega (arith, q, z)))

  pub leads_nowhere : NothingLeads E m team g
  leads_nowhere = record { opened = all_open; clean = clean; registers = registers; none_copies = no_copy; none_scans = no_scan; none_writes = no_place }
