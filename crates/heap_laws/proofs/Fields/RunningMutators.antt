-- A running mutator goes on.
use Rattle.std.proofs.Common.{◌≡◌, ◌≢◌, ℕ, ◌+◌, ◌<◌, true, false, Some, None, is_some, refl, sym, ap, ◌∙◌, arith, ⊎_elim, ◌⊎◌, inl, inr, ◌*◌, Option}
use Rattle.std.proofs.Common.{slice_get, slice_set}
use Rattle.std.proofs.Math.ListN.{length-set}
use Rattle.std.proofs.lemmas.Bool.{cases_eq}
use Rattle.std.proofs.lemmas.Option.{slice_get_within}
use Rattle.plain_state.specs.Reachable.{Reachable}
use Rattle.plain_state.specs.State.{Plain, Mutator}
use Rattle.space_map.specs.declared.page_word.PageWord.TheVariants.{Open}
use Rattle.plain_state.specs.declared.value.Identity.{Identity}
use Rattle.heap_state.specs.Cycles.Cycle.{Rooted, RootLeads, ByBoard, ByRegister, StillLeads, Cycle}
use Rattle.heap_state.specs.Memory.Era.{Era, Memory}
use Rattle.heap_state.specs.Functions.{put}
use Rattle.heap_state.specs.Invariant.Ghost.{Ghost}
use Rattle.heap_state.specs.Invariant.Inductive.{Invariant, Knows}
use Rattle.heap_state.specs.Invariant.Parts.Copying.{IsOrigin}
use Rattle.heap_state.specs.Invariant.Parts.Knowledge.{Clean, Ends, Passes}
use Rattle.heap_state.specs.Meaning.Values.{Accounts, RegistersShow, value_of, Shown}
use Rattle.heap_state.specs.Known.{Known, Team, Post, Running, Outside, Origin, Register, Scanned, Quest, Access, GateStep, is_mutator, is_live, is_running, is_flipper, is_gone, is_late, Reset, is_sized, is_asking}
use Rattle.heap_state.proofs.Workers.Frames.{counted_put, staffed_put, scanned_put, stocks_put, numbered_put}
use Rattle.heap_state.proofs.Puts.{put_at, put_other, each_put, team_put, none≢some, true_false}
use Rattle.heap_laws.specs.Composing.{IsAtMost, SameScan}
use Rattle.heap_laws.specs.Fields.Held.{MutatorGoesOn, with_mutator}
use Rattle.heap_laws.specs.Steps.{with_worker}
use Rattle.plain_state.proofs.Elements.{slice_get-set_other, set-found}
use Rattle.heap_laws.proofs.Scanning.Scanners.{now_not_late}
use Rattle.heap_laws.proofs.Frames.Values.{still_leads}
use Rattle.heap_laws.proofs.Cells.Kept.{same_keeps, in_chain, less_in_chain}
use Rattle.heap_laws.proofs.Targets.Frames.{made_put}
use Rattle.heap_laws.proofs.Steps.Composing.{knows_less}
use Rattle.heap_laws.proofs.Steps.Forgotten.{same_round}
use Rattle.space_map.specs.declared.spaces.TheConstants.{PAGE_WORDS}

-- ---- posts

-- who runs is no flipper, asks for nothing, is not gone, not outside, and a mutator
pub record RunsAsMutator (post : Post) : Type 0 where
  pub flips : is_flipper post ≡ false
  pub asks : is_asking post ≡ false
  pub gone : is_gone post ≡ false
  pub outside : post ≢ Outside
  pub mutator : is_mutator post ≡ true
  pub live : is_live post ≡ true

pub runs : (post : Post) → is_running post ≡ true → RunsAsMutator post
runs Running r = record { flips = refl; asks = refl; gone = refl; outside = λ e. absurd (cc); mutator = refl; live = refl }
runs _ r = absurd (cc)

-- who runs is not late
pub timely : (E : Era) (w : Known) → is_running w.post ≡ true → (is_running w.post ≡ true → w.epoch ≡ E.epoch) → is_late E.epoch w ≡ false
timely E w r now = now_not_late E.epoch w.epoch w.post (now r)

-- who has no flip in progress has stored no size
pub none_sized : (o : Option Reset) → ((r : Reset) → o ≡ Some r → ⊥) → is_sized o ≡ false
none_sized None none = refl
none_sized (Some r) none = absurd (none r refl)

-- ---- the invariant

-- what mutator k knows after it went on
module _ (E : Era) (m : Memory) (team : Team) (g : Ghost) (k : ℕ) (next : Known) (inv : Invariant E m team g) (l : k < team.count) (run : is_running (team.worker k).post ≡ true) (goes : MutatorGoesOn E m g (team.worker k) next) where
  abbrev w : Known
  w = team.worker k

  me : Knows E m.gate m.traced m.front m.low m.old_front m.old_low m.old_owed g m.page m.cross m.announced m.heap k w
  me = inv.workers k l

  still_runs : is_running next.post ≡ true
  still_runs = rw goes.post run

  late : is_late E.epoch w ≡ false
  late = timely E w run me.timely.running

  still_late : is_late E.epoch next ≡ false
  still_late = rw (goes.post, goes.epoch) late

  origin : (q : Quest) → next.quest ≡ Some q → IsOrigin E g.size g.writer g.kind m.heap (is_late E.epoch next) next.done next.registers next.scan q.old q.origin
  origin q e = by_origin q.old q.origin (me.origin q (sym goes.quest ∙ e))
    where
      by_origin : (old : ℕ) (o : Origin) → IsOrigin E g.size g.writer g.kind m.heap (is_late E.epoch w) w.done w.registers w.scan old o → IsOrigin E g.size g.writer g.kind m.heap (is_late E.epoch next) next.done next.registers next.scan old o
      by_origin old (Register r) p = true_false late p.0
      by_origin old (Scanned x) p = rw goes.scan p

  -- it forgets what it accesses and which page is open
  abbrev before : Known
  before = record next { account = w.account; registers = w.registers; access = None; opened = None; traced_seen = w.traced_seen; size_seen = w.size_seen }

  no_reset : (r : Reset) → w.reset ≡ Some r → ⊥
  no_reset r e = true_false (runs w.post run).flips (me.resets r e)

  sized : is_sized next.reset ≡ is_sized w.reset
  sized = none_sized next.reset (λ r e. no_reset r (goes.reset r e)) ∙ sym (none_sized w.reset no_reset)

  forgets : IsAtMost before w
  forgets = record {
    others = assumption (goes);
    scan = SameScan goes.scan;
    hand = record { stock = goes.stock; access = λ f e. none≢some e; opened = λ p e. none≢some e };
    round = λ r e. same_round w r (goes.round r e);
    pages = goes.pages;
    gate = record { gate_step = λ s e. none≢some (sym goes.gate_step ∙ e); reset = goes.reset; sized = sized; size_seen = λ p e. e; traced_seen = λ e. e; asks = λ _. refl };
    chain = goes.chain;
  }

  -- and what it then learns is so
  knows : Knows E m.gate m.traced m.front m.low m.old_front m.old_low m.old_owed g m.page m.cross m.announced m.heap k next
  knows =
      let knew = knows_less E m g k before w forgets me in
      let ends : Ends next.post (is_some next.account.end) = record { stays = λ e. inl still_runs; gone = λ e. true_false (runs next.post still_runs).gone e } in
      let outside : next.post ≡ Outside → (j : ℕ) → j < 8 → next.registers j ≡ 0 = λ e. absurd ((runs next.post still_runs).outside e) in
      let registers : is_mutator next.post ≡ true → next.account.end ≡ None → Clean E g.size g.writer (is_late E.epoch next) next.done next.registers =
      λ u n. record { clean = λ j s t. (goes.registers n j s).clean; lands = λ j s. (goes.registers n j s).lands; old = λ t. true_false still_late t } in
      let active : (f : Access) → next.access ≡ Some f → is_running next.post ≡ true = λ f e. still_runs in
      let opened : (p : ℕ) → next.opened ≡ Some p → (is_running next.post ≡ true) × (m.page p ≡ Open E.epoch) = λ p e. (still_runs, goes.opened p e) in
      let seen_traced : next.traced_seen ≡ true → ((is_running next.post ≡ true) ⊎ (is_asking next.post ≡ true)) × (m.traced ≡ E.epoch + 1) = λ e. (inl still_runs, goes.traced_seen e) in
      let size_seen : (p : ℕ) → next.size_seen ≡ Some p → (is_running next.post ≡ true) × (E.span ≡ PAGE_WORDS * p) = λ p e. (still_runs, goes.size_seen p e) in
      let asks : is_asking next.post ≡ true → next.traced_seen ≡ true = λ e. true_false (runs next.post still_runs).asks e in
      let passage : (s : GateStep) → next.gate_step ≡ Some s → Passes next.post next.epoch next.done (is_some next.account.end) next.traced_seen s.read s.passage = λ s e. none≢some (sym goes.gate_step ∙ e) in
      assumption (origin)

  keeps : Invariant E m (with_worker team k next) g
  keeps =
      let a = counted_put team.worker k next goes.post goes.epoch inv.counted in
      let b = staffed_put team.worker k next (ap is_mutator goes.post) inv.staffed in
      let c = scanned_put team.worker k next goes.scan inv.scanned in
      let d = numbered_put team.worker k next goes.serial inv.numbered in
      let e = stocks_put team.worker k next goes.stock inv.stocks in
      let f = team_put team.count (Knows E m.gate m.traced m.front m.low m.old_front m.old_low m.old_owed g m.page m.cross m.announced m.heap) team.worker k next (λ j s d. inv.workers j s) knows in
      let h = same_keeps E m m team g g k next (assumption) (assumption) (assumption) (in_chain E next w goes.post goes.epoch goes.scan (less_in_chain next w goes.quest goes.reset goes.chain)) inv.cells in
      assumption

  -- ---- the cycle

  rooted : (p : Plain) → Rooted E m.front team.count g.size g.writer g.identity m.heap team.worker p → Rooted E m.front team.count g.size g.writer g.identity m.heap (put team.worker k next) p
  rooted p r = record {
    roots = λ i root. ⊎_elim (λ c. inl c) (λ t. inr (leads i t)) (r.roots i root);
    sound = λ j x i s mu n b. each_put (λ a u. a ≡ j → is_mutator u.post ≡ true → u.account.end ≡ None → StillLeads E g.identity (u.registers x) i → Reachable p i) team.worker k next j
        (λ _ _ mu n t. r.sound j x i s mu n b t)
        (λ _ _ mu n t. absurd ((goes.registers n x b).clean (still_leads E g.identity (next.registers x) i t)))
        refl mu n;
  }
    where
      leads : (i : Identity) → RootLeads E team.count g.identity m.heap team.worker i → RootLeads E team.count g.identity m.heap (put team.worker k next) i
      leads i (ByBoard x s t) = ByBoard x s t
      leads i (ByRegister j x a b t d y) = let n : j ≢ k = (λ e. true_false late (rw (ap team.worker e) at t)) in
          ByRegister j x a b (rw (put_other team.worker k next j n) t) (rw (put_other team.worker k next j n) d) (rw (put_other team.worker k next j n) y)

-- a running mutator goes on: the invariant is kept
abbrev pub MutatorsGoOn : Type 0
MutatorsGoOn = (E : Era) (m : Memory) (team : Team) (g : Ghost) (k : ℕ) (next : Known) → Invariant E m team g → k < team.count
    → is_running (team.worker k).post ≡ true → MutatorGoesOn E m g (team.worker k) next → Invariant E m (with_worker team k next) g

pub mutators_go_on : MutatorsGoOn
mutators_go_on = keeps

-- what a cycle keeps is kept
abbrev pub GoingOnKeepsCycle : Type 0
GoingOnKeepsCycle = (E : Era) (m : Memory) (team : Team) (g : Ghost) (p : Plain) (k : ℕ) (next : Known) → Invariant E m team g → k < team.count
    → is_running (team.worker k).post ≡ true → MutatorGoesOn E m g (team.worker k) next → Cycle E m team g p → Cycle E m (with_worker team k next) g p

pub going_on_keeps_cycle : GoingOnKeepsCycle
going_on_keeps_cycle E m team g p k next inv l run goes cy = record {
  copying = cy.copying;
  rooted = rooted E m team g k next inv l run goes p cy.rooted;
  made = made_put team.worker k next goes.serial cy.made;
}

-- ---- the plain state

-- where its account and registers are those of a plain mutator, the plain state with that mutator is shown
abbrev pub GoingOnShows : Type 0
GoingOnShows = (E : Era) (m : Memory) (team : Team) (g : Ghost) (p : Plain) (k : ℕ) (next : Known) (q : Mutator) → Shown E m team g p
    → Accounts p.heap k next.account q → RegistersShow (value_of g.identity) next.registers q
    → Shown E m (with_worker team k next) g (with_mutator p k q)

pub going_on_shows : GoingOnShows
going_on_shows E m team g p k next q s same shows = record {
  objects = s.objects;
  targets = s.targets;
  board = s.board;
  as_many = length-set p.mutators k q ∙ s.as_many;
  makers = s.makers;
  accounts = λ j r e. by_number j r e (cases_eq j k);
  registers = λ j r e. by_register j r e (cases_eq j k);
}
  where
    mine : (j : ℕ) (r : Mutator) → slice_get (slice_set p.mutators k q) j ≡ Some r → j ≡ k → q ≡ r
    mine j r e d =
        let within = slice_get_within (slice_set p.mutators k q) j r e in
        set-found p.mutators k j q r d (let n = length-set p.mutators k q in omega arith) e

    by_number : (j : ℕ) (r : Mutator) → slice_get (slice_set p.mutators k q) j ≡ Some r → (j ≡ k) ⊎ (j ≢ k) → Accounts p.heap j (put team.worker k next j).account r
    by_number j r e (inl d) = rw (put_at team.worker k next j d, ← mine j r e d, d) same
    by_number j r e (inr d) = rw (put_other team.worker k next j d) (s.accounts j r (sym (slice_get-set_other p.mutators k j q d) ∙ e))

    by_register : (j : ℕ) (r : Mutator) → slice_get (slice_set p.mutators k q) j ≡ Some r → (j ≡ k) ⊎ (j ≢ k) → RegistersShow (value_of g.identity) (put team.worker k next j).registers r
    by_register j r e (inl d) = rw (put_at team.worker k next j d, ← mine j r e d) shows
    by_register j r e (inr d) = rw (put_other team.worker k next j d) (s.registers j r (sym (slice_get-set_other p.mutators k j q d) ∙ e))
