-- What a worker knows once it has passed the gate into or within the current epoch.
use Rattle.std.proofs.Common.{◌≡◌, ℕ, ◌+◌, ◌<◌, Bool, true, false, Option, Some, None, is_some, refl, ap, arith, ⊎_elim, ◌⊎◌, inl, inr, ◌*◌, ◌≤◌}
use Rattle.space_map.specs.declared.gate_word.GateWord.{GateWord}
use Rattle.space_map.specs.declared.page_word.PageWord.{PageWord}
use Rattle.space_map.specs.declared.page_word.PageWord.TheVariants.{Open}
use Rattle.heap_state.specs.Memory.Era.{Era, Memory}
use Rattle.heap_state.specs.Functions.{count_one}
use Rattle.heap_state.specs.Invariant.Ghost.{Ghost}
use Rattle.heap_state.specs.Invariant.Inductive.{Invariant, Knows, KnowsAtPages}
use Rattle.heap_state.specs.Invariant.Parts.Copying.{IsOrigin}
use Rattle.heap_state.specs.Invariant.Parts.Knowledge.{Ends, Clean, Accesses}
use Rattle.heap_state.specs.Known.{Known, Team, Post, Outside, Origin, Register, Scanned, Quest, Stock, Access, Reset, is_mutator, is_running, is_late, is_asking}
use Rattle.heap_state.proofs.Puts.{none≢some, true_false}
use Rattle.heap_state.proofs.Workers.Idle.{at_rest, nothing_at_pages}
use Rattle.heap_laws.specs.Gate.{into_epoch}
use Rattle.heap_laws.proofs.Flipping.Sums.{sum_below-term, one_of}
use Rattle.heap_laws.proofs.Scanning.Scanners.{now_not_late}
use Rattle.space_map.specs.declared.spaces.TheConstants.{PAGE_WORDS}
use Rattle.heap_state.proofs.Workers.Posts.{flips_ask}

module _ (E : Era) (m : Memory) (team : Team) (g : Ghost) (inv : Invariant E m team g) where
  -- no flip is in progress
  abbrev pub NoneFlips : Type 0
  NoneFlips = (j : ℕ) (r : Reset) → j < team.count → (team.worker j).reset ≡ Some r → ⊥

  -- so it is where somebody runs or is behind, or nothing is requested
  pub no_reset : (m.gate.request ≡ false) ⊎ ((0 < m.gate.running) ⊎ (0 < m.gate.behind)) → NoneFlips
  no_reset busy j r l e = by_gate busy
    where
      u : Knows E m.gate m.traced m.front m.low m.old_front m.old_low m.old_owed g m.page m.cross m.announced m.heap j (team.worker j)
      u = inv.workers j l

      none_of : (b : Bool) → b ≡ false → count_one b ≡ 0
      none_of b e = rw e refl

      by_gate : (m.gate.request ≡ false) ⊎ ((0 < m.gate.running) ⊎ (0 < m.gate.behind)) → ⊥
      by_gate (inl q) =
          let t = sum_below-term team.count (λ i. count_one (is_asking (team.worker i).post)) j l in
          let a = one_of (is_asking (team.worker j).post) (flips_ask (team.worker j).post (u.resets r e)) in
          let b = none_of m.gate.request q in let c = inv.counted.request in omega (arith, t, a, b, c)
      by_gate (inr (inl q)) = let o = u.reset r e in let z = ap (λ (w : GateWord). w.running) o.unmoved in omega (arith, o.stopped, z, q)
      by_gate (inr (inr q)) = let o = u.reset r e in let z = ap (λ (w : GateWord). w.behind) o.unmoved in omega (arith, o.stopped, z, q)

-- who comes into an epoch has no round of the duty
pub none_at_pages : {E : Era} {traced front behind : ℕ} {size writer : ℕ → ℕ} {page : ℕ → PageWord} (w : Known) (epoch : ℕ) → KnowsAtPages E traced front behind size writer page (into_epoch w epoch)
none_at_pages {E} {traced} {front} {behind} {size} {writer} {page} w epoch =
    let none : KnowsAtPages E traced front behind size writer page (at_rest (record w { epoch = epoch })) = nothing_at_pages (record w { epoch = epoch }) in
    assumption

-- what it brings with it: its run and its round of the duty are those of `duty`
pub record Brings (E : Era) (m : Memory) (g : Ghost) (behind : ℕ) (w : Known) (post : Post) (epoch done : ℕ) (duty : Known) (access : Option Access) (opened size_seen : Option ℕ) (traced_seen : Bool) : Type 0 where
  pub now : epoch ≡ E.epoch
  pub done_none : done ≡ 0
  pub inside : post ≡ Outside → ⊥
  pub ends : Ends post (is_some w.account.end)
  pub not_asked : (q : Quest) → is_late E.epoch w ≡ true → w.quest ≡ Some q → ⊥
  pub clean : is_mutator post ≡ true → w.account.end ≡ None → Clean E g.size g.writer false 0 w.registers
  pub stocks : (q : Stock) → duty.stock ≡ Some q → q.epoch ≡ epoch
  pub accesses : (f : Access) → access ≡ Some f → (is_running post ≡ true) × Accesses E g.size g.writer g.kind f
  pub opens : (p : ℕ) → opened ≡ Some p → (is_running post ≡ true) × (m.page p ≡ Open E.epoch)
  pub pages : KnowsAtPages E m.traced m.front behind g.size g.writer m.page (record duty { epoch = epoch })
  pub sizes : (p : ℕ) → size_seen ≡ Some p → (is_running post ≡ true) × (E.span ≡ PAGE_WORDS * p)
  pub seen : traced_seen ≡ true → ((is_running post ≡ true) ⊎ (is_asking post ≡ true)) × (m.traced ≡ E.epoch + 1)
  pub asks : is_asking post ≡ true → traced_seen ≡ true
  pub unsized : is_asking post ≡ true → E.old_span ≤ E.span

module _ (E : Era) (m : Memory) (team : Team) (g : Ghost) (k : ℕ) (gate' : GateWord) (inv : Invariant E m team g) (below : k < team.count) (no_flip : (r : Reset) → (team.worker k).reset ≡ Some r → ⊥)
    (post : Post) (epoch done : ℕ) (duty : Known) (access : Option Access) (opened size_seen : Option ℕ) (traced_seen : Bool) (brings : Brings E m g gate'.behind (team.worker k) post epoch done duty access opened size_seen traced_seen) where
  abbrev w : Known
  w = team.worker k

  abbrev passed : Known
  passed = record duty {
    post = post;
    epoch = epoch;
    account = w.account;
    registers = w.registers;
    done = done;
    access = access;
    opened = opened;
    quest = w.quest;
    copy = w.copy;
    scan = w.scan;
    traced_seen = traced_seen;
    size_seen = size_seen;
    gate_step = None;
    reset = w.reset;
  }

  me : Knows E m.gate m.traced m.front m.low m.old_front m.old_low m.old_owed g m.page m.cross m.announced m.heap k w
  me = inv.workers k below

  late : is_late E.epoch passed ≡ false
  late = now_not_late E.epoch epoch post brings.now

  origin : (q : Quest) → w.quest ≡ Some q → (o : Origin) → IsOrigin E g.size g.writer g.kind m.heap (is_late E.epoch w) w.done w.registers w.scan q.old o
      → IsOrigin E g.size g.writer g.kind m.heap (is_late E.epoch passed) done w.registers w.scan q.old o
  origin q e (Register r) y = absurd (brings.not_asked q y.0 e)
  origin q e (Scanned x) y = y

  pub knows_then : Knows E gate' m.traced m.front m.low m.old_front m.old_low m.old_owed g m.page m.cross m.announced m.heap k passed
  knows_then = let now = brings.now in let none = brings.done_none in record {
    timely = record { past = omega (arith, now); live = λ e. inl now; running = λ e. now; asking = λ e. now; rest = λ e. none; below = omega (arith, none) };
    ends = brings.ends;
    outside = λ e. absurd (brings.inside e);
    stock = brings.stocks;
    registers = λ mu e. let c = brings.clean mu e in record { clean = λ j l f. c.clean j l (λ t. absurd (let q : false ≡ true = t in cc)); lands = c.lands; old = λ t. true_false late t };
    active = λ f e. (brings.accesses f e).0;
    access = λ f e. (brings.accesses f e).1;
    opened = brings.opens;
    origin = λ q e. origin q e q.origin (me.origin q e);
    quest = me.quest;
    licensed = record {
      licensed = λ c e. ⊎_elim (λ y. inl y) (λ y. absurd (let a = me.licensed.asked c e in brings.not_asked a.0 y a.1)) (me.licensed.licensed c e);
      asked = me.licensed.asked;
      counted = λ e. true_false late e;
      idle = me.licensed.idle;
    };
    copy = me.copy;
    keeps = me.keeps;
    present = λ s e. now;
    scan = me.scan;
    stepping = me.stepping;
    pages = assumption (brings.pages);
    seen_traced = brings.seen;
    size_seen = brings.sizes;
    asks = brings.asks;
    passage = λ s e. none≢some e;
    resets = λ r e. absurd (no_flip r e);
    reset = λ r e. absurd (no_flip r e);
    unsized = λ e _. brings.unsized e;
  }
