-- What the gate counts and what each worker knows after a flip.
use Rattle.std.proofs.Common.{◌≡◌, ◌≢◌, ℕ, ◌+◌, ◌/◌, ◌<◌, ◌≤◌, Bool, true, false, Some, None, is_some, refl, sym, ap, ◌∙◌, arith, ⊎_elim, inl, inr}
use Rattle.std.proofs.lemmas.Bool.{cases_eq, cases_Bool, eq-eqb}
use Rattle.space_map.specs.declared.gate_word.GateWord.{GateWord}
use Rattle.space_map.specs.PageWord.{age_of}
use Rattle.heap_state.specs.Memory.Era.{Era, Memory}
use Rattle.heap_state.specs.Functions.{count_one}
use Rattle.heap_state.specs.Invariant.Ghost.{Ghost}
use Rattle.heap_state.specs.Invariant.Inductive.{Knows, KnowsAtPages}
use Rattle.heap_state.specs.Invariant.Parts.Copying.{IsOrigin, Licensed}
use Rattle.heap_state.specs.Invariant.Parts.Knowledge.{Timely, Clean, Passes}
use Rattle.heap_state.specs.Invariant.Parts.Scanning.{Rounds, Claims, Looks, LastLooks}
use Rattle.heap_state.specs.Known.{Known, Team, Post, Scanner, Outside, Stopped, Flipping, Gone, Passage, Origin, Register, Scanned, Quest, Round, Claim, Look, LastLook, GateStep, is_mutator, is_live, is_running, is_gone, is_behind, is_late, Clear, is_asking}
use Rattle.heap_state.proofs.Puts.{none≢some, true_false}
use Rattle.heap_laws.specs.Flipping.Flip.{next_era, next_ghost, flipped_gate, after_flip}
use Rattle.heap_laws.proofs.Flipping.FlippedParts.{ReadyToFlip, nothing, lands_on, leads_inside, page_age, board_age}
use Rattle.heap_laws.proofs.Flipping.Sums.{sum_below-term, one_of}
use Rattle.heap_laws.proofs.Scanning.Scanners.{open_age}
use Rattle.heap_laws.proofs.Frames.Values.{zero_clean, zero_lands}
use Rattle.heap_state.proofs.Workers.Posts.{flips_ask}

-- ---- words and bits

pub none_true : (b : Bool) → (b ≡ true → ⊥) → b ≡ false
none_true true f = absurd (f refl)
none_true false f = refl

-- a mutator that has no end and is not live is outside
pub not_live : (post : Post) → is_mutator post ≡ true → is_live post ≡ false → is_gone post ≡ false → post ≡ Outside
not_live Outside m l g = refl
not_live _ m l g = absurd (cc)

-- who is not live, is no flipper and does not run is late in no epoch
behind_live : (e own : ℕ) (post : Post) → is_behind e post own ≡ true → is_live post ≡ true
behind_live e own Scanner b = absurd (cc)
behind_live e own Outside b = absurd (cc)
behind_live e own Gone b = absurd (cc)
behind_live e own _ b = refl

behind_next : (e own : ℕ) (post : Post) → (is_live post ≡ true → own ≡ e) → is_behind (e + 1) post own ≡ is_live post
behind_next e own Scanner h = refl
behind_next e own Outside h = refl
behind_next e own Gone h = refl
behind_next e own _ h = let z : own + 1 ≡ e + 1 = ap (λ i. i + 1) (h refl) in eq-eqb (own + 1) (e + 1) z

behind_now : (e own : ℕ) (post : Post) → is_live post ≡ true → own + 1 ≡ e → is_behind e post own ≡ true
behind_now e own post l z = rw (l, eq-eqb (own + 1) e z) refl

-- who flips has no step at the gate before
flipper_passes : (asked epoch done : ℕ) (ended seen : Bool) (read : GateWord) (p : Passage) {A : Type 0} → Passes (Flipping asked) epoch done ended seen read p → A
flipper_passes asked epoch done ended seen read Clear q = absurd (cc)
flipper_passes asked epoch done ended seen read _ q = absurd (let y = q.0 in cc)

module _ {E : Era} {m : Memory} {team : Team} {g : Ghost} (ready : ReadyToFlip E m team g) where
  abbrev E1 : Era
  E1 = next_era E

  abbrev g1 : Ghost
  g1 = next_ghost E g

  abbrev gate' : GateWord
  gate' = flipped_gate m.gate

  knows : (j : ℕ) → j < team.count → Knows E m.gate m.traced m.front m.low m.old_front m.old_low m.old_owed g m.page m.cross m.announced m.heap j (team.worker j)
  knows = ready.inv.workers

  pub idle : (j : ℕ) → j < team.count → is_running (team.worker j).post ≡ true → ⊥
  idle j l e = let q = sum_below-term team.count (λ k. count_one (is_running (team.worker k).post)) j l in let t = one_of (is_running (team.worker j).post) e in let c = ready.inv.counted.running in let s = ready.still in omega (arith, q, t, c, s)

  pub none_late : (j : ℕ) → j < team.count → is_late E.epoch (team.worker j) ≡ true → ⊥
  none_late j l e = let q = (knows j l).licensed.counted e in let n = ready.none in omega (arith, q, n)

  pub current : (j : ℕ) → j < team.count → is_live (team.worker j).post ≡ true → (team.worker j).epoch ≡ E.epoch
  current j l live = ⊎_elim (λ z. z) (λ z. absurd (none_late j l (behind_now E.epoch (team.worker j).epoch (team.worker j).post live z))) ((knows j l).timely.live live)

  pub late_is : (j : ℕ) → j < team.count → is_late (E.epoch + 1) (team.worker j) ≡ is_live (team.worker j).post
  late_is j l = behind_next E.epoch (team.worker j).epoch (team.worker j).post (current j l)

  pub done_none : (j : ℕ) → j < team.count → (team.worker j).done ≡ 0
  done_none j l = (knows j l).timely.rest (none_true (is_late E.epoch (team.worker j)) (none_late j l))

  module _ (j : ℕ) (l : j < team.count) where
    abbrev u : Known
    u = team.worker j

    old_page : (c : Claim) → Claims E m.front m.gate.behind g.size g.writer m.page u.epoch c → u.epoch ≡ E.epoch → age_of (m.page c.page) ≡ E.epoch + 1
    old_page c p e = ⊎_elim
        (λ (i : c.in_place ≡ true). let v = p.last e i in ⊎_elim (λ y. y) (λ y. open_age (m.page c.page) E.epoch (ready.inv.tracing.last ready.traced c.page v.1 y.0)) v.2)
        (λ (i : c.in_place ≡ false). ⊎_elim
        (λ y. page_age ready c.page y.0 (omega (arith, y.1)))
        (λ (y : c.page ≡ E.board / 64). let b = board_age ready in rw y b)
        (p.full e i))
        (cases_Bool c.in_place)

    past : u.epoch ≤ E.epoch
    past = (knows j l).timely.past

    pub claims : (c : Claim) → u.claim ≡ Some c → Claims E1 m.old_front m.gate.live g1.size g1.writer m.page u.epoch c
    claims c e = let p = (knows j l).pages.claim c e in record {
      earlier = p.earlier;
      in_place = p.in_place;
      full = λ y i. absurd (let z = past in omega (arith, y, z));
      clear = λ y i. absurd (let z = past in omega (arith, y, z));
      last = λ y i. absurd (let z = past in omega (arith, y, z));
      late = λ s y. ⊎_elim (λ (n : u.epoch ≡ E.epoch). let q = old_page c p n in omega (arith, q, n)) (λ (n : u.epoch ≢ E.epoch). let z = past in p.late s (omega (arith, n, z))) (cases_eq u.epoch E.epoch);
    }

    pub looks : (c : Look) → u.look ≡ Some c → Looks E1 m.gate.live m.old_front m.page u.epoch c
    looks c e = let p = (knows j l).pages.look c e in let z = past in record {
      earlier = p.earlier;
      none = λ y. absurd (omega (arith, y, z));
      board = λ y. absurd (omega (arith, y, z));
      full = λ y. absurd (omega (arith, y, z));
      last = λ y. absurd (omega (arith, y, z));
      start = (λ y. absurd (omega (arith, y, z)), λ y. p.start.0 (omega (arith, y)));
      late = λ y b q s f. ⊎_elim
          (λ (n : u.epoch ≡ E.epoch). let w = p.start.0 n in let h = (p.none n).1 in let a = page_age ready q (omega (arith, w, s)) (omega (arith, h, f)) in omega (arith, a, n))
          (λ (n : u.epoch ≢ E.epoch). p.late (omega (arith, n, z)) (⊎_elim (λ t. inl t) (λ t. absurd (omega (arith, t, n))) b) q s f)
          (cases_eq u.epoch E.epoch);
    }

    pub last_looks : (c : LastLook) → u.last_look ≡ Some c → LastLooks E1 m.traced m.gate.live m.old_front m.page u.epoch c
    last_looks c e = let p = (knows j l).pages.last_look c e in let z = past in let t = ready.traced in record { earlier = p.earlier; now = λ y. absurd (omega (arith, y, z)); late = λ y. omega (arith, z, t) }

    pub rounds : (r : Round) → u.round ≡ Some r → Rounds E1 m.traced m.old_front u.epoch r
    rounds r e = let p = (knows j l).pages.round r e in let z = past in record { traced_then = p.traced_then; front_then = λ f q y. absurd (omega (arith, y, z)) }

    at_pages : KnowsAtPages E1 m.traced m.old_front m.gate.live g1.size g1.writer m.page u
    at_pages = assumption ((knows j l).pages, rounds, claims, looks, last_looks)

    pub no_quest : (q : Quest) → u.quest ≡ Some q → ⊥
    no_quest q e = by_origin q.origin ((knows j l).origin q e)
      where
        by_origin : (o : Origin) → IsOrigin E g.size g.writer g.kind m.heap (is_late E.epoch u) u.done u.registers u.scan q.old o → ⊥
        by_origin (Register r) y = none_late j l y.0
        by_origin (Scanned x) y = (nothing ready).none_scans j y.0.0 l y.0.1

    -- registers of who has no end
    pub registers : is_mutator u.post ≡ true → u.account.end ≡ None → Clean E1 g1.size g1.writer (is_late (E.epoch + 1) u) u.done u.registers
    registers mu end = ⊎_elim
        (λ (live : is_live u.post ≡ true). record {
          clean = λ r s h. absurd (let y = h (late_is j l ∙ live) in let d = done_none j l in omega (arith, y, d));
          lands = λ r s. lands_on ready (u.registers r) (((knows j l).registers mu end).lands r s) ((nothing ready).registers j r l s mu end);
          old = λ t r b d s e. leads_inside ready (u.registers r) b (((knows j l).registers mu end).lands r s) ((nothing ready).registers j r l s mu end) e;
        })
        (λ (dead : is_live u.post ≡ false).
        let out : u.post ≡ Outside = not_live u.post mu dead (none_true (is_gone u.post) (λ e. let q = (knows j l).ends.gone e in true_false (ended end) q)) in
        let zero : (r : ℕ) → r < 8 → u.registers r ≡ 0 = (knows j l).outside out in
        record {
          clean = λ r s h. rw (zero r s) (zero_clean E1 0 refl);
          lands = λ r s. rw (zero r s) (zero_lands g1.size g1.writer 0 refl);
          old = λ t. true_false (late_is j l ∙ dead) t;
        })
        (cases_Bool (is_live u.post))
      where
        ended : u.account.end ≡ None → is_some u.account.end ≡ false
        ended e = rw e refl

    pub timely : (post : Post) → is_live post ≡ is_live u.post → is_running post ≡ false → is_asking post ≡ false → Timely E1 post u.epoch u.done
    timely post same still none = let z = past in record {
      past = omega (arith, z);
      live = λ e. inr (let q = current j l (sym same ∙ e) in omega (arith, q));
      running = λ e. true_false still e;
      asking = λ e. true_false none e;
      rest = λ e. done_none j l;
      below = (knows j l).timely.below;
    }

    -- who has a copy, a quest or a scan: nobody
    pub licensed : (post : Post) → is_live post ≡ is_live u.post → Licensed m.gate.live g1.kept j (is_behind (E.epoch + 1) post u.epoch) u.copy u.quest u.scan
    licensed post same = record {
      licensed = λ c e. absurd ((nothing ready).none_copies j c l e);
      asked = λ c e. absurd ((nothing ready).none_copies j c l e);
      counted = λ e. let live : is_live u.post ≡ true = sym same ∙ behind_live (E.epoch + 1) u.epoch post e in
          let q = sum_below-term team.count (λ k. count_one (is_live (team.worker k).post)) j l in let t = one_of (is_live u.post) live in let c = ready.inv.counted.live in omega (arith, q, t, c);
      idle = λ e. refl;
    }

    -- what another than the flipper knows
    pub other : is_asking u.post ≡ false → Knows E1 gate' m.traced m.old_front m.old_low m.front m.low m.owed g1 m.page m.cross m.announced m.heap j u
    other none = let still = none_true (is_running u.post) (idle j l) in let k = knows j l in record {
      timely = timely u.post refl still none;
      ends = k.ends;
      outside = k.outside;
      stock = k.stock;
      registers = registers;
      active = k.active;
      access = λ f e. absurd (idle j l (k.active f e));
      opened = λ p e. absurd (idle j l (k.opened p e).0);
      origin = λ q e. absurd (no_quest q e);
      quest = λ q e. absurd (no_quest q e);
      licensed = licensed u.post refl;
      copy = λ c e. absurd ((nothing ready).none_copies j c l e);
      keeps = λ c e. absurd ((nothing ready).none_copies j c l e);
      present = λ s e. absurd ((nothing ready).none_scans j s l e);
      scan = λ s e. absurd ((nothing ready).none_scans j s l e);
      stepping = λ s e. absurd ((nothing ready).none_scans j s l e);
      pages = at_pages;
      seen_traced = λ e. absurd (⊎_elim (λ y. true_false still y) (λ y. true_false none y) (k.seen_traced e).0);
      size_seen = λ p e. absurd (idle j l (k.size_seen p e).0);
      asks = k.asks;
      passage = k.passage;
      resets = k.resets;
      reset = λ r e. true_false none (flips_ask u.post (k.resets r e));
      unsized = λ e. true_false none e;
    }

    -- and what the flipper knows
    pub flipper : (asked : ℕ) → u.post ≡ Flipping asked → Knows E1 gate' m.traced m.old_front m.old_low m.front m.low m.owed g1 m.page m.cross m.announced m.heap j (after_flip u)
    flipper asked at = let k = knows j l in let same : is_live Stopped ≡ is_live u.post = sym (ap is_live at) in record {
      timely = timely Stopped same refl refl;
      ends = record { stays = λ e. absurd (⊎_elim (λ y. idle j l y) (λ y. true_false (ap is_gone at) y) (k.ends.stays e)); gone = λ e. absurd (cc) };
      outside = λ e. absurd (cc);
      stock = k.stock;
      registers = λ mu end. let c = registers (ap is_mutator at) end in let late : is_late (E.epoch + 1) u ≡ is_behind (E.epoch + 1) Stopped u.epoch = ap (λ p. is_behind (E.epoch + 1) p u.epoch) at in rw late at c;
      active = λ f e. absurd (idle j l (k.active f e));
      access = λ f e. absurd (idle j l (k.active f e));
      opened = λ p e. absurd (idle j l (k.opened p e).0);
      origin = λ q e. absurd (no_quest q e);
      quest = λ q e. absurd (no_quest q e);
      licensed = licensed Stopped same;
      copy = λ c e. absurd ((nothing ready).none_copies j c l e);
      keeps = λ c e. absurd ((nothing ready).none_copies j c l e);
      present = λ s e. absurd ((nothing ready).none_scans j s l e);
      scan = λ s e. absurd ((nothing ready).none_scans j s l e);
      stepping = λ s e. absurd ((nothing ready).none_scans j s l e);
      pages = assumption (at_pages);
      seen_traced = λ e. absurd (cc);
      size_seen = λ p e. absurd (idle j l (k.size_seen p e).0);
      asks = λ e. absurd (cc);
      passage = λ s e. absurd (no_step s (k.passage s e));
      resets = λ r e. none≢some e;
      reset = λ r e. none≢some e;
      unsized = λ e. absurd (cc);
    }
      where
        no_step : (s : GateStep) → Passes u.post u.epoch u.done (is_some u.account.end) u.traced_seen s.read s.passage → ⊥
        no_step s q = flipper_passes asked u.epoch u.done (is_some u.account.end) u.traced_seen s.read s.passage (rw at at q)
