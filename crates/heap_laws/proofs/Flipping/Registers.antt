-- A mutator that is behind forwards its registers, one by one.
use Rattle.std.proofs.Common.{◌≡◌, ◌≢◌, ℕ, ◌+◌, ◌<◌, ◌≤◌, Bool, true, false, Some, None, is_some, refl, sym, ap, ◌∙◌, arith, ⊎_elim, ◌⊎◌, inl, inr}
use Rattle.std.specs.Prelude.{slice_get}
use Rattle.std.proofs.lemmas.Bool.{cases_eq}
use Rattle.heap_words.specs.Decoded.{PointerWord, decode}
use Rattle.plain_state.specs.declared.value.Identity.{Identity}
use Rattle.plain_state.specs.Reachable.{Reachable}
use Rattle.plain_state.specs.State as plain
use Rattle.space_map.specs.declared.gate_word.GateWord.{GateWord}
use Rattle.heap_state.specs.Cells.{KnowsCopy}
use Rattle.heap_state.specs.Cycles.Cycle.{Rooted, RootLeads, ByBoard, ByRegister, StillLeads}
use Rattle.heap_state.specs.Memory.Era.{Era, Memory}
use Rattle.heap_state.specs.Functions.{put}
use Rattle.heap_state.specs.Invariant.Ghost.{Ghost, Leads, Lands}
use Rattle.heap_state.specs.Invariant.Inductive.{Invariant, Knows}
use Rattle.heap_state.specs.Invariant.Parts.Copying.{IsOrigin, Seeks, Licensed}
use Rattle.heap_state.specs.Invariant.Parts.Knowledge.{Clean, Passes, Timely}
use Rattle.heap_state.specs.Meaning.Values.{Shown, RegistersShow, value_of}
use Rattle.heap_state.specs.Known.{Known, Team, Post, Passage, Outside, Forwarded, Origin, Register, Quest, Copy, is_mutator, is_live, is_late, GateStep}
use Rattle.heap_state.proofs.Workers.Frames.{counted_put, staffed_put, scanned_put, stocks_put, numbered_put, accounts_put}
use Rattle.heap_state.proofs.Puts.{put_at, put_other, put_same, each_put, team_put, none≢some, some_same, put_is}
use Rattle.heap_state.specs.Targets.{IsCopied}
use Rattle.heap_laws.specs.Flipping.Registers.{forwarded, HasRegister, PassingRegisterKeeps, asking_for, AskingForRegisterKeeps, HasFoundCopy, past_register}
use Rattle.heap_laws.specs.Cells.Frames.{GoesOnInChain}
use Rattle.heap_laws.specs.Steps.{with_worker, NoRow, Ready, Steps, Preserves}
use Rattle.heap_laws.proofs.Cells.Kept.{idle_in_chain, none_is_some, unread_keeps}
use Rattle.heap_laws.proofs.Copying.Roots.{late_lives, late_mutator, late_unended}
use Rattle.heap_laws.proofs.Copying.Found.{found_copy}
use Rattle.heap_laws.proofs.Steps.Learning.{learns, learnt}
use Rattle.heap_laws.proofs.Scanning.ScanInProgress.{no_copy}
use Rattle.heap_laws.proofs.Frames.Values.{still_leads, pointer_lands}
use Rattle.heap_laws.proofs.Targets.Frames.{made_put}

-- ---- who is late

-- a passage that is allowed before the last register stays so
passes_on : (post : Post) (epoch done then_done : ℕ) (ended seen : Bool) (read : GateWord) (p : Passage) → done < 8 → Passes post epoch done ended seen read p → Passes post epoch then_done ended seen read p
passes_on post epoch done then_done ended seen read Forwarded l q = absurd (omega (arith, l, q.2))
passes_on post epoch done then_done ended seen read _ l q = q

module _ (E : Era) (m : Memory) (team : Team) (g : Ghost) (k : ℕ) (inv : Invariant E m team g) (below : k < team.count) (has : HasRegister E team k) where
  me : Knows E m.gate m.traced m.front m.low m.old_front m.old_low m.old_owed g m.page m.cross m.announced m.heap k (team.worker k)
  me = inv.workers k below

  pub mutator : is_mutator (team.worker k).post ≡ true
  mutator = late_mutator E m team g k inv below has.late

  pub no_end : (team.worker k).account.end ≡ None
  no_end = late_unended E m team g k inv below has.late

  pub clean : Clean E g.size g.writer (is_late E.epoch (team.worker k)) (team.worker k).done (team.worker k).registers
  clean = me.registers mutator no_end

  -- the register becomes v, which leads nowhere old, and denotes what the register denoted
  module _ (v : ℕ) (fine : ¬ (Leads E v)) (lands : Lands g.size g.writer v) (same : value_of g.identity v ≡ value_of g.identity ((team.worker k).registers (team.worker k).done))
      (idle : (c : Copy) → (team.worker k).copy ≡ Some c → ⊥) (none_links : is_some (team.worker k).linking ≡ true → KnowsCopy (team.worker k) → ⊥) (seen : (i : Identity) → StillLeads E g.identity ((team.worker k).registers (team.worker k).done) i → IsCopied E m.front g.size g.writer g.identity i) where
    abbrev w' : Known
    w' = forwarded (team.worker k) v

    abbrev registers' : ℕ → ℕ
    registers' = put (team.worker k).registers (team.worker k).done v

    clean' : Clean E g.size g.writer (is_late E.epoch (team.worker k)) ((team.worker k).done + 1) registers'
    clean' = record {
      clean = λ j l f. each_put (λ i u. i ≡ j → ¬ (Leads E u)) (team.worker k).registers (team.worker k).done v j (λ d _. clean.clean j l (λ t. let q = f t in omega (arith, q, d))) (λ _ _. fine) refl;
      lands = λ j l. each_put (λ i u. Lands g.size g.writer u) (team.worker k).registers (team.worker k).done v j (λ _. clean.lands j l) (λ _. lands);
      old = λ t j b d l. rw (put_other (team.worker k).registers (team.worker k).done v j (λ e. omega (arith, d, e))) (clean.old t j b (omega (arith, d)) l);
    }

    own : Knows E m.gate m.traced m.front m.low m.old_front m.old_low m.old_owed g m.page m.cross m.announced m.heap k w'
    own =
        let u = me in
        let o1 : Timely E (team.worker k).post (team.worker k).epoch ((team.worker k).done + 1) =
        record { past = me.timely.past; live = me.timely.live; running = me.timely.running; asking = me.timely.asking; rest = λ e. absurd (let q = sym e ∙ has.late in cc); below = let l = has.left in omega (arith, l) } in
        let o2 : (team.worker k).post ≡ Outside → (j : ℕ) → j < 8 → registers' j ≡ 0 = λ e. absurd (let q : is_live (team.worker k).post ≡ false = ap is_live e in let r = sym q ∙ late_lives E.epoch (team.worker k) has.late in cc) in
        let o3 = λ (mu : is_mutator (team.worker k).post ≡ true) (e : (team.worker k).account.end ≡ None). clean' in
        let o4 : (q : Quest) → None ≡ Some q → IsOrigin E g.size g.writer g.kind m.heap (is_late E.epoch (team.worker k)) ((team.worker k).done + 1) registers' (team.worker k).scan q.old q.origin = λ q e. none≢some e in
        let o5 : (q : Quest) → None ≡ Some q → Seeks E g.size g.writer g.copy q = λ q e. none≢some e in
        let o6 : Licensed m.gate.behind g.kept k (is_late E.epoch (team.worker k)) (team.worker k).copy None (team.worker k).scan =
        record { licensed = λ c e. absurd (idle c e); asked = λ c e. absurd (idle c e); counted = me.licensed.counted; idle = me.licensed.idle } in
        let o7 = λ (s : GateStep) (e : (team.worker k).gate_step ≡ Some s). passes_on (team.worker k).post (team.worker k).epoch (team.worker k).done ((team.worker k).done + 1) (is_some (team.worker k).account.end) (team.worker k).traced_seen s.read s.passage has.left (me.passage s e) in
        assumption

    goes : GoesOnInChain E w' (team.worker k)
    goes = record { linking = refl; pass = refl; cleared = λ e. e; licence = λ l knows _. absurd (none_links l knows); ground = λ _. (refl, refl) }

    invariant : Invariant E m (with_worker team k w') g
    invariant =
        let p1 = counted_put team.worker k w' refl refl inv.counted in
        let p2 = staffed_put team.worker k w' refl inv.staffed in
        let p3 = scanned_put team.worker k w' refl inv.scanned in
        let p4 = stocks_put team.worker k w' (λ _ e. e) inv.stocks in
        let p5 = numbered_put team.worker k w' refl inv.numbered in
        let p7 = unread_keeps E m m team g g k None w' NoRow tt tt (assumption) goes inv.cells in
        let p6 = team_put team.count (Knows E m.gate m.traced m.front m.low m.old_front m.old_low m.old_owed g m.page m.cross m.announced m.heap) team.worker k w' (λ j l d. inv.workers j l) own in
        assumption

    shows : (p : plain.Mutator) → RegistersShow (value_of g.identity) (team.worker k).registers p → RegistersShow (value_of g.identity) registers' p
    shows p s = record {
      eight = s.eight;
      registers_show = λ n j l. each_put (λ i u. i ≡ j → value_of g.identity u ≡ value_of g.identity ((team.worker k).registers j)) (team.worker k).registers (team.worker k).done v j (λ _ _. refl) (λ e _. rw e same) refl ∙ s.registers_show n j l;
    }

    shown : (p : plain.Plain) → Shown E m team g p → Shown E m (with_worker team k w') g p
    shown p s = record {
      objects = s.objects;
      targets = s.targets;
      board = s.board;
      as_many = s.as_many;
      makers = s.makers;
      accounts = λ j q e. accounts_put team.worker k w' refl j q (s.accounts j q e);
      registers = λ j q e. each_put (λ i u. slice_get p.mutators i ≡ Some q → RegistersShow (value_of g.identity) u.registers q) team.worker k w' j (λ _. s.registers j q) (λ y f. shows q (s.registers k q (rw y at f))) e;
    }

    rooted : (p : plain.Plain) → Rooted E m.front team.count g.size g.writer g.identity m.heap team.worker p → Rooted E m.front team.count g.size g.writer g.identity m.heap (put team.worker k w') p
    rooted p r = record {
      roots = λ i root. ⊎_elim (λ c. inl c) (λ l. by_root i l) (r.roots i root);
      sound = λ j n i l mu end small t. each_put (λ z u. z < team.count → is_mutator u.post ≡ true → u.account.end ≡ None → StillLeads E g.identity (u.registers n) i → Reachable p i) team.worker k w' j
          (λ d a b c y. r.sound j n i a b c small y) (λ e a b c y. at_me n i b c small y) l mu end t;
    }
      where
        at_me : (n : ℕ) (i : Identity) → is_mutator (team.worker k).post ≡ true → (team.worker k).account.end ≡ None → n < 8 → StillLeads E g.identity (registers' n) i → Reachable p i
        at_me n i mu end small t = ⊎_elim
            (λ (e : n ≡ (team.worker k).done). absurd (fine (still_leads E g.identity v i (rw (put_at (team.worker k).registers (team.worker k).done v n e) at t))))
            (λ (d : n ≢ (team.worker k).done). r.sound k n i below mu end small (rw (put_other (team.worker k).registers (team.worker k).done v n d) at t))
            (cases_eq n (team.worker k).done)

        by_register : (j n : ℕ) (i : Identity) → j < team.count → n < 8 → is_late E.epoch (team.worker j) ≡ true → (team.worker j).done ≤ n → StillLeads E g.identity ((team.worker j).registers n) i
            → (j ≡ k) ⊎ (j ≢ k) → IsCopied E m.front g.size g.writer g.identity i ⊎ RootLeads E team.count g.identity m.heap (put team.worker k w') i
        by_register j n i l s late d t (inr o) =
            let same : put team.worker k w' j ≡ team.worker j = put_other team.worker k w' j o in
            inr (ByRegister j n l s (rw same late) (rw same d) (rw same t))
        by_register j n i l s late d t (inl e) =
            let d' : (team.worker k).done ≤ n = rw e at d in
            let t' : StillLeads E g.identity ((team.worker k).registers n) i = rw e at t in
            let same : put team.worker k w' k ≡ w' = put_same team.worker k w' in
            ⊎_elim
            (λ (f : n ≡ (team.worker k).done). inl (seen i (rw f at t')))
            (λ (f : n ≢ (team.worker k).done). inr (ByRegister k n below s (rw same has.late) (rw same (omega (arith, d', f)))
            (rw (same, put_other (team.worker k).registers (team.worker k).done v n f) t')))
            (cases_eq n (team.worker k).done)

        by_root : (i : Identity) → RootLeads E team.count g.identity m.heap team.worker i → IsCopied E m.front g.size g.writer g.identity i ⊎ RootLeads E team.count g.identity m.heap (put team.worker k w') i
        by_root i (ByBoard x l t) = inr (ByBoard x l t)
        by_root i (ByRegister j n l s late d t) = by_register j n i l s late d t (cases_eq j k)

    pub register_keeps : Preserves E m m team (with_worker team k w') g g
    register_keeps = record {
      invariant = invariant;
      shown = shown;
      cycle = λ p c. record { copying = c.copying; rooted = rooted p c.rooted; made = made_put team.worker k w' refl c.made };
      ages = λ p. omega arith;
    }

-- ---- the laws

pub passes_register : PassingRegisterKeeps
passes_register E m team g k ready has idle fine =
    let inv = ready.invariant in
    let w = (team.worker k).registers (team.worker k).done in
    let same : put (team.worker k).registers (team.worker k).done w ≡ (team.worker k).registers = sym (put_is (team.worker k).registers (team.worker k).registers (team.worker k).done w refl (λ x d. refl)) in
    let passed : forwarded (team.worker k) w ≡ past_register (team.worker k) = λ i. record (past_register (team.worker k)) { registers = same i; quest = sym idle i } in
    learnt (rw passed at (register_keeps E m team g k inv ready.member has w fine ((clean E m team g k inv ready.member has).lands (team.worker k).done has.left) refl (no_copy E m team g k inv ready.member idle) (λ _ knows. none≢some (sym idle ∙ knows.1))
    (λ i t. absurd (fine (still_leads E g.identity w i t)))))

pub asks_for_register : AskingForRegisterKeeps
asks_for_register E m team g k a ready has idle leads =
    let inv = ready.invariant in
    let me = inv.workers k ready.member in
    let is_clean = clean E m team g k inv ready.member has in
    let old = is_clean.old has.late (team.worker k).done a (omega arith) has.left leads in
    let q : Quest = record { old = a; origin = Register (team.worker k).done; found = None } in
    let st : 0 < g.size a = pointer_lands g.size g.writer ((team.worker k).registers (team.worker k).done) a (is_clean.lands (team.worker k).done has.left) leads in
    learnt (learns E m team g k (asking_for (team.worker k) a) inv
    (let c = idle_in_chain (asking_for (team.worker k) a) (team.worker k) idle refl refl (refl, refl) refl in
    assumption) (λ t e. (t, e, refl))
    (let origin : (r : Quest) → Some q ≡ Some r → IsOrigin E g.size g.writer g.kind m.heap (is_late E.epoch (team.worker k)) (team.worker k).done (team.worker k).registers (team.worker k).scan r.old r.origin = λ r e. rw (← some_same e) (has.late, refl, has.left, leads) in
    let seeks : (r : Quest) → Some q ≡ Some r → Seeks E g.size g.writer g.copy r = λ r e. rw (← some_same e) (record { old = (st, old.0, old.1); found = λ b f. none≢some f }) in
    let licence : Licensed m.gate.behind g.kept k (is_late E.epoch (team.worker k)) (team.worker k).copy (Some q) (team.worker k).scan = record { licensed = me.licensed.licensed; asked = λ c e. absurd (no_copy E m team g k inv ready.member idle c e); counted = me.licensed.counted; idle = me.licensed.idle } in
    assumption))

module _ (E : Era) (m : Memory) (team : Team) (g : Ghost) (k : ℕ) (q : Quest) (b v : ℕ) (ready : Ready E m team g k) (has : HasFoundCopy E team k q b) (linked : (team.worker k).linking ≡ None) (points : decode v ≡ PointerWord b) where
  abbrev inv : Invariant E m team g
  inv = ready.invariant

  abbrev w : ℕ
  w = (team.worker k).registers (team.worker k).done

  knows : Knows E m.gate m.traced m.front m.low m.old_front m.old_low m.old_owed g m.page m.cross m.announced m.heap k (team.worker k)
  knows = inv.workers k ready.member

  led : decode w ≡ PointerWord q.old
  led = by_origin q.origin has.origin (knows.origin q has.quest)
    where
      by_origin : (o : Origin) → o ≡ Register (team.worker k).done → IsOrigin E g.size g.writer g.kind m.heap (is_late E.epoch (team.worker k)) (team.worker k).done (team.worker k).registers (team.worker k).scan q.old o → decode w ≡ PointerWord q.old
      by_origin o e y = let z : IsOrigin E g.size g.writer g.kind m.heap (is_late E.epoch (team.worker k)) (team.worker k).done (team.worker k).registers (team.worker k).scan q.old (Register (team.worker k).done) = rw e at y in z.3

  pub forwards_register : Steps E m team g k None (forwarded (team.worker k) v) g
  forwards_register =
      let c = found_copy E m team g k w v b q ready.laid_out inv ready.member has.quest has.found led points in
      learnt (register_keeps E m team g k inv ready.member has.register v c.clean c.lands c.value c.copies_nothing (λ l _. none_is_some linked l) c.seen)
