-- Steps that write no heap word: what a worker learns, the place that it announces, a page's crossing.
use Rattle.std.proofs.Common.{◌≡◌, ◌≢◌, ℕ, ◌+◌, ◌-◌, ◌*◌, ◌<◌, ◌≤◌, true, false, refl, sym, ap, ◌∙◌, arith, Some, None, is_some, ⊎_elim}
use Rattle.std.proofs.lemmas.Bool.{cases_eq}
use Rattle.heap_words.specs.Decoded.{HeaderWord, BusyWord, ForwardWord, decode}
use Rattle.heap_state.specs.Cells.{KnowsCopy}
use Rattle.heap_state.specs.Memory.Era.{Era, Memory}
use Rattle.heap_state.specs.Functions.{put}
use Rattle.heap_state.specs.Invariant.Ghost.{Ghost, header_kind}
use Rattle.heap_state.specs.Invariant.Inductive.{Invariant, Knows}
use Rattle.heap_state.specs.Invariant.Parts.Copying.{Copies, IsOrigin, Seeks, Licensed}
use Rattle.heap_state.specs.Invariant.Parts.Crossing.{Crossing}
use Rattle.heap_state.specs.Known.{Known, Team, Quest, Copy, is_late}
use Rattle.heap_state.proofs.Records.Holding.{First, OwnHeader, KeptBy, GoneTo, first}
use Rattle.heap_state.proofs.Puts.{put_at, put_other, put_same, some_same, none≢some, true_false}
use Rattle.heap_laws.specs.Copying.{copying}
use Rattle.heap_laws.specs.Steps.{Ready, Alike, with_worker, with_crossing, with_announced, Preserves}
use Rattle.heap_laws.proofs.Copying.InProgress.{knows_copying}
use Rattle.heap_laws.proofs.Steps.Learning.{marks}
use Rattle.heap_laws.proofs.Frames.Values.{one_place}

module _ (E : Era) (m : Memory) (team : Team) (g : Ghost) (k : ℕ) (ready : Ready E m team g k) where
  abbrev inv : Invariant E m team g
  inv = ready.invariant

  me : Knows E m.gate m.traced m.front m.low m.old_front m.old_low m.old_owed g m.page m.cross m.announced m.heap k (team.worker k)
  me = inv.workers k ready.member

  -- announced places and crossings are others, and worker k knows something else
  learns : (w : Known) → Alike w (team.worker k) → (crossed claimed : ℕ → ℕ) → Crossing E m.front g.size g.writer crossed
      → ((j : ℕ) (c : Copy) → j < team.count → j ≢ k → (team.worker j).copy ≡ Some c → Copies E m.front g.size g.writer g.copy g.keeper g.kept claimed crossed m.heap j c)
      → Knows E m.gate m.traced m.front m.low m.old_front m.old_low m.old_owed g m.page crossed claimed m.heap k w
      → Preserves E m (record m { cross = crossed; announced = claimed }) team (with_worker team k w) g g
  learns w alike = marks E m team g k w inv (record { post = alike.post; epoch = alike.epoch; account = alike.account; registers = alike.registers; done = alike.done; stock = alike.stock; chain = alike.chain }) (λ s e. (s, alike.scan ∙ e, refl))

  pub learns_alone : (w : Known) → Alike w (team.worker k) → Knows E m.gate m.traced m.front m.low m.old_front m.old_low m.old_owed g m.page m.cross m.announced m.heap k w
      → Preserves E m m team (with_worker team k w) g g
  learns_alone w alike own = learns w alike m.cross m.announced inv.crossing (λ j c l d e. (inv.workers j l).copy c e) own

  pub nothing_changes : Preserves E m m team (with_worker team k (team.worker k)) g g
  nothing_changes = learns_alone (team.worker k) (assumption) me

  -- worker k goes on copying
  copies_on : (c d : Copy) (crossed claimed : ℕ → ℕ) → (team.worker k).copy ≡ Some c → d.from ≡ c.from → d.done ≡ c.done → d.header ≡ c.header → d.size ≡ c.size → (0 < c.done → d.to ≡ c.to)
      → Copies E m.front g.size g.writer g.copy g.keeper g.kept claimed crossed m.heap k d
      → Knows E m.gate m.traced m.front m.low m.old_front m.old_low m.old_owed g m.page crossed claimed m.heap k (copying (team.worker k) d)
  copies_on c d crossed claimed has from done header size to p =
      knows_copying E m.gate m.traced m.front m.low m.old_front m.old_low m.old_owed g m.page m.cross m.announced m.heap crossed claimed m.heap k (team.worker k) c d has from me p
      (record { head = λ l. rw (to (omega (arith, l, done)), from, size) ((me.keeps c has).head (omega (arith, l, done))); keeps = rw (header, from, size) ((me.keeps c has).keeps) })
      me.origin me.scan

  -- another announces its own place
  others_named : (x j : ℕ) (c : Copy) → j < team.count → j ≢ k → (team.worker j).copy ≡ Some c
      → Copies E m.front g.size g.writer g.copy g.keeper g.kept (put m.announced k x) m.cross m.heap j c
  others_named x j c l d e =
      let p = (inv.workers j l).copy c e in
      let n : c.announced ≡ true → (put m.announced k x j ≡ c.to + 1) × (E.start ≤ c.to) × (c.to ≤ m.front) = λ n. rw (put_other m.announced k x j d) (p.named n) in
      assumption

  module _ (c : Copy) (has : (team.worker k).copy ≡ Some c) where
    mine : Copies E m.front g.size g.writer g.copy g.keeper g.kept m.announced m.cross m.heap k c
    mine = me.copy c has

    pub place_aimed : c.reserved ≡ false → Preserves E m m team (with_worker team k (copying (team.worker k) (record c { to = m.front; aimed = true; announced = false }))) g g
    place_aimed loose =
        let d : Copy = record c { to = m.front; aimed = true; announced = false } in
        let z = mine.loose loose in
        learns_alone (copying (team.worker k) d) (assumption) (copies_on c d m.cross m.announced has refl refl refl refl (λ l. absurd (omega (arith, l, z)))
        (record {
          old = mine.old;
          loose = mine.loose;
          bound = mine.bound;
          loaded = mine.loaded;
          aimed = λ e. (inv.laid.order.0, omega arith);
          named = λ e. absurd (cc);
          place = λ e. absurd (cc);
          same = λ j p l. absurd (omega (arith, l, z));
          crossings = λ e. absurd (cc);
        }))

    pub place_announced : c.aimed ≡ true → c.reserved ≡ false → Preserves E m (with_announced m k (c.to + 1)) team (with_worker team k (copying (team.worker k) (record c { announced = true }))) g g
    place_announced aimed loose =
        let d : Copy = record c { announced = true } in
        let z = mine.loose loose in
        learns (copying (team.worker k) d) (assumption) m.cross (put m.announced k (c.to + 1)) inv.crossing (others_named (c.to + 1)) (copies_on c d m.cross (put m.announced k (c.to + 1)) has refl refl refl refl (λ l. refl)
        (let v = mine in
        let n : true ≡ true → (put m.announced k (c.to + 1) k ≡ c.to + 1) × (E.start ≤ c.to) × (c.to ≤ m.front) = λ e. let b = mine.aimed aimed in (put_same m.announced k (c.to + 1), b.0, b.1) in
        let p : c.reserved ≡ true → (true ≡ true) × (g.copy c.from ≡ c.to + 1) × (g.writer c.to ≡ k + 1) × (g.size c.to ≡ c.size) × (E.start ≤ c.to) × (c.to + c.size ≤ m.front) = λ e. true_false loose e in
        assumption))

    pub word_loaded : c.reserved ≡ true → 0 < c.done → c.done < c.size → Preserves E m m team (with_worker team k (copying (team.worker k) (record c { word = Some (m.heap (c.from + c.done)) }))) g g
    word_loaded res some more =
        let d : Copy = record c { word = Some (m.heap (c.from + c.done)) } in
        learns_alone (copying (team.worker k) d) (assumption) (copies_on c d m.cross m.announced has refl refl refl refl (λ l. refl)
        (let u = mine in
        let w : (v : ℕ) → Some (m.heap (c.from + c.done)) ≡ Some v → (0 < c.done) × (c.done < c.size) × (m.heap (c.from + c.done) ≡ v) = λ v e. (some, more, some_same e) in
        assumption))

    -- the crossing of a page that begins in the copy
    module _ (res : c.reserved ≡ true) (begins : c.to ≤ 64 * c.crossed) (in_copy : 64 * c.crossed < c.to + c.size) where
      abbrev crossed : ℕ → ℕ
      crossed = put m.cross c.crossed c.to

      placed : (c.announced ≡ true) × (g.copy c.from ≡ c.to + 1) × (g.writer c.to ≡ k + 1) × (g.size c.to ≡ c.size) × (E.start ≤ c.to) × (c.to + c.size ≤ m.front)
      placed = mine.place res

      -- a record over that page's first word is the copy
      over : (p a : ℕ) → p ≡ c.crossed → 0 < g.size a → a ≤ 64 * p → 64 * p < a + g.size a → a ≡ c.to
      over p a e st l f = one_place g.size a c.to (64 * p - a) (64 * p - c.to) inv.laid.apart (omega arith) (omega (arith, e, in_copy, placed.3, begins)) (omega (arith, e, begins))

      crossing : Crossing E m.front g.size g.writer crossed
      crossing = record {
        crossing = λ p a s f st l n w. ⊎_elim
            (λ (e : p ≡ c.crossed). absurd (let y : g.writer a ≡ g.writer c.to = ap g.writer (over p a e st l n) in omega (arith, y, w, placed.2)))
            (λ (d : p ≢ c.crossed). rw (put_other m.cross c.crossed c.to p d) (inv.crossing.crossing p a s f st l n w))
            (cases_eq p c.crossed);
      }

      others : (j : ℕ) (x : Copy) → j < team.count → j ≢ k → (team.worker j).copy ≡ Some x → Copies E m.front g.size g.writer g.copy g.keeper g.kept m.announced crossed m.heap j x
      others j x l d e =
          let p = (inv.workers j l).copy x e in
          let z : x.reserved ≡ true → (q : ℕ) → x.to ≤ 64 * q → 64 * q < x.to + x.size → q < x.crossed → crossed q ≡ x.to = λ r q s f n.
          let y = p.place r in
          let apart : q ≢ c.crossed = (λ i. let z : g.writer x.to ≡ g.writer c.to = ap g.writer (over q x.to i (omega (arith, y.3, p.old)) s (omega (arith, f, y.3))) in d (omega (arith, z, y.2, placed.2))) in
          rw (put_other m.cross c.crossed c.to q apart) (p.crossings r q s f n) in
          assumption

      pub crossing_stored : Preserves E m (with_crossing m c.crossed c.to) team (with_worker team k (copying (team.worker k) (record c { crossed = c.crossed + 1 }))) g g
      crossing_stored =
          let d : Copy = record c { crossed = c.crossed + 1 } in
          learns (copying (team.worker k) d) (assumption) crossed m.announced crossing others (copies_on c d crossed m.announced has refl refl refl refl (λ l. refl)
          (let u = mine in
          let a : c.reserved ≡ true → (q : ℕ) → c.to ≤ 64 * q → 64 * q < c.to + c.size → q < c.crossed + 1 → crossed q ≡ c.to = λ r q s f n. ⊎_elim
          (λ (e : q ≡ c.crossed). put_at m.cross c.crossed c.to q e)
          (λ (e : q ≢ c.crossed). rw (put_other m.cross c.crossed c.to q e) (mine.crossings r q s f (omega arith)))
          (cases_eq q c.crossed) in
          assumption))

  module _ (idle : (team.worker k).copy ≡ None) where
    pub announce_cleared : Preserves E m (with_announced m k 0) team (with_worker team k (team.worker k)) g g
    announce_cleared =
        let none = λ (c : Copy) (e : (team.worker k).copy ≡ Some c). (let z : Copies E m.front g.size g.writer g.copy g.keeper g.kept (put m.announced k 0) m.cross m.heap k c = none≢some (sym idle ∙ e) in z) in
        let u = me in
        let own : Knows E m.gate m.traced m.front m.low m.old_front m.old_low m.old_owed g m.page m.cross (put m.announced k 0) m.heap k (team.worker k) = assumption in
        learns (team.worker k) (assumption) m.cross (put m.announced k 0) inv.crossing (others_named 0) own

    module _ (q : Quest) (asks : (team.worker k).quest ≡ Some q) (len b : ℕ) (word : decode (m.heap q.old) ≡ ForwardWord len b) where
      abbrev found : Quest
      found = record q { found = Some b }

      old : (0 < g.size q.old) × (E.old_start ≤ q.old) × (q.old < E.old_start + E.old_span)
      old = (me.quest q asks).old

      at_copy : (g.copy q.old ≡ b + 1) × (g.writer b ≡ 0)
      at_copy = by_first (first E m team g inv q.old old.0 (inv.older.written q.old old.0 old.1 old.2))
        where
          by_first : First E m team g inv q.old → (g.copy q.old ≡ b + 1) × (g.writer b ≡ 0)
          by_first (OwnHeader n y h) = absurd (let z : ForwardWord len b ≡ HeaderWord (header_kind (g.kind q.old)) (g.size q.old - 1) (g.identity q.old).serial (g.identity q.old).mutator = sym word ∙ h in cc)
          by_first (KeptBy j y h) = absurd (let z : ForwardWord len b ≡ BusyWord (g.size q.old - 1) j = sym word ∙ h in cc)
          by_first (GoneTo x y n h) =
              let z : ForwardWord len b ≡ ForwardWord (g.size q.old - 1) x = sym word ∙ h in
              let e : b ≡ x = cc in
              let t = inv.copied.target q.old x old.0 n in
              (omega (arith, n, e), rw e (t.7 ∙ y))

      pub forward_found : Preserves E m m team (with_worker team k (record (team.worker k) { quest = Some found })) g g
      forward_found = learns_alone (record (team.worker k) { quest = Some found })
          (let asked : is_some (team.worker k).linking ≡ true → KnowsCopy (team.worker k) → KnowsCopy (record (team.worker k) { quest = Some found }) = λ _ _. (found, refl, refl) in assumption)
          (let u = me in
          let origin : (x : Quest) → Some found ≡ Some x → IsOrigin E g.size g.writer g.kind m.heap (is_late E.epoch (team.worker k)) (team.worker k).done (team.worker k).registers (team.worker k).scan x.old x.origin = λ x e. rw (← some_same e) (me.origin q asks) in
          let seeks : (x : Quest) → Some found ≡ Some x → Seeks E g.size g.writer g.copy x = λ x e. rw (← some_same e) (record { old = old; found = λ y i. let z : b ≡ y = some_same i in rw (← z) at_copy }) in
          let licence : Licensed m.gate.behind g.kept k (is_late E.epoch (team.worker k)) (team.worker k).copy (Some found) (team.worker k).scan = record { licensed = λ c e. none≢some (sym idle ∙ e); asked = λ c e. none≢some (sym idle ∙ e); counted = me.licensed.counted; idle = me.licensed.idle } in
          assumption)
