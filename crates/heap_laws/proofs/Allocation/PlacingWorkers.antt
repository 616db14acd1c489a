-- What a worker knows where a record begins to stand in the new area.
use Rattle.std.proofs.Common.{◌≡◌, ℕ, ◌+◌, ◌<◌, Bool, Option, refl, arith, ⊎_elim, true, None, Some}
use Rattle.plain_state.specs.declared.kind.Kind.{Kind}
use Rattle.plain_state.specs.Layout.{is_field}
use Rattle.plain_state.specs.declared.value.Identity.{Identity}
use Rattle.space_map.specs.declared.page_word.PageWord.{PageWord}
use Rattle.heap_state.specs.Memory.Era.{Era, Memory}
use Rattle.heap_state.specs.Functions.{put}
use Rattle.heap_state.specs.Invariant.Ghost.{Ghost}
use Rattle.heap_state.specs.Invariant.Inductive.{Knows}
use Rattle.heap_state.specs.Invariant.Parts.Copying.{Copies, Keeps, IsOrigin, Seeks}
use Rattle.heap_state.specs.Invariant.Parts.Knowledge.{Accesses, Clean}
use Rattle.heap_state.specs.Invariant.Parts.Scanning.{Scans, Stepping, Claims}
use Rattle.heap_state.specs.Known.{Known, Copy, Scan, Claim, Quest, Access, Origin, Register, Scanned, is_late, is_mutator}
use Rattle.heap_state.proofs.Puts.{each_put}
use Rattle.heap_laws.specs.Allocation.Records.{allocated}
use Rattle.heap_laws.proofs.Allocation.NewRecordParts.{NewPlace, not_new, was, same_size, keeper_old, below_other, written_old, same_writer, lands_on, same_kind, here_on, here_was, same_identity}
use Rattle.heap_laws.proofs.Frames.Values.{zero_clean}

module _ {E : Era} {front low : ℕ} {size copy keeper : ℕ → ℕ} {a z : ℕ} (cr : NewPlace E front low size copy keeper a z) (writer : ℕ → ℕ) where
  abbrev size' : ℕ → ℕ
  size' = put size a z

  abbrev writer' : ℕ → ℕ
  writer' = put writer a 0

  pub clean_allocated : (late : Bool) (done : ℕ) (registers : ℕ → ℕ) → Clean E size writer late done registers → Clean E size' writer' late done registers
  clean_allocated late done registers p = record { clean = p.clean; lands = λ j l. lands_on cr writer (registers j) (p.lands j l); old = p.old }

  pub copies_allocated : (kept announced cross heap : ℕ → ℕ) (k : ℕ) (c : Copy) → Copies E front size writer copy keeper kept announced cross heap k c → Copies E front size' writer' copy keeper kept announced cross heap k c
  copies_allocated kept announced cross heap k c p = record {
    old = rw (same_size cr c.from (keeper_old cr c.from k p.old.2)) p.old;
    loose = p.loose;
    aimed = p.aimed;
    named = p.named;
    same = p.same;
    bound = p.bound;
    loaded = p.loaded;
    crossings = p.crossings;
    place = λ e. let t = p.place e in let d = below_other cr c.to (let o = p.old.0 in omega (arith, t, o)) in rw (same_size cr c.to d, same_writer cr writer c.to d) t;
  }

  pub claims_allocated : (behind : ℕ) (page : ℕ → PageWord) (d : ℕ) (c : Claim) → Claims E front behind size writer page d c → Claims E front behind size' writer' page d c
  claims_allocated behind page d c p = record {
    earlier = p.earlier;
    full = p.full;
    last = p.last;
    late = p.late;
    in_place = p.in_place;
    clear = λ e y b k st w. let n = written_old cr writer b (omega (arith, w)) in p.clear e y b k (was cr b n st) (rw (same_writer cr writer b n) at w);
  }

  pub seeks_allocated : (q : Quest) → Seeks E size writer copy q → Seeks E size' writer' copy q
  seeks_allocated q p = let d = not_new cr q.old p.old.0 in record {
    old = rw (same_size cr q.old d) p.old;
    found = λ b e. let f = p.found b e in (f.0, each_put (λ j w. w ≡ 0) writer a 0 b (λ _. f.1) (λ _. refl));
  }

  module _ (kind : ℕ → Kind) (c : Kind) where
    abbrev kind' : ℕ → Kind
    kind' = put kind a c

    pub accesses_allocated : (f : Access) → Accesses E size writer kind f → Accesses E size' writer' kind' f
    accesses_allocated f p = let d = not_new cr f.at p.stands in record {
      stands = rw (same_size cr f.at d) p.stands;
      written = rw (same_writer cr writer f.at d) p.written;
      inside = p.inside;
      first = rw (same_kind cr writer kind c f.at d) p.first;
      word = rw (same_size cr f.at d) p.word;
      role = rw (same_kind cr writer kind c f.at d) p.role;
    }

    pub origin_allocated : (heap : ℕ → ℕ) (late : Bool) (done : ℕ) (registers : ℕ → ℕ) (scan : Option Scan) (old : ℕ) (o : Origin) → IsOrigin E size writer kind heap late done registers scan old o → IsOrigin E size' writer' kind' heap late done registers scan old o
    origin_allocated heap late done registers scan old (Register r) p = p
    origin_allocated heap late done registers scan old (Scanned x) p = (p.0, here_on cr writer kind c x p.1, p.2)

    pub stepping_allocated : (s : Scan) → Stepping E front size writer kind s → Stepping E front size' writer' kind' s
    stepping_allocated s p = record {
      over = λ b e. let t = p.over b e in let d = not_new cr b t.0 in rw (same_size cr b d, same_writer cr writer b d) t;
      headed = λ h e. let t = p.headed h e in let d = not_new cr h.at t.stands in record {
        stands = rw (same_size cr h.at d) t.stands;
        written = rw (same_writer cr writer h.at d) t.written;
        mixed = rw (same_kind cr writer kind c h.at d) t.mixed;
        whole = rw (same_size cr h.at d) t.whole;
        inside = t.inside;
        cursor = t.cursor;
      };
      current = λ r e. let t = p.current r e in let d = below_other cr r.at (omega (arith, t)) in record {
        stands = rw (same_size cr r.at d) t.stands;
        written = rw (same_writer cr writer r.at d) t.written;
        fields = rw (same_kind cr writer kind c r.at d, same_size cr r.at d) t.fields;
        whole = rw (same_size cr r.at d) t.whole;
        inside = t.inside;
        entered = rw (same_kind cr writer kind c r.at d) t.entered;
        cursor = t.cursor;
      };
      inner = p.inner;
      begun = p.begun;
      full = p.full;
      ended = p.ended;
    }

    pub scans_allocated : (heap : ℕ → ℕ) → ((j : ℕ) → 0 < j → is_field c j ≡ true → j < z → heap (a + j) ≡ 0) → (page : ℕ → PageWord) (k : ℕ) (s : Scan) → Scans E front size writer kind heap page k s → Scans E front size' writer' kind' heap page k s
    scans_allocated heap zeros page k s p = record {
      claimed = p.claimed;
      place = p.place;
      cursor = p.cursor;
      passed = λ x u e l. ⊎_elim (λ y. p.passed x y e l) (λ y. zero_clean E (heap x) y) (here_was cr writer kind c heap zeros x u);
      above = λ b x st w l u. let d = written_old cr writer b (omega (arith, w)) in p.above b x (was cr b d st) (rw (same_writer cr writer b d) at w) l (rw (same_size cr b d) at u);
    }

    pub keeps_allocated : (identity : ℕ → Identity) (i : Identity) (kept announced cross heap : ℕ → ℕ) (k : ℕ) (y : Copy) → Copies E front size writer copy keeper kept announced cross heap k y → Keeps kind identity heap y → Keeps kind' (put identity a i) heap y
    keeps_allocated identity i kept announced cross heap k y q p = let d = keeper_old cr y.from k q.old.2 in record {
      head = λ l. rw (same_kind cr writer kind c y.from d, same_identity cr writer kind c identity i y.from d) (p.head l);
      keeps = rw (same_kind cr writer kind c y.from d, same_identity cr writer kind c identity i y.from d) p.keeps;
    }

-- all of it
pub worker_allocated : (E : Era) (m : Memory) (g : Ghost) (a z : ℕ) (c : Kind) (i : Identity) (heap : ℕ → ℕ) (k : ℕ) (w : Known) → NewPlace E m.front m.low g.size g.copy g.keeper a z → ((j : ℕ) → 0 < j → is_field c j ≡ true → j < z → heap (a + j) ≡ 0)
    → Knows E m.gate m.traced m.front m.low m.old_front m.old_low m.old_owed g m.page m.cross m.announced heap k w
    → Knows E m.gate m.traced m.front m.low m.old_front m.old_low m.old_owed (allocated g a z c i) m.page m.cross m.announced heap k w
worker_allocated E m g a z c i heap k w cr zeros p =
    let o1 = λ (u : is_mutator w.post ≡ true) (n : w.account.end ≡ None). clean_allocated cr g.writer (is_late E.epoch w) w.done w.registers (p.registers u n) in
    let o2 = λ (f : Access) (e : w.access ≡ Some f). accesses_allocated cr g.writer g.kind c f (p.access f e) in
    let o3 = λ (q : Quest) (e : w.quest ≡ Some q). origin_allocated cr g.writer g.kind c heap (is_late E.epoch w) w.done w.registers w.scan q.old q.origin (p.origin q e) in
    let o4 = λ (q : Quest) (e : w.quest ≡ Some q). seeks_allocated cr g.writer q (p.quest q e) in
    let o5 = λ (y : Copy) (e : w.copy ≡ Some y). copies_allocated cr g.writer g.kept m.announced m.cross heap k y (p.copy y e) in
    let o6 = λ (y : Copy) (e : w.copy ≡ Some y). keeps_allocated cr g.writer g.kind c g.identity i g.kept m.announced m.cross heap k y (p.copy y e) (p.keeps y e) in
    let o7 = λ (s : Scan) (e : w.scan ≡ Some s). scans_allocated cr g.writer g.kind c heap zeros m.page k s (p.scan s e) in
    let o8 = λ (s : Scan) (e : w.scan ≡ Some s). stepping_allocated cr g.writer g.kind c s (p.stepping s e) in
    let o9 = λ (q : Claim) (e : w.claim ≡ Some q). claims_allocated cr g.writer m.gate.behind m.page w.epoch q (p.pages.claim q e) in
    assumption
