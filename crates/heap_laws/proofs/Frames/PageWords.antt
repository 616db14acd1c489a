-- A page's word becomes one of this epoch, and open where it was open: what speaks of page words stays.
use Rattle.std.proofs.Common.{◌≡◌, ◌≢◌, ℕ, ◌+◌, ◌/◌, ◌<◌, ◌≤◌, true, Some, refl, ap, arith, ⊎_elim, inl, inr}
use Rattle.plain_state.specs.declared.kind.Kind.{Kind}
use Rattle.space_map.specs.declared.gate_word.GateWord.{GateWord}
use Rattle.space_map.specs.declared.page_word.PageWord.{PageWord}
use Rattle.space_map.specs.declared.page_word.PageWord.TheVariants.{Open, Scanning}
use Rattle.space_map.specs.PageWord.{age_of}
use Rattle.heap_state.specs.Memory.Era.{Era}
use Rattle.heap_state.specs.Functions.{put}
use Rattle.heap_state.specs.Invariant.Ghost.{Ghost}
use Rattle.heap_state.specs.Invariant.Inductive.{Knows}
use Rattle.heap_state.specs.Invariant.Parts.OldSpace.{OldSpace}
use Rattle.heap_state.specs.Invariant.Parts.Pages.{Quiet, Tracing, Aged, OldPages}
use Rattle.heap_state.specs.Invariant.Parts.Records.{SpaceOf}
use Rattle.heap_state.specs.Invariant.Parts.Scanning.{Scans, Claims, Looks, LastLooks}
use Rattle.heap_state.specs.Known.{Known, Scan, Claim, Look, LastLook, is_running}
use Rattle.heap_state.proofs.Puts.{put_other, each_put}

pub record Turns (E : Era) (page : ℕ → PageWord) (p : ℕ) (v : PageWord) : Type 0 where
  pub young : age_of (page p) ≤ E.epoch + 1
  pub turned : age_of v ≡ E.epoch + 1
  pub open_stays : page p ≡ Open E.epoch → v ≡ Open E.epoch

module _ {E : Era} {page : ℕ → PageWord} {p : ℕ} {v : PageWord} (t : Turns E page p v) where
  abbrev page' : ℕ → PageWord
  page' = put page p v

  pub stays : (x : ℕ) → page x ≡ Open E.epoch → page' x ≡ Open E.epoch
  stays x o = each_put (λ y w. y ≡ x → w ≡ Open E.epoch) page p v x (λ _ _. o) (λ e _. t.open_stays (rw e at o)) refl

  pub grows : (x : ℕ) → age_of (page x) ≤ age_of (page' x)
  grows x = each_put (λ y w. y ≡ x → age_of (page x) ≤ age_of w) page p v x (λ _ _. omega arith) (λ e _. let z : age_of (page x) ≡ age_of (page p) = ap (λ i. age_of (page i)) e in omega (arith, t.young, t.turned, z)) refl

  most : ((x : ℕ) → age_of (page x) ≤ E.epoch + 1) → (x : ℕ) → age_of (page' x) ≤ E.epoch + 1
  most y x = each_put (λ _ w. age_of w ≤ E.epoch + 1) page p v x (λ _. y x) (λ _. omega (arith, t.turned))

  pub quiet_turns : {behind front : ℕ} → Quiet E behind front page → Quiet E behind front page'
  quiet_turns q = record { none = q.none; board = stays (E.board / 64) q.board; full = λ r l m. stays r (q.full r l m) }

  pub tracing_turns : {traced behind front : ℕ} → Tracing E traced behind front page → Tracing E traced behind front page'
  tracing_turns q = record { begun = q.begun; bottom = q.bottom; top = q.top; quiet = λ e. quiet_turns (q.quiet e); last = λ e r a b. stays r (q.last e r a b) }

  pub aged_turns : Aged E page → Aged E page'
  aged_turns a = record { young = most a.young; board = let z = grows (E.board / 64) in let y = a.board in omega (arith, z, y) }

  pub old_pages_turn : {old_front : ℕ} → OldPages E old_front page → OldPages E old_front page'
  old_pages_turn o = record { old = λ x a b. let z = grows x in let y = o.old x a b in omega (arith, z, y) }

  -- the page is none of the old space
  pub old_space_turns : {traced old_front old_low : ℕ} {size heap : ℕ → ℕ} → ((x : ℕ) → E.old_start ≤ x → x < E.old_start + E.old_span → x / 64 ≢ p)
      → OldSpace E traced old_front old_low size heap page → OldSpace E traced old_front old_low size heap page'
  old_space_turns {traced} {old_front} {old_low} {size} {heap} off o = record { walks = λ e d f. of_space d (o.walks e d f) }
    where
      of_space : (d : ℕ) → SpaceOf E.old_start old_front old_low (E.old_start + E.old_span) d size heap page → SpaceOf E.old_start old_front old_low (E.old_start + E.old_span) d size heap page'
      of_space d s = record {
        lies = s.lies;
        order = s.order;
        aligned = s.aligned;
        first = s.first;
        next = s.next;
        new = record {
          opened = λ a x st l m u q. let i = s.lies a st (omega (arith, s.order, l)) m in let c = s.order in
              rw (put_other page p v (x / 64) (off x (omega (arith, c, l, u)) (omega (arith, i, c, l, q)))) (s.new.opened a x st l m u q);
          prior = s.new.prior;
          blank = λ x l m w u. let c = s.order in s.new.blank x l m w (rw (put_other page p v (x / 64) (off x (omega (arith, c, l)) m)) at u);
        };
      }

  -- ---- what workers know

  claims_turn : {front behind : ℕ} {size writer : ℕ → ℕ} (d : ℕ) (q : Claim) → Claims E front behind size writer page d q → Claims E front behind size writer page' d q
  claims_turn d q c = record {
    earlier = c.earlier;
    full = c.full;
    clear = c.clear;
    in_place = c.in_place;
    last = λ e i. let u = c.last e i in (
      u.0,
      u.1,
      ⊎_elim
          (λ (y : age_of (page q.page) ≡ E.epoch + 1). inl (each_put (λ z w. z ≡ q.page → age_of w ≡ E.epoch + 1) page p v q.page (λ _ _. y) (λ _ _. t.turned) refl))
          (λ y. inr (y.0, quiet_turns y.1))
          u.2,
    );
    late = λ s l. let z = grows q.page in let y = c.late s l in omega (arith, z, y);
  }

  looks_turn : {behind front : ℕ} (d : ℕ) (l : Look) → Looks E behind front page d l → Looks E behind front page' d l
  looks_turn d l o = record {
    earlier = o.earlier;
    none = o.none;
    start = o.start;
    board = λ e b. stays (E.board / 64) (o.board e b);
    full = λ e r a b. stays r (o.full e r a b);
    last = λ e f r a b. stays r (o.last e f r a b);
    late = λ e b r x y. let z = grows r in let w = o.late e b r x y in omega (arith, z, w);
  }

  last_looks_turn : {traced behind front : ℕ} (d : ℕ) (l : LastLook) → LastLooks E traced behind front page d l → LastLooks E traced behind front page' d l
  last_looks_turn d l o = record { earlier = o.earlier; late = o.late; now = λ e z. let y = o.now e z in (quiet_turns y.0, λ r a b. stays r (y.1 r a b)) }

  -- a scan of another page
  pub scans_beside : {front : ℕ} {size writer : ℕ → ℕ} {kind : ℕ → Kind} {heap : ℕ → ℕ} (j : ℕ) (s : Scan) → s.page ≢ p → Scans E front size writer kind heap page j s → Scans E front size writer kind heap page' j s
  scans_beside j s d o = let c : page' s.page ≡ Scanning E.epoch j = rw (put_other page p v s.page d) o.claimed in assumption

  pub knows_turns : {gate : GateWord} {traced front low old_front old_low old_owed : ℕ} {g : Ghost} {cross announced heap : ℕ → ℕ} {k : ℕ} {w : Known}
      → ((s : Scan) → w.scan ≡ Some s → Scans E front g.size g.writer g.kind heap page k s → Scans E front g.size g.writer g.kind heap page' k s)
      → Knows E gate traced front low old_front old_low old_owed g page cross announced heap k w → Knows E gate traced front low old_front old_low old_owed g page' cross announced heap k w
  knows_turns {k = k} {w = w} scans u =
      let b : (x : ℕ) → w.opened ≡ Some x → (is_running w.post ≡ true) × (page' x ≡ Open E.epoch) = λ x e. ((u.opened x e).0, stays x (u.opened x e).1) in
      let s = λ (s : Scan) (e : w.scan ≡ Some s). scans s e (u.scan s e) in
      let c = λ (c : Claim) (e : w.claim ≡ Some c). claims_turn w.epoch c (u.pages.claim c e) in
      let o = λ (c : Look) (e : w.look ≡ Some c). looks_turn w.epoch c (u.pages.look c e) in
      let q = λ (c : LastLook) (e : w.last_look ≡ Some c). last_looks_turn w.epoch c (u.pages.last_look c e) in
      assumption
