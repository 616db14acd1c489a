-- A mutator's store changes the plain heap at one word, and a load gives what stands there.
use Rattle.heap_words.specs.Decoded.{decode, PointerWord}
use Rattle.plain_state.specs.Writing.{with_board}
use Rattle.std.proofs.Common.{◌≡◌, ◌≢◌, ℕ, zero, suc, ◌+◌, ◌<◌, ◌≤◌, Some, refl, sym, ap, ◌∙◌, arith, ⊎_elim, ◌⊎◌, inl, length, slice_get}
use Rattle.std.proofs.Math.ListN.{length-set}
use Rattle.std.proofs.lemmas.Bool.{cases_eq}
use Rattle.plain_state.specs.declared.kind.Kind.TheVariants.{Weak}
use Rattle.plain_state.specs.State as plain
use Rattle.plain_state.specs.declared.value.Identity.{Identity}
use Rattle.plain_state.specs.declared.value.Value.{Value}
use Rattle.plain_state.specs.Writing.{stored, with_heap, with_value}
use Rattle.plain_state.specs.Layout.{word_of_value}
use Rattle.heap_state.specs.Memory.Era.{Era, IsLaidOut, Memory}
use Rattle.heap_state.specs.Functions.{put}
use Rattle.heap_state.specs.Invariant.Ghost.{Ghost, Leads, Lands}
use Rattle.heap_state.specs.Invariant.Inductive.{Invariant}
use Rattle.heap_state.specs.Meaning.Values.{value_of, Shows, Shown, TargetsShow}
use Rattle.heap_state.specs.Known.{Team}
use Rattle.heap_state.proofs.Puts.{put_at, put_other, some_same}
use Rattle.heap_state.proofs.Records.Layouts.{count_stays}
use Rattle.heap_laws.specs.Fields.Words.{IsWordOf, StandsFor, IsLedTo, HeadersAreRead, RegistersAreHeld, NumbersAreHeld}
use Rattle.heap_laws.specs.Fields.Held.{MayHold}
use Rattle.heap_state.proofs.Puts.{true_false}
use Rattle.heap_laws.specs.Steps.{with_word}
use Rattle.heap_laws.specs.Targets.Frames.{IsNoTarget}
use Rattle.heap_laws.proofs.Fields.PlainCells.{stored_keeps_cells}
use Rattle.heap_laws.proofs.Frames.OtherWords.{shows_same}
use Rattle.plain_state.proofs.Stored.{stored_there, stored_elsewhere, stored_serial, stored_makers}
use Rattle.plain_state.proofs.Elements.{slice_get-set_same, slice_get-set_other}
use Rattle.heap_laws.proofs.Frames.Values.{one_place}
use Rattle.heap_laws.proofs.Targets.Frames.{shown_beside, shown_of_others}

-- ---- records of the epoch's space

abbrev of_parts : ℕ → ℕ → Identity
of_parts mutator serial = record { mutator = mutator; serial = serial }

module _ (E : Era) (m : Memory) (team : Team) (g : Ghost) (lay : IsLaidOut E) (inv : Invariant E m team g) where
  -- a record of the epoch's space has no copy
  pub uncopied : (a : ℕ) → 0 < g.size a → E.start ≤ a → a < E.start + E.span → g.copy a ≡ 0
  uncopied a st l u = by_copy (g.copy a) refl
    where
      by_copy : (y : ℕ) → g.copy a ≡ y → g.copy a ≡ 0
      by_copy zero e = e
      by_copy (suc y) e = absurd (let t = inv.copied.target a y st (omega (arith, e)) in omega (arith, t, l, u, lay.apart))

  -- and where nobody writes it, it is alone in showing its identity
  pub alone : (a : ℕ) → 0 < g.size a → g.writer a ≡ 0 → E.start ≤ a → a < E.start + E.span → (b : ℕ) → 0 < g.size b → (g.copy b ≡ 0) ⊎ (0 < g.keeper b) → g.identity b ≡ g.identity a → b ≡ a
  alone a st w l u b sb o e = ⊎_elim (λ y. y)
      (λ y. absurd (⊎_elim
      (λ (z : g.copy b ≡ a + 1). let t = inv.copied.target b a sb z in omega (arith, o, z, t, w))
      (λ (z : g.copy a ≡ b + 1). let n = uncopied a st l u in omega (arith, z, n))
      y))
      (inv.once.once b a sb st e)

  -- two places of which nobody else shows the identity have identities apart
  pub apart : (a b : ℕ) → 0 < g.size a → 0 < g.size b → (b ≢ a) → (g.identity b ≡ g.identity a → b ≡ a) → (g.identity b).mutator ≡ (g.identity a).mutator → (g.identity b).serial ≢ (g.identity a).serial
  apart a b sa sb d alone e f = d (alone (same_identity (g.identity b) (g.identity a) e f))
    where
      same_parts : (a b c d : ℕ) → a ≡ c → b ≡ d → of_parts a b ≡ of_parts c d
      same_parts a b c d e f = rw (e, f) refl

      same_identity : (i j : Identity) → i.mutator ≡ j.mutator → i.serial ≡ j.serial → i ≡ j
      same_identity i j m s = same_parts i.mutator i.serial j.mutator j.serial m s

-- ---- stores

-- the store in a word of a record that is no cell
module _ (E : Era) (m : Memory) (team : Team) (g : Ghost) (p : plain.Plain) (a x v : ℕ) (r : plain.Record) (y : Value) (lay : IsLaidOut E) (inv : Invariant E m team g)
    (f : IsWordOf E g.size g.writer g.kind a x) (other : g.kind a ≢ Weak) (none : IsNoTarget g (a + word_of_value (g.kind a) x))
    (is : plain.record_of p.heap (g.identity a) ≡ Some r) (may : StandsFor g (g.kind a) x v y) (s : Shown E m team g p) where
  abbrev i : ℕ
  i = word_of_value (g.kind a) x

  abbrev h : ℕ → ℕ
  h = put m.heap (a + i) v

  abbrev changed : plain.Record
  changed = with_value r x y

  abbrev after : plain.Heap
  after = stored p.heap (g.identity a) r x y

  was : Shows (value_of g.identity) m.heap a (g.kind a) (g.size a) r
  was =
      let q = s.objects.shows a f.stands f.written (inl (uncopied E m team g lay inv a f.stands f.inside.0 f.inside.1)) in
      let e : q.0 ≡ r = some_same (sym q.1 ∙ is) in
      rw (← e) q.2

  value_there : (j : ℕ) → j ≡ x → j < length r.values → slice_get changed.values j ≡ Some y
  value_there j e l = rw e (slice_get-set_same r.values x y (rw e at l))

  value_elsewhere : (j : ℕ) → j ≢ x → slice_get changed.values j ≡ slice_get r.values j
  value_elsewhere j d = slice_get-set_other r.values x j y d

  as_many : length changed.values ≡ length r.values
  as_many = length-set r.values x y

  shows_there : Shows (value_of g.identity) h a (g.kind a) (g.size a) changed
  shows_there = record {
    kind = was.kind;
    size = let z = was.size in omega (arith, as_many);
    fields = λ j l t. ⊎_elim
        (λ (e : j ≡ x). rw (put_at m.heap (a + i) v (a + word_of_value (g.kind a) j) (omega (arith, e)), value_there j e (rw as_many at l)) (may.denotes (rw e at t)))
        (λ (d : j ≢ x). rw (put_other m.heap (a + i) v (a + word_of_value (g.kind a) j) (λ e. d (omega (arith, e))), value_elsewhere j d) (was.fields j (rw as_many at l) t))
        (cases_eq j x);
    numbers = λ j l t. ⊎_elim
        (λ (e : j ≡ x). rw (put_at m.heap (a + i) v (a + word_of_value (g.kind a) j) (omega (arith, e)), value_there j e (rw as_many at l)) (ap Some (may.number (rw e at t))))
        (λ (d : j ≢ x). rw (put_other m.heap (a + i) v (a + word_of_value (g.kind a) j) (λ e. d (omega (arith, e))), value_elsewhere j d) (was.numbers j (rw as_many at l) t))
        (cases_eq j x);
    count = count_stays r was h a (λ two _ _. put_other m.heap (a + i) v (a + 1) (λ e. omega (arith, two, e)));
  }

  elsewhere : (b : ℕ) → 0 < g.size b → g.writer b ≡ 0 → (g.copy b ≡ 0) ⊎ (0 < g.keeper b) → b ≢ a
      → (q : plain.Record) × (plain.record_of after (g.identity b) ≡ Some q) × Shows (value_of g.identity) h b (g.kind b) (g.size b) q
  elsewhere b st w o d =
      let q = s.objects.shows b st w o in
      let t : Shows (value_of g.identity) m.heap b (g.kind b) (g.size b) q.0 = q.2 in
      let n = apart E m team g lay inv a b f.stands st d (alone E m team g lay inv a f.stands f.written f.inside.0 f.inside.1 b st o) in (
        q.0,
        stored_elsewhere p.heap (g.identity a) r x y is (g.identity b) n ∙ q.1,
        shows_same q.0 (λ j l u. off j u) t,
      )
    where
      off : (j : ℕ) → j < g.size b → h (b + j) ≡ m.heap (b + j)
      off j l = put_other m.heap (a + i) v (b + j) (λ e. d (one_place g.size b a j i inv.laid.apart l f.last e))

  board_stays : (x : ℕ) → x < 16 → h (E.board + x) ≡ m.heap (E.board + x)
  board_stays x l = put_other m.heap (a + i) v (E.board + x) (λ e. let q = inv.laid.lies a f.stands in omega (arith, e, q, inv.laid.order, lay.below, lay.old_below, f.last))

  targets : TargetsShow E (with_word m (a + i) v) g after
  targets = shown_of_others E (with_word m (a + i) v) g p.heap after (stored_keeps_cells p.heap (g.identity a) r x y is (λ e. other (sym was.kind ∙ e)))
      (shown_beside E m g (a + i) v none p.heap s.targets)

  pub shows_store : Shown E (with_word m (a + i) v) team g (with_heap p after)
  shows_store = record {
    objects = record {
      shows = λ b st w o. ⊎_elim
          (λ (e : b ≡ a). rw e (changed, stored_there p.heap (g.identity a) r x y is, shows_there))
          (λ (d : b ≢ a). elsewhere b st w o d)
          (cases_eq b a);
    };
    targets = targets;
    board = record { sixteen = s.board.sixteen; board = λ x l. rw (board_stays x l) (s.board.board x l) };
    as_many = s.as_many;
    makers = stored_makers p.heap (g.identity a) r x y is ∙ s.makers;
    accounts = λ k q e. let c = s.accounts k q e in record { counter = c.counter; printed = c.printed; executed = c.executed; end = c.end; serial = c.serial ∙ sym (stored_serial p.heap (g.identity a) r x y is k) };
    registers = s.registers;
  }

-- the plain heap changes at that word alone
abbrev pub StoresShow : Type 0
StoresShow = (E : Era) (m : Memory) (team : Team) (g : Ghost) (p : plain.Plain) (a x v : ℕ) (r : plain.Record) (y : Value) → IsLaidOut E → Invariant E m team g
    → IsWordOf E g.size g.writer g.kind a x → g.kind a ≢ Weak → IsNoTarget g (a + word_of_value (g.kind a) x)
    → plain.record_of p.heap (g.identity a) ≡ Some r → StandsFor g (g.kind a) x v y → Shown E m team g p
    → Shown E (with_word m (a + word_of_value (g.kind a) x) v) team g (with_heap p (stored p.heap (g.identity a) r x y))

pub stores_show : StoresShow
stores_show = shows_store

abbrev pub BoardStoresShow : Type 0
BoardStoresShow = (E : Era) (m : Memory) (team : Team) (g : Ghost) (p : plain.Plain) (x v : ℕ) (y : Value) → IsLaidOut E → Invariant E m team g → x < 16
    → IsNoTarget g (E.board + x) → value_of g.identity v ≡ Some y → Shown E m team g p
    → Shown E (with_word m (E.board + x) v) team g (with_heap p (with_board p.heap x y))

-- the store on the board
pub board_stores_show : BoardStoresShow
board_stores_show E m team g p x v y lay inv l none denotes s = record {
  objects = record {
    shows = λ b st w o.
        let q = s.objects.shows b st w o in
        let t : Shows (value_of g.identity) m.heap b (g.kind b) (g.size b) q.0 = q.2 in (
          q.0,
          q.1,
          shows_same q.0 (λ j f u. off b st j u) t,
        );
  };
  targets = shown_of_others E (with_word m (E.board + x) v) g p.heap (with_board p.heap x y) (λ _ _ is. is)
      (shown_beside E m g (E.board + x) v none p.heap s.targets);
  board = record {
    sixteen = length-set p.heap.board x y ∙ s.board.sixteen;
    board = λ z u. ⊎_elim
        (λ (e : z ≡ x). rw (put_at m.heap (E.board + x) v (E.board + z) (omega (arith, e)), e) (denotes ∙ sym (slice_get-set_same p.heap.board x y (let n = s.board.sixteen in omega (arith, n, l)))))
        (λ (d : z ≢ x). rw (put_other m.heap (E.board + x) v (E.board + z) (λ e. d (omega (arith, e))), slice_get-set_other p.heap.board x z y d) (s.board.board z u))
        (cases_eq z x);
  };
  as_many = s.as_many;
  makers = s.makers;
  accounts = λ k q e. let c = s.accounts k q e in record { counter = c.counter; printed = c.printed; executed = c.executed; end = c.end; serial = c.serial };
  registers = s.registers;
}
  where
    off : (b : ℕ) → 0 < g.size b → (j : ℕ) → j < g.size b → put m.heap (E.board + x) v (b + j) ≡ m.heap (b + j)
    off b st j u = put_other m.heap (E.board + x) v (b + j) (λ e. let q = inv.laid.lies b st in omega (arith, e, q, inv.laid.order, lay.below, lay.old_below, u))

-- ---- loads

header_read : (E : Era) (m : Memory) (team : Team) (g : Ghost) (p : plain.Plain) (w a : ℕ) → IsLaidOut E → Invariant E m team g → Shown E m team g p
    → MayHold E g.size g.writer w → decode w ≡ PointerWord a → IsLedTo E m g p a
unfolding Lands Leads
header_read E m team g p w a lay inv s may d =
    let q = may.lands a d in
    let n : ¬ ((E.old_start ≤ a) × (a < E.old_start + E.old_span)) = (λ o. may.clean (a, d, o.0, o.1)) in
    let inside : (E.start ≤ a) × (a < E.start + E.span) = place a q.0 n in
    let none = uncopied E m team g lay inv a q.0 inside.0 inside.1 in
    record {
      stands = q;
      inside = inside;
      header = inv.headed.own a q.0 q.1 none (unkept a q.0 inside);
      shows = s.objects.shows a q.0 q.1 (inl none);
    }
  where
    place : (a : ℕ) → 0 < g.size a → ¬ ((E.old_start ≤ a) × (a < E.old_start + E.old_span)) → (E.start ≤ a) × (a < E.start + E.span)
    place a st n = ⊎_elim
        (λ q. (q.0, omega (arith, q, st, inv.laid.order)))
        (λ t. ⊎_elim (λ q. (omega (arith, q, inv.laid.order), omega (arith, q, st))) (λ q. absurd (n (q.0, omega (arith, q, st)))) t)
        (inv.laid.lies a st)

    unkept : (a : ℕ) → 0 < g.size a → (E.start ≤ a) × (a < E.start + E.span) → g.keeper a ≡ 0
    unkept a st l = by_keeper (g.keeper a) refl
      where
        by_keeper : (y : ℕ) → g.keeper a ≡ y → g.keeper a ≡ 0
        by_keeper zero e = e
        by_keeper (suc y) e = absurd (let t = inv.copied.keeper_of a y st (omega (arith, e)) in omega (arith, t, l, lay.apart))

pub headers_are_read : HeadersAreRead
headers_are_read E m team g p k w a ready s may d = header_read E m team g p w a ready.laid_out ready.invariant s may d

pub registers_are_held : RegistersAreHeld
registers_are_held E m team g k j ready mutator now n s =
    let c = (ready.invariant.workers k ready.member).registers mutator n in
    record { clean = c.clean j s (λ t. true_false now t); lands = c.lands j s }

pub numbers_are_held : NumbersAreHeld
unfolding Lands Leads
numbers_are_held E size writer w n e = record { clean = λ l. absurd (let q = sym e ∙ l.1 in cc); lands = λ b d. absurd (let q = sym e ∙ d in cc) }
