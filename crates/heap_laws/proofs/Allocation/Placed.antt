-- A mutator stores a new record's header, and points to it, in one step.
use Rattle.std.proofs.Common.{◌≡◌, ◌≢◌, ℕ, ◌+◌, ◌<◌, Some, None, refl, sym, ap, ◌∙◌, arith, ⊎_elim, inr}
use Rattle.std.proofs.Math.ListN.{length-set}
use Rattle.std.proofs.lemmas.Bool.{cases_eq}
use Rattle.heap_words.specs.Decoded.{PointerWord, decode}
use Rattle.heap_words.specs.Word.{pointer_word}
use Rattle.heap_words.proofs.Ranges.{pointer_bounds}
use Rattle.heap_words.proofs.Spelling.{pointer_word-decode}
use Rattle.plain_state.specs.declared.sizes.TheConstants.{NUMBERS}
use Rattle.plain_state.specs.State as plain
use Rattle.plain_state.specs.Writing.{gained}
use Rattle.plain_state.specs.declared.kind.Kind.{Kind}
use Rattle.plain_state.specs.declared.kind.Kind.TheVariants.{Weak}
use Rattle.plain_state.specs.declared.value.Identity.{Identity}
use Rattle.plain_state.specs.declared.value.Value.TheVariants.{Reference}
use Rattle.heap_state.specs.Invariant.Parts.Cells.{Cells}
use Rattle.heap_state.specs.Memory.Entries.{WordIs}
use Rattle.heap_state.specs.Memory.Era.{Era, Memory}
use Rattle.heap_state.specs.Invariant.Ghost.{Ghost}
use Rattle.heap_state.specs.Meaning.Values.{Shown, Shows, value_of}
use Rattle.heap_state.specs.Invariant.Parts.Knowledge.{Accesses}
use Rattle.heap_state.specs.Known.{Known, Team, Stock, Access}
use Rattle.heap_state.proofs.Puts.{put_at, put_other, put_same, put_twice}
use Rattle.heap_laws.specs.Fields.Held.{MayHold, HoldsValue, MutatorGoesOn}
use Rattle.heap_laws.specs.Fields.Stores.{HoldsTarget, IsAs, MutatorsPlace, with_record, with_reference, plain_next}
use Rattle.heap_laws.specs.Allocation.Records.{PlacesNext, allocated, next_identity}
use Rattle.heap_laws.specs.Steps.{Ready, WritesRow, InWord, with_word, with_worker}
use Rattle.heap_laws.specs.Targets.Records.{MayBeTarget}
use Rattle.heap_laws.proofs.Allocation.Header.{placed, new_place, records_are_placed, placed_is_held}
use Rattle.heap_laws.proofs.Allocation.Cycle.{placing_keeps_cycle}
use Rattle.heap_laws.proofs.Allocation.NewRecordParts.{NewPlace, lands_on, unused}
use Rattle.heap_laws.proofs.Allocation.Shown.{placing_shows, within as maker_there}
use Rattle.heap_laws.proofs.Allocation.StockPages.Stocks.{Places, places_of, stocked_in_chain}
use Rattle.heap_laws.proofs.Allocation.Values.{value_allocated}
use Rattle.heap_laws.proofs.Allocation.PlacingWorkers.{accesses_allocated}
use Rattle.heap_laws.proofs.Cells.Kept.{of_chain}
use Rattle.heap_laws.proofs.Cells.Placed.{placing_carries_chain}
use Rattle.heap_laws.proofs.Fields.Laws.{both, goes_as}
use Rattle.heap_laws.proofs.Frames.Values.{pointer_from_value}
use Rattle.heap_laws.proofs.Targets.Placed.{placing_carries_targets, new_targets_are_stored}
use Rattle.plain_state.proofs.Gained.{gained_serial}
use Rattle.plain_state.proofs.Elements.{slice_get-set_same, slice_get-set_other}

module _ (E : Era) (m : Memory) (team : Team) (g : Ghost) (p : plain.Plain) (k : ℕ) (next : Known) (q : plain.Mutator) (s : Stock) (c : Kind) (z v d pointer : ℕ) {target : ℕ} (r : plain.Record)
    (ready : Ready E m team g k) (shown : Shown E m team g p) (places : Places E team k s c z v target) (behind : Shows (value_of g.identity) m.heap s.at c z r) (holds : c ≡ Weak → HoldsTarget E g target r) (small : d < 8) (points : decode pointer ≡ PointerWord s.at)
    (goes : MutatorGoesOn E m g (team.worker k) next) (same : IsAs g p.heap k next q) where
  abbrev i : Identity
  i = next_identity team k

  abbrev g' : Ghost
  g' = allocated g s.at z c i

  abbrev m' : Memory
  m' = with_word m s.at v

  abbrev taken : Known
  taken = with_record next s z d pointer

  cr : NewPlace E m.front m.low g.size g.copy g.keeper s.at z
  cr = new_place E m team g k s c z v ready.laid_out ready.invariant places

  new : HoldsValue E g' pointer (Reference i)
  new = placed_is_held E m team g k s c z v ready.laid_out ready.invariant places pointer points

  -- what the mutator held it still may hold, and it denotes what it denoted
  held_on : (w : ℕ) → MayHold E g.size g.writer w → MayHold E g'.size g'.writer w
  held_on w h = record { clean = h.clean; lands = lands_on cr g.writer w h.lands }

  value_on : (w : ℕ) → MayHold E g.size g.writer w → value_of g'.identity w ≡ value_of g.identity w
  value_on w h = value_allocated g.size g.writer g.identity s.at i w (unused cr) h.lands

  -- its serial is the next one of the plain heap
  serial : (team.worker k).account.serial ≡ plain.serial_of p.heap k
  serial = sym goes.serial ∙ same.account.serial

  goes' : MutatorGoesOn E m' g' (placed team k s z) taken
  goes' =
      let serial' : taken.account.serial ≡ (placed team k s z).account.serial = let e = goes.serial in omega arith in
      let access : (f : Access) → next.access ≡ Some f → Accesses E g'.size g'.writer g'.kind f = λ f e. accesses_allocated cr g.writer g.kind c f (goes.access f e) in
      let registers : next.account.end ≡ None → (j : ℕ) → j < 8 → MayHold E g'.size g'.writer (taken.registers j) = λ n j l. ⊎_elim
      (λ (e : j ≡ d). rw (put_at next.registers d pointer j e) new.held)
      (λ (o : j ≢ d). rw (put_other next.registers d pointer j o) (held_on (next.registers j) (goes.registers n j l)))
      (cases_eq j d) in
      assumption

  same' : IsAs g' (gained p.heap k r) k taken (with_reference p.heap k q d)
  same' = record {
    account = record {
      counter = same.account.counter;
      printed = same.account.printed;
      executed = same.account.executed;
      end = same.account.end;
      serial = let e = same.account.serial in let t = gained_serial p.heap k r (maker_there E m team g p k s c z v r ready.laid_out ready.invariant places behind holds shown) in omega arith;
    };
    registers = record {
      eight = length-set q.registers d (Reference next') ∙ same.registers.eight;
      registers_show = λ n j l. ⊎_elim
          (λ (e : j ≡ d). rw (put_at next.registers d pointer j e, e) (new.denotes ∙ (ap (λ x. Some (Reference x)) named ∙ sym (slice_get-set_same q.registers d (Reference next') (let t = same.registers.eight in omega arith)))))
          (λ (o : j ≢ d). rw (put_other next.registers d pointer j o) (value_on (next.registers j) (goes.registers (same.account.end ∙ n) j l) ∙ (same.registers.registers_show n j l ∙ sym (slice_get-set_other q.registers d j (Reference next') o))))
          (cases_eq j d);
    };
  }
    where
      next' : Identity
      next' = plain_next p.heap k

      same_serial : i.serial ≡ next'.serial
      same_serial = let e = serial in omega arith

      named : i ≡ next'
      named = λ x. record { mutator = k; serial = same_serial x }

-- a word that refers to a record is small
reference_small : (identity : ℕ → Identity) (w : ℕ) (i : Identity) → value_of identity w ≡ Some (Reference i) → w < NUMBERS
unfolding pointer_word
reference_small identity w i e =
    let p = pointer_from_value identity w i e in
    let s = pointer_word-decode w p.0 p.1 in
    let b = pointer_bounds w p.0 p.1 in
    omega (arith, s, b)

-- the row of the header
writes_header : (E : Era) (m : Memory) (team : Team) (g : Ghost) (k : ℕ) (s : Stock) (c : Kind) (z v : ℕ) {target : ℕ} → Ready E m team g k → Places E team k s c z v target → WritesRow E m (Some (WordIs s.at v)) (with_word m s.at v)
writes_header E m team g k s c z v ready places =
    let ok = (ready.invariant.stocks.stocked k ready.member s places.own.has places.own.epoch).lies in
    InWord s.at v (let lay = ready.laid_out in let f = places.fits in let n = places.some in omega (arith, ok, lay.below, f, n))

-- what is known of the cells then
cells_after : (E : Era) (m : Memory) (team : Team) (g : Ghost) (k : ℕ) (s : Stock) (c : Kind) (z v target : ℕ) (r : plain.Record) → Ready E m team g k → PlacesNext team k s c z v target → Places E team k s c z v target
    → (c ≡ Weak → z ≡ 3) → (c ≡ Weak → HoldsTarget E g target r)
    → Cells E (with_word m s.at v) (with_worker team k (placed team k s z)) (allocated g s.at z c (next_identity team k))
cells_after E m team g k s c z v target r ready next_one places three holds =
    let before = ready.invariant.cells in
    let w : Known = placed team k s z in
    let writes = writes_header E m team g k s c z v ready places in
    let held : c ≡ Weak → MayBeTarget E g (m.heap (s.at + 1)) = λ e. rw (new_targets_are_stored E m team g k s z v target ready (rw e at next_one)) (inr (holds e).2.held) in
    of_chain {m = m} (record { weak = refl; weak_turn = refl })
    (placing_carries_chain E m (with_word m s.at v) m.weak m.weak_turn team g before.ranks k s c z v target w ready next_one three writes (stocked_in_chain E (team.worker k) w.stock w.account) before.chain)
    (placing_carries_targets E m (with_word m s.at v) m.weak m.weak_turn team g before.ranks k s c z v target ready next_one held writes before.chain before.targets)

pub mutators_place : MutatorsPlace
mutators_place E m team g p k next q s c z v target d pointer r ready shown next_one three behind holds small points goes same =
    let places : Places E team k s c z v target = places_of s c z v target ready next_one three (λ e. let t = (holds e).2 in reference_small g.identity target (holds e).0 t.denotes) in
    let t = put_twice team.worker k (placed team k s z) (with_record next s z d pointer) in
    let w = put_same team.worker k (placed team k s z) in
    let inv = records_are_placed E m team g k s c z v ready.laid_out ready.invariant places (cells_after E m team g k s c z v target r ready next_one places three holds) in
    record {
      later = with_word m s.at v;
      writes = writes_header E m team g k s c z v ready places;
      makes = rw (← t) (both (λ o cy. placing_keeps_cycle E m team g o k s c z v ready.laid_out ready.invariant places cy) (λ page. omega arith)
          (goes_as E _ (with_worker team k (placed team k s z)) _ _ k (with_record next s z d pointer) (with_reference p.heap k q d) inv ready.member (rw w places.runs)
          (placing_shows E m team g p k s c z v r ready.laid_out ready.invariant places behind holds shown)
          (rw w (goes' E m team g p k next q s c z v d pointer r ready shown places behind holds small points goes same))
          (same' E m team g p k next q s c z v d pointer r ready shown places behind holds small points goes same)));
    }
