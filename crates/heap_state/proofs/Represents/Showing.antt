-- A configuration that keeps the invariant of the proofs shows each plain state that it represents, where all that stands is in reach.
use Rattle.std.proofs.Common.{◌≡◌, ℕ, ◌+◌, ◌-◌, ◌<◌, true, Some, None, sym, ◌∙◌, arith, refl, ⊎_elim, ◌⊎◌, inl, inr, Option}
use Rattle.std.specs.Prelude.{slice_get}
use Rattle.std.proofs.lemmas.Bool.{lt-ltb}
use Rattle.std.proofs.lemmas.Option.{slice_get_within}
use Rattle.plain_state.specs.Cells.{cell_of}
use Rattle.plain_state.specs.declared.value.Value.{Value}
use Rattle.plain_state.specs.State as plain
use Rattle.plain_state.specs.Layout.{word_of_value}
use Rattle.heap_state.specs.Memory.Table.{IsFormed}
use Rattle.heap_state.specs.Configuration.{Configuration, era, memory, team}
use Rattle.heap_state.specs.Meaning.Denotes.{denoted}
use Rattle.heap_state.specs.Meaning.Dump.{dump_of}
use Rattle.heap_state.specs.Memory.Era.{Era, Memory}
use Rattle.heap_state.specs.Invariant.Ghost.{Ghost, IsField, Lands, header_kind}
use Rattle.heap_state.specs.Invariant.Inductive.{Invariant}
use Rattle.heap_state.specs.Meaning.Represents.{IsOwn, Names, RecordShows, Represents, own_header}
use Rattle.heap_state.specs.Meaning.Values.{value_of, Shows, IsShownCell, MayBeEmptied, BoardShows, RegistersShow, Shown}
use Rattle.heap_state.specs.Known.{is_mutator}
use Rattle.heap_state.proofs.Records.KindsOfHeaders.{said_there}
use Rattle.heap_state.proofs.Records.Layouts.{value_within}
use Rattle.heap_state.proofs.Represents.Denoting.{Headers, Own, Forwarded, headers, header_of, denotes, field_lands, target_lands, board_lands}
use Rattle.heap_state.proofs.Represents.Emptying.{may_be_emptied}
use Rattle.heap_state.proofs.Represents.ShownPlaces.{whole_record}
use Rattle.heap_state.proofs.Puts.{none≢some}
use Rattle.heap_state.proofs.Records.Holding.{uncopied_here}
use Rattle.heap_state.proofs.Walks.InHeap.{IsInReach, in_heap_complete, lay}
use Rattle.heap_state.proofs.Walks.Walking.{item}

module _ (c : Configuration) (g : Ghost) (formed : IsFormed c.pages c.words) (inv : Invariant (era c) (memory c) (team c) g) (in_reach : (a : ℕ) → 0 < g.size a → IsInReach (era c) (memory c).traced a)
    (q : plain.Plain) (represents : Represents c q) where
  abbrev E : Era
  E = era c

  abbrev m : Memory
  m = memory c

  -- ---- records

  -- the record that stands there shows what is in its place
  shows_there : (a : ℕ) → 0 < g.size a → g.writer a ≡ 0 → RecordShows (dump_of c) q (item a (g.size a))
  shows_there a st w = represents.dump.records (item a (g.size a)) (in_heap_complete c g formed inv a st w (in_reach a st))

  own_there : (a : ℕ) → 0 < g.size a → g.writer a ≡ 0 → own_header (dump_of c) a ≡ header_of c g formed inv a
      → IsOwn (dump_of c) (item a (g.size a)) (g.kind a) (g.size a - 1) (g.identity a).serial (g.identity a).mutator
  own_there a st w e = record {
    walked = in_heap_complete c g formed inv a st w (in_reach a st);
    head = header_kind (g.kind a);
    header = e;
    said = sym (said_there g.size g.writer g.kind m.heap inv.raw_words inv.counts a st w);
  }

  abbrev ShowsIt : ℕ → Type 0
  ShowsIt a = (r : plain.Record) × (plain.record_of q.heap (g.identity a) ≡ Some r) × Shows (value_of g.identity) m.heap a (g.kind a) (g.size a) r

  record_shows : (a : ℕ) → 0 < g.size a → g.writer a ≡ 0 → (g.copy a ≡ 0) ⊎ (0 < g.keeper a) → ShowsIt a
  record_shows a st w own = by_headers (headers c g formed inv a st w)
    where
      shows : (r : plain.Record) → Shows (denoted c) m.heap a (g.kind a) (g.size a) r → Shows (value_of g.identity) m.heap a (g.kind a) (g.size a) r
      shows r s = record {
        kind = s.kind;
        size = s.size;
        fields = λ x l f.
            let v = value_within r s x l in
            let i : IsField g.size g.writer g.kind a (word_of_value (g.kind a) x) = record { stands = st; written = w; field = f; first = v.0; last = v.1 } in
            sym (denotes c g formed inv (m.heap (a + word_of_value (g.kind a) x)) (field_lands c g formed inv a (word_of_value (g.kind a) x) i (in_reach a st)).0) ∙ s.fields x l f;
        numbers = s.numbers;
        count = s.count;
      }

      by_headers : Headers c g formed inv a → ShowsIt a
      by_headers (Forwarded b e n y f) = absurd (omega (arith, n, y, own))
      by_headers (Own e n) =
          let s = (whole_record (dump_of c) q (item a (g.size a)) (shows_there a st w) (g.kind a) (g.size a - 1) (g.identity a).serial (g.identity a).mutator (own_there a st w e)).1 in
          (s.0, s.1, shows s.0 s.2)

  -- ---- cells

  abbrev ShowsTarget : ℕ → Value → Type 0
  ShowsTarget a v = (value_of g.identity (m.heap (a + 1)) ≡ Some v) ⊎ MayBeEmptied E m g a v

  targets : (a : ℕ) (v : Value) → IsShownCell E m g a → cell_of q.heap (g.identity a) ≡ Some v → ShowsTarget a v
  targets a v s e = by_record (plain.record_of q.heap (g.identity a)) refl (headers c g formed inv a st s.cell.written)
    where
      st : 0 < g.size a
      st = s.cell.stands

      own : (g.copy a ≡ 0) ⊎ (0 < g.keeper a)
      own = ⊎_elim (λ r. inl (uncopied_here E m (team c) g inv (lay c g formed inv) a st r.0 r.1).0) (λ r. r.2) s.place

      by_record : (o : Option plain.Record) → plain.record_of q.heap (g.identity a) ≡ o → Headers c g formed inv a → ShowsTarget a v
      by_record o of (Forwarded b f n y z) = absurd (omega (arith, n, y, own))
      by_record None of (Own f n) = none≢some (rw of at e)
      by_record (Some r) of (Own f n) =
          let three = inv.cells.chain.three a st s.cell.weak in
          let word = (shows_there a st s.cell.written).words 1 (omega arith) (omega (arith, three)) in
          let names : Names (dump_of c) q (item a (g.size a)) (g.kind a) r =
          record { len = g.size a - 1; serial = (g.identity a).serial; mutator = (g.identity a).mutator; own = own_there a st s.cell.written f; names = of } in
          ⊎_elim
          (λ d. inl (sym (denotes c g formed inv (m.heap (a + 1)) (target_lands c g formed inv a s.cell (in_reach a st)).0) ∙ d))
          (λ y. inr (may_be_emptied c g formed inv (item a (g.size a)) v s.cell.weak y))
          (word.target (g.kind a) r v names (s.cell.weak, refl) (rw of at e))

  -- ---- mutators and the board

  registers : (k : ℕ) (p : plain.Mutator) → slice_get q.mutators k ≡ Some p → RegistersShow (value_of g.identity) ((team c).worker k).registers p
  registers k p e = record {
    eight = represents.dump.eight k p e;
    registers_show = λ n j l. sym (denotes c g formed inv (((team c).worker k).registers j) (lands n j l)) ∙ (represents.dump.registers k j l).shows p e n;
  }
    where
      lands : p.end ≡ None → (j : ℕ) → j < 8 → Lands g.size g.writer (((team c).worker k).registers j)
      lands n j l =
          let within = slice_get_within q.mutators k p e in
          let few : k < c.mutators = omega (arith, within, represents.dump.as_many) in
          let staffed = inv.staffed.few in
          let lt : k < (team c).count = omega (arith, few, staffed) in
          let posted : is_mutator ((team c).worker k).post ≡ true = inv.staffed.posts k lt ∙ lt-ltb k c.mutators few in
          ((inv.workers k lt).registers posted ((represents.accounts k p e).end ∙ n)).lands j l

  board : BoardShows E (value_of g.identity) m.heap q.heap
  board = record {
    sixteen = represents.dump.sixteen;
    board = λ x l. sym (denotes c g formed inv (m.heap (E.board + x)) (board_lands c g formed inv x l).0) ∙ (represents.dump.board x l).shows;
  }

  pub shown : Shown E m (team c) g q
  shown = record {
    objects = record { shows = record_shows };
    targets = record { shows = targets };
    board = board;
    as_many = represents.dump.as_many.0;
    makers = represents.dump.as_many.1;
    accounts = represents.accounts;
    registers = registers;
  }
