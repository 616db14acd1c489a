-- What is told of a core by its readers represents the plain state that the core represents.
use Rattle.std.proofs.Common.{◌≡◌, inl, inr, ℕ, ◌+◌, ◌<◌, ◌≤◌, Bool, true, false, List, [], length, get_or, slice_index, take, Some, refl, sym, ap, subst, ◌∙◌, ⊎_elim, arith}
use Rattle.std.proofs.Math.Path.{fun_ext}
use Rattle.std.specs.Prelude.{if◌then◌else◌}
use Rattle.std.proofs.lemmas.List.{get_or-map, get_or-take, length-map, length-take-le}
use Rattle.std.proofs.lemmas.Option.{slice_get_within}
use Rattle.plain_state.specs.State as plain
use Rattle.plain_state.specs.declared.kind.Kind.{Kind}
use Rattle.plain_state.specs.declared.value.Value.{Value}
use Rattle.space_map.specs.Table.{Row, is_row, place_of, table_length}
use Rattle.space_map.proofs.Rows.{is_row-decides, place_of-lt}
use Rattle.heap_state.specs.Meaning.Dump.{Dump, dump_of}
use Rattle.heap_state.specs.Meaning.Represents.{DumpRepresents, RegisterShows, HeadShows, WordShows, RecordShows, IsEmptied, IsOwn, HasOwn, Names, LeadsToRecord, denoted_in_dump}
use Rattle.heap_state.specs.Memory.Table.{Table, table_by, table_of, word_in}
use Rattle.heap_state.specs.Memory.Walk.{Walked}
use Rattle.heap_state.specs.Known.{Scanner, Known, fresh}
use Rattle.dump_text.specs.Said.{dump_said, register_told}
use Rattle.gc_worker.specs.Workers.Held.{Held}
use Rattle.gc_worker.specs.Workers.Knows.{knows}
use Rattle.gc_worker.specs.Laws.Step.{held_at, nobody, read}
use Rattle.gc_core.specs.Core.{CoreState, workers_of}
use Rattle.gc_core.specs.Dumped.{dumped}
use Rattle.gc_core.specs.Readers.{mutators_in, registers_in}

-- ---- other registers beside the same table

module _ (d : Dump) (p : plain.Plain) (mutators : ℕ) (registers : ℕ → ℕ → ℕ) where
  -- the dump with these registers of so many mutators
  abbrev other : Dump
  other = record { table = d.table; kept = d.kept; mutators = mutators; registers = registers }

  own_back : (w : Walked) (kind : Kind) (len serial mutator : ℕ) → IsOwn other w kind len serial mutator → IsOwn d w kind len serial mutator
  own_back w kind len serial mutator o = record { walked = o.walked; head = o.head; header = o.header; said = o.said }

  has_own : (w : Walked) → HasOwn d w → HasOwn other w
  has_own w h = record {
    kind = h.kind;
    len = h.len;
    serial = h.serial;
    mutator = h.mutator;
    own = record { walked = h.own.walked; head = h.own.head; header = h.own.header; said = h.own.said };
  }

  names_back : (w : Walked) (kind : Kind) (r : plain.Record) → Names other p w kind r → Names d p w kind r
  names_back w kind r n =
      record { len = n.len; serial = n.serial; mutator = n.mutator; own = own_back w kind n.len n.serial n.mutator n.own; names = n.names }

  head_shows : (w : Walked) → HeadShows d p w → HeadShows other p w
  head_shows w h = record {
    owns = λ must. has_own w (h.owns must);
    shows = λ kind len serial mutator o. h.shows kind len serial mutator (own_back w kind len serial mutator o);
    once = λ v kind more len longer serial mutator o other_own.
        h.once v kind more len longer serial mutator (own_back w kind len serial mutator o) (own_back v more longer serial mutator other_own);
  }

  empties : (w : Walked) (v : Value) → IsEmptied d w v → IsEmptied other w v
  empties w v e = record { copied = e.copied; walked = e.walked; empty = e.empty; lost = e.lost }

  word_shows : (w : Walked) (i : ℕ) → WordShows d p w i → WordShows other p w i
  word_shows w i s = record {
    count = λ kind r n. s.count kind r (names_back w kind r n);
    field = λ kind r x n. s.field kind r x (names_back w kind r n);
    number = λ kind r x n. s.number kind r x (names_back w kind r n);
    leads = λ kind len serial mutator o. s.leads kind len serial mutator (own_back w kind len serial mutator o);
    target = λ kind r v n is held. ⊎_elim
        (λ (shown : denoted_in_dump d (d.table.heap (w.at + i)) ≡ Some v). inl shown)
        (λ (emptied : IsEmptied d w v). inr (empties w v emptied))
        (s.target kind r v (names_back w kind r n) is held);
    target_leads = λ kind len serial mutator o. s.target_leads kind len serial mutator (own_back w kind len serial mutator o);
  }

  record_shows : (w : Walked) → RecordShows d p w → RecordShows other p w
  record_shows w r = record { head = head_shows w r.head; words = λ i first last. word_shows w i (r.words i first last) }

  register_shows : (m j : ℕ) → (m < length p.mutators → registers m j ≡ d.registers m j) → RegisterShows d p m j → RegisterShows other p m j
  register_shows m j same r = record {
    shows = λ q is going. ap (denoted_in_dump d) (same (slice_get_within p.mutators m q is)) ∙ r.shows q is going;
    leads = λ q is going. subst (LeadsToRecord d) (sym (same (slice_get_within p.mutators m q is))) (r.leads q is going);
  }

  -- where they are the same for each mutator that is there
  with_registers : mutators ≡ d.mutators → ((m j : ℕ) → m < length p.mutators → j < 8 → registers m j ≡ d.registers m j) → DumpRepresents d p → DumpRepresents other p
  with_registers as_many same r = record {
    as_many = (r.as_many.0 ∙ sym as_many, r.as_many.1 ∙ sym as_many);
    eight = r.eight;
    sixteen = r.sixteen;
    ordered = λ space walked. let o = r.ordered space walked in record { size = o.size; area = o.area };
    registers = λ m j few. register_shows m j (λ there. same m j there few) (r.registers m j few);
    board = λ x few. let b = r.board x few in record { shows = b.shows; leads = b.leads };
    readable = r.readable;
    old_readable = r.old_readable;
    records = λ w there. record_shows w (r.records w there);
  }

-- ---- the table's own words

-- a row of the table stands among them
taken_row : (n : ℕ) (words : List ℕ) (row : Row) → word_in n (take (table_length n) words) row ≡ word_in n words row
unfolding word_in
taken_row n words row = by_test (is_row n row) refl
  where
    by_test : (b : Bool) → is_row n row ≡ b
        → (if b then slice_index (take (table_length n) words) (place_of n row) else 0) ≡ (if b then slice_index words (place_of n row) else 0)
    by_test false none = refl
    by_test true is = get_or-take (table_length n) words (place_of n row) 0 (place_of-lt n row ((is_row-decides n row).0 is))

-- they say what all words say of the table
taken_says : (n : ℕ) (words : List ℕ) → table_of n (take (table_length n) words) ≡ table_of n words
unfolding table_of
taken_says n words = ap (table_by n) (fun_ext (λ row. taken_row n words row))

-- ---- the registers of a core

abbrev registers_of : Held → List ℕ
registers_of x = x.registers

registers_length : (s : CoreState) → s.heap.mutators ≤ workers_of s → length (registers_in s) ≡ s.heap.mutators
registers_length s enough = length-map (mutators_in s) registers_of ∙ length-take-le s.heap.mutators s.heap.workers enough

registers_at : (s : CoreState) (m : ℕ) → s.heap.mutators ≤ workers_of s → m < s.heap.mutators → get_or (registers_in s) m [] ≡ (held_at s.heap m).registers
registers_at s m enough few =
    let there : m < length (mutators_in s) = omega (arith, few, length-take-le s.heap.mutators s.heap.workers enough) in
    get_or-map registers_of (mutators_in s) m nobody [] there ∙ ap registers_of (get_or-take s.heap.mutators s.heap.workers m nobody few)

register_is : (s : CoreState) (m j : ℕ) → s.heap.mutators ≤ workers_of s → m < s.heap.mutators → register_told (registers_in s) m j ≡ (dump_of (read s.heap)).registers m j
register_is s m j enough few =
    let there : m < length s.heap.workers = omega (arith, enough, few) in
    ap (λ (rs : List ℕ). get_or rs j 0) (registers_at s m enough few)
    ∙ sym (ap (λ (x : Known). x.registers j) (get_or-map knows s.heap.workers m nobody (fresh Scanner) there))

pub told_represents : (s : CoreState) (p : plain.Plain) → s.heap.mutators ≤ workers_of s → DumpRepresents (dump_of (read s.heap)) p → DumpRepresents (dump_said (dumped s)) p
told_represents s p enough r =
    subst (λ (t : Table). DumpRepresents (record (dump_said (dumped s)) { table = t }) p) (sym (taken_says s.heap.pages s.heap.words))
    (with_registers (dump_of (read s.heap)) p (length (registers_in s)) (register_told (registers_in s)) (registers_length s enough)
    (λ m j there few. register_is s m j enough (omega (arith, there, r.as_many.0))) r)
