-- A configuration that keeps the invariant and shows a plain state represents it.
use Rattle.std.proofs.Common.{◌≡◌, ℕ, ◌+◌, ◌-◌, ◌<◌, true, Some, None, refl, sym, ap, ◌∙◌, subst, arith, ⊎_elim, ◌⊎◌, inl, inr}
use Rattle.std.specs.Prelude.{slice_get}
use Rattle.std.proofs.lemmas.Bool.{lt-ltb}
use Rattle.std.proofs.lemmas.Option.{slice_get_within}
use Rattle.plain_state.specs.Cells.{value_of_cell}
use Rattle.plain_state.specs.declared.kind.Kind.{Kind}
use Rattle.plain_state.specs.declared.kind.Kind.TheVariants.{Weak}
use Rattle.plain_state.specs.declared.value.Value.{Value}
use Rattle.plain_state.specs.State as plain
use Rattle.plain_state.specs.Layout.{word_of_value}
use Rattle.heap_state.specs.Memory.Table.{IsFormed}
use Rattle.heap_state.specs.Configuration.{Configuration, table, era, memory, team}
use Rattle.heap_state.specs.Meaning.Denotes.{denoted}
use Rattle.heap_state.specs.Memory.Era.{Era, Memory}
use Rattle.heap_state.specs.Invariant.Ghost.{Ghost, Leads, Lands, header_kind}
use Rattle.heap_state.specs.Invariant.Inductive.{Invariant}
use Rattle.heap_state.specs.Meaning.Dump.{dump_of}
use Rattle.heap_state.specs.Meaning.Represents.{IsBusy, IsInHeap, IsOwn, MustOwn, Names, HasOwn, IsEmptied, IsFieldOf, LeadsToRecord, RegisterShows, BoardWordShows, Represents, own_header}
use Rattle.heap_state.specs.Meaning.Values.{value_of, Shows, Shown}
use Rattle.heap_state.specs.Memory.Walk.{Walked}
use Rattle.heap_state.specs.Known.{is_mutator}
use Rattle.heap_state.proofs.Represents.Denoting.{Headers, Own, Forwarded, denotes, header_of, headers, reaches, field_lands, target_lands, board_lands}
use Rattle.heap_state.proofs.Records.Holding.{uncopied_here}
use Rattle.heap_state.proofs.Walks.InHeap.{in_heap_complete, in_heap_sound, lay, now_sound, now_read, old_readable}
use Rattle.heap_state.proofs.Represents.Ordered.{in_order}
use Rattle.heap_state.proofs.Represents.Owning.{Owns, owns, field_of, cell_shown}
use Rattle.heap_state.proofs.Represents.Emptying.{is_emptied}
use Rattle.heap_state.proofs.Represents.ShownPlaces.{record_shows}
use Rattle.heap_state.proofs.Records.KindsOfHeaders.{said_there}
use Rattle.heap_state.proofs.Records.Layouts.{value_within}

module _ (c : Configuration) (g : Ghost) (formed : IsFormed c.pages c.words) (inv : Invariant (era c) (memory c) (team c) g) (p : plain.Plain) (shown : Shown (era c) (memory c) (team c) g p) where
  abbrev E : Era
  E = era c

  abbrev m : Memory
  m = memory c

  -- ---- mutators

  below : (k : ℕ) (q : plain.Mutator) → slice_get p.mutators k ≡ Some q → k < c.mutators
  below k q e = let l = slice_get_within p.mutators k q e in omega (arith, l, shown.as_many)

  -- a register of a mutator without an end lands, and leads into the old space only while records are copied from it
  registers_land : (k : ℕ) (q : plain.Mutator) → slice_get p.mutators k ≡ Some q → q.end ≡ None → (j : ℕ) → j < 8
      → Lands g.size g.writer (((team c).worker k).registers j) × (m.traced ≡ E.epoch + 1 → ¬ (Leads E (((team c).worker k).registers j)))
  registers_land k q e n j l =
      let few = below k q e in
      let staffed = inv.staffed.few in
      let lt : k < (team c).count = omega (arith, few, staffed) in
      let known = inv.workers k lt in
      let posted : is_mutator ((team c).worker k).post ≡ true = inv.staffed.posts k lt ∙ lt-ltb k c.mutators few in
      let unended : ((team c).worker k).account.end ≡ None = (shown.accounts k q e).end ∙ n in
      let clean = known.registers posted unended in
      (clean.lands j l, λ t. clean.clean j l (λ late. absurd (let b = known.licensed.counted late in let z = (inv.tracing.quiet t).none in omega (arith, b, z))))

  -- ---- records

  records_show : (w : Walked) (kind : Kind) (len serial mutator : ℕ) → IsOwn (dump_of c) w kind len serial mutator
      → (w.size ≡ len + 1) × ((r : plain.Record) × (plain.record_of p.heap (record { mutator = mutator; serial = serial }) ≡ Some r) × Shows (denoted c) (table c).heap w.at kind w.size r)
  records_show w kind len serial mutator is =
      let o = owns c g formed inv w kind len serial mutator is in
      let s = shown.objects.shows w.at (omega (arith, o.known.sized)) o.known.written o.own in
      (sym o.long, (s.0, ap (plain.record_of p.heap) o.named ∙ s.1, shows o s.0 s.2))
    where
      shows : Owns c g formed inv w kind len serial mutator → (r : plain.Record) → Shows (value_of g.identity) m.heap w.at (g.kind w.at) (g.size w.at) r → Shows (denoted c) m.heap w.at kind w.size r
      shows o r shown =
          let s : Shows (value_of g.identity) m.heap w.at kind (g.size w.at) r = subst (λ k. Shows (value_of g.identity) m.heap w.at k (g.size w.at) r) (sym o.of_kind) shown in
          record {
            kind = s.kind;
            size = s.size ∙ o.known.sized.1;
            fields = λ x l f.
                let v = value_within r s x l in
                let q = field_of c g formed inv w kind len serial mutator (word_of_value kind x) o v.0 (omega (arith, v.1, o.known.sized)) f in
                denotes c g formed inv (m.heap (w.at + word_of_value kind x)) (field_lands c g formed inv w.at (word_of_value kind x) q o.known.inside).0 ∙ s.fields x l f;
            numbers = s.numbers;
            count = s.count;
          }

  -- what is known of a record is what its own header says
  has_own : (w : Walked) → IsInHeap (dump_of c) w → 0 < g.size w.at → g.writer w.at ≡ 0 → own_header (dump_of c) w.at ≡ header_of c g formed inv w.at → HasOwn (dump_of c) w
  has_own w here st written e = record {
    kind = g.kind w.at;
    len = g.size w.at - 1;
    serial = (g.identity w.at).serial;
    mutator = (g.identity w.at).mutator;
    own = record { walked = here; head = header_kind (g.kind w.at); header = e; said = sym (said_there g.size g.writer g.kind m.heap inv.raw_words inv.counts w.at st written) };
  }

  -- in the epoch's space each record has its own header, and a header that a worker should keep it keeps
  each_owns : (w : Walked) → IsInHeap (dump_of c) w → MustOwn (dump_of c) w → HasOwn (dump_of c) w
  each_owns w here (inl h) =
      let i = now_sound c g formed inv w h in
      let st : 0 < g.size w.at = omega (arith, i.sized) in
      let u = uncopied_here E m (team c) g inv (lay c g formed inv) w.at st i.inside.0 i.inside.1 in
      has_own w here st i.written (rw (inv.headed.own w.at st i.written u.0 u.1) refl)
  each_owns w here (inr busy) =
      let known = in_heap_sound c g formed inv w here in
      let st : 0 < g.size w.at = omega (arith, known.sized) in
      by_headers st known.written (headers c g formed inv w.at st known.written)
    where
      by_headers : 0 < g.size w.at → g.writer w.at ≡ 0 → Headers c g formed inv w.at → HasOwn (dump_of c) w
      by_headers st written (Own e h) = has_own w here st written e
      by_headers st written (Forwarded b e y n f) = absurd (subst IsBusy f busy)

  -- ---- where words lead

  leads : (w : ℕ) → Lands g.size g.writer w × (m.traced ≡ E.epoch + 1 → ¬ (Leads E w)) → LeadsToRecord (dump_of c) w
  leads w l a e = let r = reaches c g formed inv w a l.0 l.1 e in (g.size a, in_heap_complete c g formed inv a r.0 r.1 r.2)

  field_leads : (w : Walked) (kind : Kind) (len serial mutator i : ℕ) → IsOwn (dump_of c) w kind len serial mutator → IsFieldOf w kind i → LeadsToRecord (dump_of c) (m.heap (w.at + i))
  field_leads w kind len serial mutator i is f =
      let o = owns c g formed inv w kind len serial mutator is in
      leads (m.heap (w.at + i)) (field_lands c g formed inv w.at i (field_of c g formed inv w kind len serial mutator i o f.inside.0 f.inside.1 f.field) o.known.inside)

  -- ---- cells

  target_shows : (w : Walked) (r : plain.Record) (v : Value) → Names (dump_of c) p w Weak r → value_of_cell r ≡ Some v → (denoted c (m.heap (w.at + 1)) ≡ Some v) ⊎ IsEmptied (dump_of c) w v
  target_shows w r v names e =
      let o = owns c g formed inv w Weak names.len names.serial names.mutator names.own in
      let s = cell_shown c g formed inv w names.len names.serial names.mutator o in
      let of : plain.record_of p.heap (g.identity w.at) ≡ Some r = sym (ap (plain.record_of p.heap) o.named) ∙ names.names in
      ⊎_elim
      (λ d. inl (denotes c g formed inv (m.heap (w.at + 1)) (target_lands c g formed inv w.at s.cell o.known.inside).0 ∙ d))
      (λ y. inr (is_emptied c g formed inv w v o.known.sized.1 y))
      (shown.targets.shows w.at v s (rw of e))

  target_leads : (w : Walked) (len serial mutator : ℕ) → IsOwn (dump_of c) w Weak len serial mutator → LeadsToRecord (dump_of c) (m.heap (w.at + 1))
  target_leads w len serial mutator is =
      let o = owns c g formed inv w Weak len serial mutator is in
      leads (m.heap (w.at + 1)) (target_lands c g formed inv w.at (cell_shown c g formed inv w len serial mutator o).cell o.known.inside)

  -- ---- no two of one identity

  once : (w v : Walked) (kind other : Kind) (len longer serial mutator : ℕ) → IsOwn (dump_of c) w kind len serial mutator → IsOwn (dump_of c) v other longer serial mutator → w.at ≡ v.at
  once w v kind other len longer serial mutator a b =
      let x = owns c g formed inv w kind len serial mutator a in
      let y = owns c g formed inv v other longer serial mutator b in
      let same : g.identity w.at ≡ g.identity v.at = sym x.named ∙ y.named in
      ⊎_elim (λ e. e)
      (λ o. ⊎_elim
      (λ q. absurd (apart w.at v.at x.own (omega (arith, x.known.sized)) q y.known.written))
      (λ q. absurd (apart v.at w.at y.own (omega (arith, y.known.sized)) q x.known.written))
      o)
      (inv.once.once w.at v.at (omega (arith, x.known.sized)) (omega (arith, y.known.sized)) same)
    where
      apart : (f t : ℕ) → (g.copy f ≡ 0) ⊎ (0 < g.keeper f) → 0 < g.size f → g.copy f ≡ t + 1 → g.writer t ≡ 0 → ⊥
      apart f t own st q w = let r = inv.copied.target f t st q in omega (arith, own, q, r.7, w)

  -- ---- place by place

  register_shows : (k j : ℕ) → j < 8 → RegisterShows (dump_of c) p k j
  register_shows k j l = record {
    shows = λ q e n. denotes c g formed inv (((team c).worker k).registers j) (registers_land k q e n j l).0 ∙ (shown.registers k q e).registers_show n j l;
    leads = λ q e n. leads (((team c).worker k).registers j) (registers_land k q e n j l);
  }

  board_word_shows : (x : ℕ) → x < 16 → BoardWordShows (dump_of c) p x
  board_word_shows x l = record {
    shows = denotes c g formed inv (m.heap (E.board + x)) (board_lands c g formed inv x l).0 ∙ shown.board.board x l;
    leads = leads (m.heap (E.board + x)) (board_lands c g formed inv x l);
  }

  pub represents : Represents c p
  represents = record {
    accounts = shown.accounts;
    dump = record {
      as_many = (shown.as_many, shown.makers);
      eight = λ k q e. (shown.registers k q e).eight;
      sixteen = shown.board.sixteen;
      ordered = in_order c g formed inv;
      registers = register_shows;
      board = board_word_shows;
      readable = now_read c g formed inv;
      old_readable = old_readable c g formed inv;
      records = λ w h. record_shows (dump_of c) p w (λ kind len serial mutator is. let s = records_show w kind len serial mutator is in (omega (arith, s.0), s.1)) (each_owns w h) (field_leads w)
          (λ v kind other len longer serial mutator a b. let e = once w v kind other len longer serial mutator a b in omega arith)
          (target_shows w) (target_leads w);
    };
  }
