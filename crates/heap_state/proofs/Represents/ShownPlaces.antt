-- What a record shows word by word is what it shows as a whole.
use Rattle.std.proofs.Common.{◌≡◌, ℕ, ◌+◌, ◌<◌, ◌≤◌, Some, refl, sym, ap, ◌∙◌, subst, arith, ⊎_elim, ◌⊎◌}
use Rattle.std.specs.Prelude.{slice_get}
use Rattle.std.proofs.lemmas.Bool.{cases_lt}
use Rattle.plain_state.specs.declared.kind.Kind.{Kind}
use Rattle.plain_state.specs.declared.kind.Kind.TheVariants.{Fields, Raw, Mixed, Weak}
use Rattle.plain_state.specs.Cells.{value_of_cell}
use Rattle.plain_state.specs.declared.value.Value.{Value}
use Rattle.plain_state.specs.declared.value.Value.TheVariants.{Number}
use Rattle.plain_state.specs.Layout.{is_field, is_raw, size_of, values_at, word_of_value}
use Rattle.plain_state.specs.State as plain
use Rattle.heap_state.specs.Invariant.Ghost.{header_kind}
use Rattle.heap_state.specs.Meaning.Dump.{Dump}
use Rattle.heap_state.specs.Meaning.Represents.{HasOwn, IsEmptied, IsFieldOf, IsOwn, LeadsToRecord, MustOwn, Names, RecordShows, denoted_in_dump}
use Rattle.heap_state.specs.Meaning.Values.{CountShows, Shows}
use Rattle.heap_state.specs.Memory.Walk.{Walked}
use Rattle.heap_state.proofs.Puts.{some_same}
use Rattle.heap_state.proofs.Records.Layouts.{values_behind_header}

-- kinds with the same header are the same where no count stands
same_kind : (k l : Kind) → header_kind k ≡ header_kind l → values_at k < 2 → k ≡ l
same_kind Fields Fields e f = refl
same_kind Raw Raw e f = refl
same_kind Weak Weak e f = refl
same_kind (Mixed n) l e f = absurd (omega arith)
same_kind _ _ e f = cc

-- where no count stands none is asked for
no_count : (k : Kind) (heap : ℕ → ℕ) (a : ℕ) → values_at k < 2 → CountShows k heap a
no_count (Mixed n) heap a f = absurd (omega arith)
no_count _ heap a f = tt

module _ (d : Dump) (p : plain.Plain) (w : Walked) where
  abbrev heap : ℕ → ℕ
  heap = d.table.heap

  -- the record of an identity, as it shows as a whole
  abbrev pub ShowsWhole : (kind : Kind) (serial mutator : ℕ) → Type 0
  ShowsWhole kind serial mutator = (r : plain.Record) × (plain.record_of p.heap (record { mutator = mutator; serial = serial }) ≡ Some r) × Shows (denoted_in_dump d) heap w.at kind w.size r

  -- the target of a cell denotes the plain one, or the cell was emptied
  abbrev pub ShowsTarget : Type 0
  ShowsTarget = (r : plain.Record) (v : Value) → Names d p w Weak r → value_of_cell r ≡ Some v → (denoted_in_dump d (heap (w.at + 1)) ≡ Some v) ⊎ IsEmptied d w v

  -- it leads to a record if it is a pointer
  abbrev pub TargetLeads : Type 0
  TargetLeads = (len serial mutator : ℕ) → IsOwn d w Weak len serial mutator → LeadsToRecord d (heap (w.at + 1))

  -- ---- from the words to the whole

  pub whole_record : RecordShows d p w → (kind : Kind) (len serial mutator : ℕ) → IsOwn d w kind len serial mutator → (w.size ≡ len + 1) × ShowsWhole kind serial mutator
  whole_record shown kind len serial mutator own = let s = shown.head.shows kind len serial mutator own in
      (omega (arith, s.0), (s.1.0, s.1.1, whole s.1.0 (record { len = len; serial = serial; mutator = mutator; own = own; names = s.1.1 }) s.1.2 s.1.3))
    where
      -- the kind, with its count
      counted : (r : plain.Record) → Names d p w kind r → header_kind r.kind ≡ header_kind kind → size_of r ≡ w.size → (r.kind ≡ kind) × CountShows kind heap w.at
      counted r names same size = ⊎_elim
          (λ (l : 1 < w.size). (shown.words 1 (omega arith) l).count kind r names refl)
          (λ (l : w.size ≤ 1). let few : values_at r.kind < 2 = omega (arith, size, l) in let k = same_kind r.kind kind same few in (k, no_count kind heap w.at (let e = ap values_at k in omega (arith, e, few))))
          (cases_lt 1 w.size)

      whole : (r : plain.Record) → Names d p w kind r → header_kind r.kind ≡ header_kind kind → size_of r ≡ w.size → Shows (denoted_in_dump d) heap w.at kind w.size r
      whole r names same size =
          let c = counted r names same size in
          let at = ap values_at c.0 in
          let first = values_behind_header kind in
          record {
            kind = c.0;
            size = size;
            fields = λ x l f. (shown.words (word_of_value kind x) (omega (arith, first)) (omega (arith, size, at, l))).field kind r x names refl l f;
            numbers = λ x l f. (shown.words (word_of_value kind x) (omega (arith, first)) (omega (arith, size, at, l))).number kind r x names refl l f;
            count = c.1;
          }

  -- ---- from the whole to the words

  module _ (shows : (kind : Kind) (len serial mutator : ℕ) → IsOwn d w kind len serial mutator → (w.size ≡ len + 1) × ShowsWhole kind serial mutator) where
    -- what is shown of the plain record that is named
    shows_named : (kind : Kind) (r : plain.Record) → Names d p w kind r → Shows (denoted_in_dump d) heap w.at kind w.size r
    shows_named kind r names =
        let s = (shows kind names.len names.serial names.mutator names.own).1 in
        subst (λ (q : plain.Record). Shows (denoted_in_dump d) heap w.at kind w.size q) (some_same (sym s.1 ∙ names.names)) s.2

    pub record_shows : (MustOwn d w → HasOwn d w)
        → ((kind : Kind) (len serial mutator i : ℕ) → IsOwn d w kind len serial mutator → IsFieldOf w kind i → LeadsToRecord d (heap (w.at + i)))
        → ((v : Walked) (kind other : Kind) (len longer serial mutator : ℕ) → IsOwn d w kind len serial mutator → IsOwn d v other longer serial mutator → w.at ≤ v.at)
        → ShowsTarget → TargetLeads → RecordShows d p w
    record_shows owns leads once target target_leads = record {
      head = record {
        owns = owns;
        shows = λ kind len serial mutator own. let s = shows kind len serial mutator own in (omega (arith, s.0), (s.1.0, s.1.1, ap header_kind s.1.2.kind, s.1.2.size));
        once = once;
      };
      words = λ i f l. record {
        count = λ kind r names e. let s = shows_named kind r names in (s.kind, s.count);
        field = λ kind r x names e within field.
            subst (λ (j : ℕ). denoted_in_dump d (heap (w.at + j)) ≡ slice_get r.values x) (sym e) ((shows_named kind r names).fields x within (ap (is_field kind) (sym e) ∙ field));
        number = λ kind r x names e within number.
            subst (λ (j : ℕ). Some (Number (heap (w.at + j))) ≡ slice_get r.values x) (sym e) ((shows_named kind r names).numbers x within (ap (is_raw kind) (sym e) ∙ number));
        leads = λ kind len serial mutator own f. leads kind len serial mutator i own f;
        target = λ kind r v names cell e.
            subst (λ (j : ℕ). (denoted_in_dump d (heap (w.at + j)) ≡ Some v) ⊎ IsEmptied d w v) (sym cell.1) (target r v (rw cell.0 at names) e);
        target_leads = λ kind len serial mutator own cell. subst (λ (j : ℕ). LeadsToRecord d (heap (w.at + j))) (sym cell.1) (target_leads len serial mutator (rw cell.0 at own));
      };
    }
