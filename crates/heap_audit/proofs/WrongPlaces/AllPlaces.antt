-- At each place is what should be exactly where the dump represents the plain state.
use Rattle.std.proofs.Common.{◌≡◌, ℕ, ◌+◌, ◌-◌, ◌<◌, ◌≤◌, ◌↔◌, Bool, false, Option, Some, None, refl, sym, ◌∙◌, arith, ⊎_elim, inl, inr}
use Rattle.std.specs.Prelude.{slice_get}
use Rattle.std.proofs.lemmas.Bool.{cases_lt}
use Rattle.std.proofs.lemmas.Option.{slice_get_within}
use Rattle.plain_state.specs.State as plain
use Rattle.heap_state.specs.Kept.{reserved_in}
use Rattle.heap_state.specs.Meaning.Dump.{Dump}
use Rattle.heap_state.specs.Meaning.Represents.{DumpRepresents, IsCopying, IsWalkedSpace, RegisterShows}
use Rattle.heap_state.specs.Memory.Era.{era_of, memory_of}
use Rattle.heap_state.specs.Memory.Walk.{IsOldReadable, IsWalkable, ReadsSpace, is_closed_before, is_protected}
use Rattle.heap_audit.specs.Breaks.{BreaksAt, BreaksSpace}
use Rattle.heap_audit.specs.Places.{AllSeen, HasForm}
use Rattle.heap_audit.specs.declared.places.place.Place.TheVariants.{Size, Area, Register, Board, Word}
use Rattle.heap_audit.proofs.WalkedSpaces.Breaks.{read_unbroken, unbroken_reads}

-- ---- walks that break nowhere

none_told : (o : Option ℕ) → ((a : ℕ) → o ≡ Some a → ⊥) → o ≡ None
none_told None none = refl
none_told (Some a) none = absurd (none a refl)

module _ (passes : ℕ → Bool) (reserved heap : ℕ → ℕ) (start front low end : ℕ) where
  pub space_reads : ((a : ℕ) → ¬ (BreaksSpace passes reserved heap start front low end a)) → ReadsSpace passes reserved heap start front low end
  space_reads none = (
    unbroken_reads (λ p. false) reserved heap front (front - start) start (none_told _ (λ a e. none a (inl e))),
    unbroken_reads passes (λ x. 0) heap end (end - low) low (none_told _ (λ a e. none a (inr e))),
  )

  pub space_unbroken : ReadsSpace passes reserved heap start front low end → (a : ℕ) → ¬ (BreaksSpace passes reserved heap start front low end a)
  space_unbroken reads a (inl e) = let none = read_unbroken (λ p. false) reserved heap front (front - start) start reads.0 in let z : None ≡ Some a = sym none ∙ e in cc
  space_unbroken reads a (inr e) = let none = read_unbroken passes (λ x. 0) heap end (end - low) low reads.1 in let z : None ≡ Some a = sym none ∙ e in cc

module _ (d : Dump) (p : plain.Plain) where
  one_of_two : (space : ℕ) → IsWalkedSpace d.table space → space < 2
  one_of_two space (inl e) = omega arith
  one_of_two space (inr e) = let s = e.1 in omega arith

  -- ---- from the places to the whole

  module _ (form : HasForm d p) (seen : AllSeen d p) where
    registers : (m j : ℕ) → j < 8 → RegisterShows d p m j
    registers m j few = ⊎_elim
        (λ (there : m < d.mutators). seen (Register m j) (there, few))
        (λ (behind : d.mutators ≤ m). record {
          shows = λ q is going. absurd (absent q is behind);
          leads = λ q is going. absurd (absent q is behind);
        })
        (cases_lt m d.mutators)
      where
        absent : (q : plain.Mutator) → slice_get p.mutators m ≡ Some q → d.mutators ≤ m → ⊥
        absent q is behind = let within = slice_get_within p.mutators m q is in omega (arith, within, form.as_many)

    readable : IsWalkable d.table d.kept
    readable = space_reads (λ x. is_protected d.table.gate.epoch (d.table.page x)) (reserved_in d.kept) d.table.heap (era_of d.table).start (memory_of d.table).front
        (memory_of d.table).low ((era_of d.table).start + (era_of d.table).span) (λ a b. (seen (Word a) tt).unbroken (inl b))

    old_readable : IsCopying d.table → IsOldReadable d.table d.kept
    old_readable copying = space_reads (λ x. is_closed_before d.table.gate.epoch (d.table.page x)) (reserved_in d.kept) d.table.heap (era_of d.table).old_start
        (memory_of d.table).old_front (memory_of d.table).old_low ((era_of d.table).old_start + (era_of d.table).old_span)
        (λ a b. (seen (Word a) tt).unbroken (inr (copying, b)))

    pub represents : DumpRepresents d p
    represents = record {
      as_many = form.as_many;
      eight = form.eight;
      sixteen = form.sixteen;
      ordered = λ space walked. record { size = seen (Size space) (one_of_two space walked) walked; area = seen (Area space) (one_of_two space walked) walked };
      registers = registers;
      board = λ x few. seen (Board x) few;
      readable = readable;
      old_readable = old_readable;
      records = λ w there. record {
        head = (seen (Word w.at) tt).head w there refl;
        words = λ i first last. (seen (Word (w.at + i)) tt).word w i there first last refl;
      };
    }

  -- ---- from the whole to the places

  module _ (r : DumpRepresents d p) where
    unbroken : (a : ℕ) → ¬ (BreaksAt d a)
    unbroken a (inl now) = space_unbroken (λ x. is_protected d.table.gate.epoch (d.table.page x)) (reserved_in d.kept) d.table.heap (era_of d.table).start
        (memory_of d.table).front (memory_of d.table).low ((era_of d.table).start + (era_of d.table).span) r.readable a now
    unbroken a (inr old) = space_unbroken (λ x. is_closed_before d.table.gate.epoch (d.table.page x)) (reserved_in d.kept) d.table.heap (era_of d.table).old_start
        (memory_of d.table).old_front (memory_of d.table).old_low ((era_of d.table).old_start + (era_of d.table).old_span) (r.old_readable old.0) a old.1

    pub all_seen : AllSeen d p
    all_seen (Size space) is = λ walked. (r.ordered space walked).size
    all_seen (Area space) is = λ walked. (r.ordered space walked).area
    all_seen (Register m j) is = r.registers m j is.1
    all_seen (Board x) is = r.board x is
    all_seen (Word a) is = record {
      unbroken = unbroken a;
      head = λ w there at. (r.records w there).head;
      word = λ w i there first last at. (r.records w there).words i first last;
    }

pub places_show_all : (d : Dump) (p : plain.Plain) → HasForm d p → AllSeen d p ↔ DumpRepresents d p
places_show_all d p form = (λ seen. represents d p form seen, λ r. all_seen d p r)
