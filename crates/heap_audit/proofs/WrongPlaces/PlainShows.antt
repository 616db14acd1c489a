-- A register and a word of the board, by what the code asks of the plain machine.
use Rattle.std.proofs.Common.{◌≡◌, ℕ, zero, suc, ◌+◌, ◌<◌, Bool, true, false, List, [], ◌∷◌, Option, Some, None, get_or, length, refl, sym, ap, ◌∙◌, arith}
use Rattle.std.specs.Prelude.{◌↔◌, option_map, slice_get}
use Rattle.std.specs.Option.{is_some}
use Rattle.plain_state.specs.State as plain
use Rattle.plain_state.specs.declared.end.End.{End}
use Rattle.plain_state.specs.declared.value.Value.{Value}
use Rattle.heap_state.specs.Meaning.Dump.{Dump}
use Rattle.heap_state.specs.Meaning.Represents.{BoardWordShows, LeadsToRecord, RegisterShows, denoted_in_dump}
use Rattle.heap_state.specs.Memory.Era.{era_of}
use Rattle.heap_state.proofs.Puts.{some_same}

-- a value that is there
pub value_there : (values : List Value) (x : ℕ) (z : Value) → x < length values → slice_get values x ≡ Some (get_or values x z)
value_there [] x z l = absurd (omega arith)
value_there (v ∷ values) zero z l = refl
value_there (v ∷ values) (suc x) z l = value_there values x z (omega arith)

-- the mutator whose end is asked for
pub mutator_there : (o : Option plain.Mutator) (e : Option End) → option_map (λ (k : plain.Mutator). k.end) o ≡ Some e → (q : plain.Mutator) × (o ≡ Some q) × (q.end ≡ e)
mutator_there None e is = absurd (cc)
mutator_there (Some q) e is = (q, refl, some_same is)

-- and its registers
pub registers_there : (o : Option plain.Mutator) (q : plain.Mutator) (rs : List Value) → o ≡ Some q → option_map (λ (k : plain.Mutator). k.registers) o ≡ Some rs → q.registers ≡ rs
registers_there o q rs is e = some_same (sym (ap (option_map (λ (k : plain.Mutator). k.registers)) is) ∙ e)

module _ (d : Dump) (p : plain.Plain) (m : ℕ) where
  -- of a mutator with an end nothing is asked
  pub ended_shows : (q : plain.Mutator) (end : End) → slice_get p.mutators m ≡ Some q → q.end ≡ Some end → (j : ℕ) → RegisterShows d p m j
  ended_shows q end is ended j = record { shows = λ k there going. absurd (apart k there going); leads = λ k there going. absurd (apart k there going) }
    where
      apart : (k : plain.Mutator) → slice_get p.mutators m ≡ Some k → k.end ≡ None → ⊥
      apart k there going =
          let same : q ≡ k = some_same (sym is ∙ there) in
          let e : Some end ≡ None = sym ended ∙ (ap (λ (z : plain.Mutator). z.end) same ∙ going) in
          cc

  module _ (q : plain.Mutator) (is : slice_get p.mutators m ≡ Some q) (going : q.end ≡ None) (j : ℕ) (v : Value) (value : slice_get q.registers j ≡ Some v) where
    pub register_shows : (denoted_in_dump d (d.registers m j) ≡ Some v) × LeadsToRecord d (d.registers m j) → RegisterShows d p m j
    register_shows s = record {
      shows = λ k there still. s.0 ∙ (sym value ∙ ap (λ (z : plain.Mutator). slice_get z.registers j) (some_same (sym is ∙ there)));
      leads = λ k there still. s.1;
    }

    pub register_is : RegisterShows d p m j → (denoted_in_dump d (d.registers m j) ≡ Some v) × LeadsToRecord d (d.registers m j)
    register_is r = (r.shows q is going ∙ value, r.leads q is going)

module _ (d : Dump) (p : plain.Plain) (x : ℕ) (v : Value) (value : slice_get p.heap.board x ≡ Some v) where
  abbrev word : ℕ
  word = d.table.heap ((era_of d.table).board + x)

  pub board_shows : (denoted_in_dump d word ≡ Some v) × LeadsToRecord d word → BoardWordShows d p x
  board_shows s = record { shows = s.0 ∙ sym value; leads = s.1 }

  pub board_is : BoardWordShows d p x → (denoted_in_dump d word ≡ Some v) × LeadsToRecord d word
  board_is b = (b.shows ∙ value, b.leads)

-- ---- what is found in a word

-- the word denotes this value, and leads to a record if it is a pointer
abbrev pub Shown : Dump → ℕ → Value → Type 0
Shown d word v = (denoted_in_dump d word ≡ Some v) × LeadsToRecord d word

-- a test of this that fails
pub not_shown : (d : Dump) (word : ℕ) (v : Value) (test : Bool) → ((test ≡ true) ↔ Shown d word v) → test ≡ false → Shown d word v → ⊥
not_shown d word v test says fails shown = let z : true ≡ false = sym (says.1 shown) ∙ fails in cc

-- an end that is there, and one that isn't
end_there : (o : Option End) → is_some o ≡ true → (e : End) × (o ≡ Some e)
end_there None is = absurd (cc)
end_there (Some e) is = (e, refl)

end_not_there : (o : Option End) → is_some o ≡ false → o ≡ None
end_not_there None is = refl
end_not_there (Some e) is = absurd (cc)

-- a mutator by its end and its registers, as they are asked for
module _ (d : Dump) (p : plain.Plain) (m : ℕ) (end : Option End) (asked : option_map (λ (k : plain.Mutator). k.end) (slice_get p.mutators m) ≡ Some end) where
  one_there : (q : plain.Mutator) × (slice_get p.mutators m ≡ Some q) × (q.end ≡ end)
  one_there = mutator_there (slice_get p.mutators m) end asked

  pub all_ended : is_some end ≡ true → (j : ℕ) → RegisterShows d p m j
  all_ended is j = let e = end_there end is in ended_shows d p m one_there.0 e.0 one_there.1 (one_there.2 ∙ e.1) j

  module _ (none : is_some end ≡ false) (values : List Value) (have : option_map (λ (k : plain.Mutator). k.registers) (slice_get p.mutators m) ≡ Some values) where
    same_registers : one_there.0.registers ≡ values
    same_registers = registers_there (slice_get p.mutators m) one_there.0 values one_there.1 have

    pub as_many : ((k : ℕ) (q : plain.Mutator) → slice_get p.mutators k ≡ Some q → length q.registers ≡ 8) → length values ≡ 8
    as_many eight = sym (ap length same_registers) ∙ eight m one_there.0 one_there.1

    module _ (j : ℕ) (z : Value) (within : j < length values) where
      value_is : slice_get one_there.0.registers j ≡ Some (get_or values j z)
      value_is = ap (λ (vs : List Value). slice_get vs j) same_registers ∙ value_there values j z within

      pub found_shows : Shown d (d.registers m j) (get_or values j z) → RegisterShows d p m j
      found_shows = register_shows d p m one_there.0 one_there.1 (one_there.2 ∙ end_not_there end none) j (get_or values j z) value_is

      pub shows_found : RegisterShows d p m j → Shown d (d.registers m j) (get_or values j z)
      shows_found = register_is d p m one_there.0 one_there.1 (one_there.2 ∙ end_not_there end none) j (get_or values j z) value_is
