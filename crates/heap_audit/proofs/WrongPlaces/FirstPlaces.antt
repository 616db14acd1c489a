-- The first place at which a dump doesn't show what it should, by what was looked at before.
use Rattle.std.proofs.Common.{◌≡◌, ℕ, ◌+◌, ◌*◌, ◌<◌, Option, Some, None, refl, ap, arith, List}
use Rattle.std.specs.Prelude.{option_map, ◌↔◌}
use Rattle.std.specs.List.{Contains}
use Rattle.plain_state.specs.State as plain
use Rattle.heap_state.specs.Meaning.Dump.{Dump}
use Rattle.heap_state.specs.Meaning.Represents.{BoardWordShows, IsInHeap, IsInOrder, IsWalkedSpace}
use Rattle.heap_state.specs.Memory.Walk.{Walked}
use Rattle.heap_audit.specs.Breaks.{BreaksAt}
use Rattle.heap_audit.specs.Firsts.{TellsFirst}
use Rattle.heap_audit.specs.Places.{AllSeen, IsFirstUnseen, IsPlace, SeenAt, SpaceArea, SpaceSize, TellsFirstWrongSpace, WordSeen, places_before}
use Rattle.heap_audit.specs.Records.{WordOfRecordShows}
use Rattle.heap_audit.specs.Showing.{TellsFirstRegister}
use Rattle.heap_audit.specs.declared.places.place.Place.{Place}
use Rattle.heap_audit.specs.declared.places.place.Place.TheVariants.{Size, Area, Register, Board, Word}
use Rattle.heap_audit.proofs.WalkedSpaces.Leasts.{first_same}

-- ---- spaces

module _ (d : Dump) (p : plain.Plain) where
  -- ---- the place of a space

  ordered_size : (space : ℕ) → (IsWalkedSpace d.table space → IsInOrder d.table space) → SpaceSize d space
  ordered_size space ordered = λ walked. (ordered walked).size

  ordered_area : (space : ℕ) → (IsWalkedSpace d.table space → IsInOrder d.table space) → SpaceArea d space
  ordered_area space ordered = λ walked. (ordered walked).area

  -- ---- behind the spaces

  module _ (ordered : TellsFirstWrongSpace d None) where
    module _ (registers : TellsFirstRegister d p None) where
      pub board_unseen : (x : ℕ) → x < 16 → TellsFirst (λ y. y < 16 → BoardWordShows d p y) (Some x) → IsFirstUnseen d p (Board x)
      board_unseen x few tells = record { is_place = few; before = before; unseen = λ shows. tells.0 (λ l. shows) }
        where
          before : (other : Place) → IsPlace d other → places_before d other < 4 + 8 * d.mutators + x → SeenAt d p other
          before (Size t) is l = ordered_size t (ordered t)
          before (Area t) is l = ordered_area t (ordered t)
          before (Register k i) is l = registers k i is.0 is.1
          before (Board y) is l = tells.1 y (omega arith) is
          before (Word a) is l = absurd (omega arith)

      module _ (board : TellsFirst (λ y. y < 16 → BoardWordShows d p y) None) where
        seen_before : (other : Place) → IsPlace d other → ((a : ℕ) → other ≡ Word a → WordSeen d p a) → SeenAt d p other
        seen_before (Size t) is words = ordered_size t (ordered t)
        seen_before (Area t) is words = ordered_area t (ordered t)
        seen_before (Register k i) is words = registers k i is.0 is.1
        seen_before (Board y) is words = board y is
        seen_before (Word a) is words = words a refl

        pub word_unseen : (a : ℕ) → TellsFirst (WordSeen d p) (Some a) → IsFirstUnseen d p (Word a)
        word_unseen a tells = record { is_place = tt; before = λ other is l. seen_before other is (λ b e. tells.1 b (word_before other b e l)); unseen = tells.0 }
          where
            word_before : (other : Place) (b : ℕ) → other ≡ Word b → places_before d other < 4 + 8 * d.mutators + 16 + a → b < a
            word_before other b e l = let q = ap (places_before d) e in omega arith

        pub all_places : TellsFirst (WordSeen d p) None → AllSeen d p
        all_places tells place is = seen_before place is (λ a e. tells a)

-- ---- the words of the heap

-- what was found of a record, by address
pub shift_first : (S : ℕ → Type 0) (at : ℕ) (o : Option ℕ) → TellsFirst S o → TellsFirst (λ a. (i : ℕ) → at + i ≡ a → S i) (option_map (λ i. at + i) o)
shift_first S at None tells = λ a i e. tells i
shift_first S at (Some b) tells = (λ all. tells.0 (all b refl), λ a l i e. tells.1 i (omega arith))

module _ (d : Dump) (p : plain.Plain) (ws : List Walked) (found : (w : Walked) → Contains ws w ↔ IsInHeap d w) where
  -- no walk breaks there, and each record that was found shows what it should by the word, if it has it
  abbrev pub FoundSeen : ℕ → Type 0
  FoundSeen a = (BreaksAt d a → ⊥) × ((w : Walked) → Contains ws w → (i : ℕ) → w.at + i ≡ a → WordOfRecordShows d p w i)

  to_seen : (a : ℕ) → FoundSeen a → WordSeen d p a
  to_seen a s = record {
    unbroken = s.0;
    head = λ w there at. (s.1 w ((found w).1 there) 0 (omega (arith, at))).head refl;
    word = λ w i there first last at. (s.1 w ((found w).1 there) i at).word first last;
  }

  from_seen : (a : ℕ) → WordSeen d p a → FoundSeen a
  from_seen a s = (s.unbroken, λ w has i at. record { head = λ e. s.head w ((found w).0 has) (omega (arith, at, e)); word = λ first last. s.word w i ((found w).0 has) first last at })

  pub found_first : (o : Option ℕ) → TellsFirst FoundSeen o → TellsFirst (WordSeen d p) o
  found_first o first = first_same FoundSeen (WordSeen d p) o to_seen from_seen first
