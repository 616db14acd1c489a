-- The seats of a new heap behind handles, from the last one on; handles that are made null again; and when a heap is opened.
use Rattle.std.proofs.Common.{◌≡◌, ℕ, suc, ◌+◌, ◌≤◌, ◌&&◌, true, false, Bool, not, List, [], ◌∷◌, ◌++◌, Option, Some, None, length, map, is_none, arith, refl, sym, ap, ◌∙◌, subst}
use Rattle.std.proofs.lemmas.Bool.{le-leb}
use Rattle.std.proofs.lemmas.List.{length-map, map_push}
use Rattle.space_map.specs.declared.spaces.TheConstants.{MOST_MUTATORS, MOST_SCANNERS}
use Rattle.space_map.specs.Table.{whole_length}
use Rattle.gc_worker.specs.declared.config.Config.{Config}
use Rattle.gc_worker.specs.Config.{has_sizes, layout_by}
use Rattle.ael_threads.specs.declared.shared.Shared.{Shared}
use Rattle.ael_threads.specs.Opened.{new_scanner, plan_without_printing}
use Rattle.ael_threads.specs.Readers.{SeatedScanner}
use Rattle.ael_threads.specs.Seats.{Seated, new_seated}
use Rattle.ael_c.specs.declared.answer.Answer.{Answer}
use Rattle.ael_c.specs.declared.answer.Answer.TheVariants as answers
use Rattle.ael_c.specs.declared.handle.Handle.{Handle}
use Rattle.ael_c.specs.declared.seat.Seat.{Seat}
use Rattle.ael_c.specs.declared.seat.Seat.TheVariants.{Mutator, Scanner}
use Rattle.ael_c.specs.Handles.{DealsBy, Handles, Opens, OpensBy, OpensIf, are_counts, are_null, behind, config_of, first_mutators, first_scanners, mutator_seats, scanner_seats}

-- ---- null handles

-- the first is null, and so are the others
pub null_first : (x : Option Seat) (xs : List (Option Seat)) → are_null (x ∷ xs) ≡ true → (x ≡ None) × (are_null xs ≡ true)
null_first None xs null = (refl, null)
null_first (Some seat) xs null = absurd (cc)

-- the last is null, and so are those before it
pub null_last : (rest : List Handle) (last : Handle) → are_null (behind (rest ++ last ∷ [])) ≡ true → (are_null (behind rest) ≡ true) × (last.value ≡ None)
null_last [] last null = (refl, (null_first last.value [] null).0)
null_last (x ∷ rest) last null =
    let first = null_first x.value (behind (rest ++ last ∷ [])) null in
    let others = null_last rest last first.1 in
    ((λ i. is_none (first.0 i) && others.0 i), others.1)

-- as many null handles are the same
pub nulls_same : (xs ys : List (Option Seat)) → are_null xs ≡ true → are_null ys ≡ true → length ys ≡ length xs → ys ≡ xs
nulls_same [] [] null none count = refl
nulls_same [] (y ∷ ys) null none count = absurd (omega (arith, count))
nulls_same (x ∷ xs) [] null none count = absurd (omega (arith, count))
nulls_same (x ∷ xs) (y ∷ ys) null none count =
    let first = null_first x xs null in
    let also = null_first y ys none in
    (λ i. (also.0 ∙ sym first.0) i ∷ nulls_same xs ys first.1 also.1 (omega (arith, count)) i)

-- handles that are made null again
pub cleared : (old new : List Handle) → are_null (behind old) ≡ true → are_null (behind new) ≡ true → length new ≡ length old → behind new ≡ behind old
cleared old new null none count =
    nulls_same (behind old) (behind new) null none (length-map new (λ (h : Handle). h.value) ∙ count ∙ sym (length-map old (λ (h : Handle). h.value)))

-- ---- seats

-- what a handle leads to once it was dealt what was taken
abbrev pub mutator_seat : Option Seated → Option Seat
mutator_seat None = None
mutator_seat (Some m) = Some (Mutator m)

abbrev pub scanner_seat : Option SeatedScanner → Option Seat
scanner_seat None = None
scanner_seat (Some s) = Some (Scanner s)

module _ (heap : Shared) (n : ℕ) where
  abbrev pub last_mutator : Seated
  last_mutator = new_seated heap.table.shared.table_id heap.table.shared.key (0 + n)

  abbrev pub last_scanner : SeatedScanner
  last_scanner = new_scanner heap.table.shared.table_id heap.table.shared.key (heap.table.shared.key.mutators + n)

  mutators_more : mutator_seats (first_mutators heap (n + 1)) ≡ mutator_seats (first_mutators heap n) ++ Some (Mutator last_mutator) ∷ []
  mutators_more =
      let one : n + 1 ≡ suc n = omega arith in
      ap (λ (k : ℕ). mutator_seats (first_mutators heap k)) one ∙ map_push (λ (m : Seated). Some (Mutator m)) (first_mutators heap n) last_mutator

  scanners_more : scanner_seats (first_scanners heap (n + 1)) ≡ scanner_seats (first_scanners heap n) ++ Some (Scanner last_scanner) ∷ []
  scanners_more =
      let one : n + 1 ≡ suc n = omega arith in
      ap (λ (k : ℕ). scanner_seats (first_scanners heap k)) one ∙ map_push (λ (s : SeatedScanner). Some (Scanner s)) (first_scanners heap n) last_scanner

  pub mutators_dealt : (rest : List Handle) (last : Handle) → behind rest ≡ mutator_seats (first_mutators heap n) → last.value ≡ Some (Mutator last_mutator)
      → behind (rest ++ last ∷ []) ≡ mutator_seats (first_mutators heap (n + 1))
  mutators_dealt rest last before is = map_push (λ (h : Handle). h.value) rest last ∙ (λ i. before i ++ is i ∷ []) ∙ sym mutators_more

  pub scanners_dealt : (rest : List Handle) (last : Handle) → behind rest ≡ scanner_seats (first_scanners heap n) → last.value ≡ Some (Scanner last_scanner)
      → behind (rest ++ last ∷ []) ≡ scanner_seats (first_scanners heap (n + 1))
  scanners_dealt rest last before is = map_push (λ (h : Handle). h.value) rest last ∙ (λ i. before i ++ is i ∷ []) ∙ sym scanners_more

-- ---- a heap that is opened

-- sizes that aren't refused
pub sizes_hold : (b : Bool) → (not b ≡ true → ⊥) → b ≡ true
sizes_hold true never = refl
sizes_hold false never = absurd (never refl)

-- numbers of seats that a heap may have
pub counts_hold : (mutators scanners : ℕ) → 1 ≤ mutators → mutators ≤ MOST_MUTATORS → scanners ≤ MOST_SCANNERS → are_counts mutators scanners ≡ true
counts_hold mutators scanners some few little =
    rw (le-leb 1 mutators some, le-leb mutators MOST_MUTATORS few, le-leb scanners MOST_SCANNERS little) refl

opens_by : (answer : Answer) (config : Config) (before after : Handles) (heap : Shared) → heap.table.shared.key ≡ plan_without_printing (length before.mutators) config
    → heap.table.shared.table_id.words ≡ whole_length (layout_by config) → DealsBy answer heap before after → OpensBy answer config before after
opens_by answers.Done config before after heap plan words dealt = record { heap = heap; plan = plan; words = words; dealt = dealt }
opens_by answers.NoMemory config before after heap plan words same = same
opens_by _ config before after heap plan words never = absurd never

-- for none of the reasons for which it is refused
pub opened : (pages limit : ℕ) (answer : Answer) (before after : Handles) (heap : Shared) → are_counts (length before.mutators) (length before.scanners) ≡ true
    → are_null before.mutators ≡ true → are_null before.scanners ≡ true → has_sizes (config_of pages limit (length before.scanners)) ≡ true
    → heap.table.shared.key ≡ plan_without_printing (length before.mutators) (config_of pages limit (length before.scanners))
    → heap.table.shared.table_id.words ≡ whole_length (layout_by (config_of pages limit (length before.scanners))) → DealsBy answer heap before after → Opens pages limit before answer after
opened pages limit answer before after heap counts null also sizes plan words deals =
    let config = config_of pages limit (length before.scanners) in
    let all : (are_null before.mutators && are_null before.scanners) ≡ true = (λ i. null i && also i) in
    let by : OpensBy answer config before after = opens_by answer config before after heap plan words deals in
    subst (λ (c : Bool). OpensIf c (are_null before.mutators && are_null before.scanners) (has_sizes config) config before answer after) (sym counts)
    (subst (λ (n : Bool). OpensIf true n (has_sizes config) config before answer after) (sym all)
    (subst (λ (s : Bool). OpensIf true true s config before answer after) (sym sizes) by))
