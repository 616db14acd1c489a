-- What the definitions say of the worked configuration.
use Rattle.std.proofs.Common.{◌≡◌, ℕ, List, [], ◌∷◌, Some, None, zero, suc, refl, sym, ap, ◌∙◌, arith, ◌⊎◌, inl, inr, ◌≢◌, ⊎_elim, ◌+◌, ◌<◌, ◌≤◌}
use Rattle.std.specs.Prelude.{slice_get}
use Rattle.std.specs.List.{Contains}
use Rattle.heap_words.specs.Decoded.{decode}
use Rattle.heap_words.specs.Word.{header_word, pointer_word, forward_word, busy_word, number_word, tag_of}
use Rattle.plain_state.specs.declared.value.Identity.{Identity}
use Rattle.plain_state.specs.declared.value.Value.TheVariants.{Number, Reference}
use Rattle.plain_state.specs.Reachable.{Reachable, FromRegister, FromBoard, FromRecord, IsLive}
use Rattle.plain_state.specs.State as plain
use Rattle.heap_state.specs.Meaning.Denotes.{denoted, denoted_in}
use Rattle.heap_state.specs.Functions.{put}
use Rattle.heap_state.specs.Sums.{uncopied}
use Rattle.heap_state.specs.Theorems.Rows.{Written}
use Rattle.heap_state.specs.Theorems.Standing.{IsSound}
use Rattle.heap_state.specs.Theorems.Examples.{IsWorkedOut}
use Rattle.heap_state.specs.Memory.Walk.{walk, walk_of, old_walk_of}
use Rattle.heap_state.specs.Examples.Worked.{worked, worked_entries, worked_plain, made}
use Rattle.heap_state.proofs.Puts.{some_same, none≢some}
use Rattle.std.proofs.lemmas.List.Elements.{All-nil, All-cons}
use Rattle.plain_state.specs.declared.kind.Kind.TheVariants as plain_kind
use Rattle.plain_state.specs.declared.kind.Kind.TheVariants.{Fields}
use Rattle.plain_state.specs.Layout.{word_of_value, size_of}
use Rattle.heap_state.specs.Configuration.{team}
use Rattle.heap_state.specs.Cycles.Cycle.{StillLeads, IsRoot, InRegister, OnTheBoard, Copying, Rooted, MadeSince, Cycle}
use Rattle.heap_state.specs.Memory.Era.{era_of, memory_of}
use Rattle.std.proofs.lemmas.Bool.{cases_eq, ne_eqb}
use Rattle.heap_state.proofs.Worked.Ghost.{worked_table, worked_era, worked_ghost, size, writer, copy, keeper, identity, each_place, sizes}
use Rattle.heap_state.proofs.Worked.WorkedRecords.{heap, older, word_258}
use Rattle.heap_state.proofs.Worked.Broken.{second}
use Rattle.heap_state.proofs.Holds.Keeping.{holds}
use Rattle.heap_state.proofs.Represents.Representing.{represents}
use Rattle.heap_state.proofs.Worked.WorkedStands.{entries_fit, has_sizes, stands, the_mutator, objects}
use Rattle.heap_state.proofs.Table.Writing.{writes_tables}
use Rattle.heap_state.specs.Targets.{IsCopied}

table_is : Written 4 worked_entries
table_is = writes_tables 4 worked_entries entries_fit has_sizes

copies : walk_of worked ≡ record { at = 256; size = 3 } ∷ []
unfolding put walk decode tag_of header_word
copies = rw table_is.says refl

old : old_walk_of worked ≡ record { at = 192; size = 3 } ∷ record { at = 195; size = 2 } ∷ []
unfolding put walk decode tag_of forward_word busy_word
old = rw table_is.says refl

uncopied_words : uncopied worked (old_walk_of worked) ≡ 0
unfolding put decode tag_of forward_word busy_word
uncopied_words = rw (old, table_is.says) refl

number : denoted worked (number_word 7) ≡ Some (Number 7)
unfolding denoted_in decode tag_of number_word
number = refl

copied : denoted worked (pointer_word 256) ≡ Some (Reference (made 1))
unfolding put denoted_in decode tag_of pointer_word header_word
copied = rw table_is.says refl

forwarded : denoted worked (pointer_word 192) ≡ Some (Reference (made 1))
unfolding put denoted_in decode tag_of pointer_word forward_word header_word
forwarded = rw table_is.says refl

in_copy : denoted worked (pointer_word 195) ≡ Some (Reference (made 2))
unfolding put denoted_in decode tag_of pointer_word busy_word header_word
in_copy = rw table_is.says refl

not_there : denoted worked (pointer_word 193) ≡ None
unfolding put denoted_in decode tag_of pointer_word number_word
not_there = rw table_is.says refl

-- ---- what is reachable

first_reached : Reachable worked_plain (made 1)
first_reached = FromBoard 3 (made 1) refl

second_reached : Reachable worked_plain (made 2)
second_reached = FromRecord (made 1) _ 1 (made 2) first_reached refl refl refl

abbrev pub identities : List Identity
identities = made 1 ∷ made 2 ∷ []

abbrev pub first_record : plain.Record
first_record = record { kind = plain_kind.Fields; values = Number 7 ∷ Reference (made 2) ∷ [] }

abbrev pub serial_of : Identity → ℕ
serial_of i = i.serial

apart : made 1 ≡ made 2 → ⊥
apart e = let q : serial_of (made 1) ≡ serial_of (made 2) = ap serial_of e in omega (arith, q)

-- each is one of these
abbrev pub IsOne : Identity → Type 0
IsOne i = (made 1 ≡ i) ⊎ (made 2 ≡ i)

same_reference : {i j : Identity} → Some (Reference i) ≡ Some (Reference j) → i ≡ j
same_reference e = cc

no_number : {n : ℕ} {i : Identity} {A : Type 0} → Some (Number n) ≡ Some (Reference i) → A
no_number e = absurd (cc)

-- a list of values that refers to the first record alone, at one place
board_one : (x : ℕ) (i : Identity) → slice_get worked_plain.heap.board x ≡ Some (Reference i) → made 1 ≡ i
board_one zero i e = no_number e
board_one (suc zero) i e = no_number e
board_one (suc (suc zero)) i e = no_number e
board_one (suc (suc (suc zero))) i e = same_reference e
board_one (suc (suc (suc (suc zero)))) i e = no_number e
board_one (suc (suc (suc (suc (suc zero))))) i e = no_number e
board_one (suc (suc (suc (suc (suc (suc zero)))))) i e = no_number e
board_one (suc (suc (suc (suc (suc (suc (suc zero))))))) i e = no_number e
board_one (suc (suc (suc (suc (suc (suc (suc (suc zero)))))))) i e = no_number e
board_one (suc (suc (suc (suc (suc (suc (suc (suc (suc zero))))))))) i e = no_number e
board_one (suc (suc (suc (suc (suc (suc (suc (suc (suc (suc zero)))))))))) i e = no_number e
board_one (suc (suc (suc (suc (suc (suc (suc (suc (suc (suc (suc zero))))))))))) i e = no_number e
board_one (suc (suc (suc (suc (suc (suc (suc (suc (suc (suc (suc (suc zero)))))))))))) i e = no_number e
board_one (suc (suc (suc (suc (suc (suc (suc (suc (suc (suc (suc (suc (suc zero))))))))))))) i e = no_number e
board_one (suc (suc (suc (suc (suc (suc (suc (suc (suc (suc (suc (suc (suc (suc zero)))))))))))))) i e = no_number e
board_one (suc (suc (suc (suc (suc (suc (suc (suc (suc (suc (suc (suc (suc (suc (suc zero))))))))))))))) i e = no_number e
board_one (suc (suc (suc (suc (suc (suc (suc (suc (suc (suc (suc (suc (suc (suc (suc (suc x)))))))))))))))) i e = none≢some e

register_one : (j : ℕ) (i : Identity) → slice_get the_mutator.registers j ≡ Some (Reference i) → made 1 ≡ i
register_one zero i e = same_reference e
register_one (suc zero) i e = no_number e
register_one (suc (suc zero)) i e = no_number e
register_one (suc (suc (suc zero))) i e = no_number e
register_one (suc (suc (suc (suc zero)))) i e = no_number e
register_one (suc (suc (suc (suc (suc zero))))) i e = no_number e
register_one (suc (suc (suc (suc (suc (suc zero)))))) i e = no_number e
register_one (suc (suc (suc (suc (suc (suc (suc zero))))))) i e = no_number e
register_one (suc (suc (suc (suc (suc (suc (suc (suc j)))))))) i e = none≢some e

mutator_one : (m : ℕ) (q : plain.Mutator) (j : ℕ) (i : Identity) → slice_get worked_plain.mutators m ≡ Some q → slice_get q.registers j ≡ Some (Reference i) → made 1 ≡ i
mutator_one zero q j i e f = let s : the_mutator ≡ q = some_same e in register_one j i (ap (λ (r : plain.Mutator). slice_get r.registers j) s ∙ f)
mutator_one (suc m) q j i e f = none≢some e

first_one : (n : ℕ) (j : Identity) → slice_get first_record.values n ≡ Some (Reference j) → IsOne j
first_one zero j e = no_number e
first_one (suc zero) j e = inr (same_reference e)
first_one (suc (suc n)) j e = none≢some e

second_one : (n : ℕ) (j : Identity) → slice_get second.values n ≡ Some (Reference j) → IsOne j
second_one zero j e = inl (same_reference e)
second_one (suc n) j e = none≢some e

record_one : (i : Identity) (r : plain.Record) (n : ℕ) (j : Identity) → IsOne i → plain.record_of worked_plain.heap i ≡ Some r → slice_get r.values n ≡ Some (Reference j) → IsOne j
record_one i r n j (inl e) f g = let q : plain.record_of worked_plain.heap (made 1) ≡ Some r = ap (plain.record_of worked_plain.heap) e ∙ f in let s : first_record ≡ r = some_same q in first_one n j (ap (λ (o : plain.Record). slice_get o.values n) s ∙ g)
record_one i r n j (inr e) f g = let q : plain.record_of worked_plain.heap (made 2) ≡ Some r = ap (plain.record_of worked_plain.heap) e ∙ f in let s : second ≡ r = some_same q in second_one n j (ap (λ (o : plain.Record). slice_get o.values n) s ∙ g)

reached : (i : Identity) → Reachable worked_plain i → IsOne i
reached _ (FromRegister m q j i e n f) = inl (mutator_one m q j i e f)
reached _ (FromBoard x i e) = inl (board_one x i e)
reached _ (FromRecord i r n j p e l f) = record_one i r n j (reached i p) e f

contained : (i : Identity) → IsOne i → Contains identities i
contained i (inl e) = (0, omega arith, e)
contained i (inr e) = (1, omega arith, e)

at_once : (a b : ℕ) (i : Identity) → slice_get identities a ≡ Some i → slice_get identities b ≡ Some i → a ≡ b
at_once zero zero i e f = refl
at_once zero (suc zero) i e f = absurd (apart (some_same e ∙ sym (some_same f)))
at_once zero (suc (suc b)) i e f = none≢some f
at_once (suc zero) zero i e f = absurd (apart (some_same f ∙ sym (some_same e)))
at_once (suc zero) (suc zero) i e f = refl
at_once (suc zero) (suc (suc b)) i e f = none≢some f
at_once (suc (suc a)) b i e f = none≢some e

live : IsLive worked_plain 5
live = record {
  identities = identities;
  reachable = All-cons (Reachable worked_plain) (made 1) (made 2 ∷ []) first_reached (All-cons (Reachable worked_plain) (made 2) [] second_reached (All-nil (Reachable worked_plain)));
  all = λ i r. contained i (reached i r);
  once = at_once;
  sum = refl;
}

-- ---- the cycle

-- each place's identity is reachable
all_reached : (a : ℕ) → Reachable worked_plain (identity a)
all_reached a = ⊎_elim (λ (e : a ≡ 192). rw e first_reached) (λ (n : a ≢ 192).
    ⊎_elim (λ (e : a ≡ 256). rw e first_reached) (λ (o : a ≢ 256). rw (ne_eqb a 192 n, ne_eqb a 256 o) second_reached) (cases_eq a 256)) (cases_eq a 192)

still_reached : (w : ℕ) (i : Identity) → StillLeads worked_era identity w i → Reachable worked_plain i
still_reached w i l = rw (← l.named) (all_reached l.at)

first_copied : (i : Identity) → made 1 ≡ i → IsCopied worked_era 261 size writer identity i
first_copied i e = record { at = 256; stands = (omega arith, refl); below = (omega arith, omega arith); named = e }

copying : Copying worked_era 261 size writer copy keeper (λ a. Fields) identity heap worked_plain
copying = record {
  old = λ a st l m o. objects.shows a st (older.written a st l m) o;
  sound = λ x i h l. still_reached (heap x) i l;
  reached = λ a st l m o. all_reached a;
  sizes = each_place (λ b. 256 ≤ b → b < 261
      → (r : plain.Record) × (plain.record_of worked_plain.heap (identity b) ≡ Some r) × (size_of r ≡ size b) × (r.kind ≡ Fields))
      (λ l m. absurd (omega (arith, l))) (λ l m. absurd (omega (arith, l))) (λ l m. (first_record, refl, refl, refl)) (λ l m. (second, refl, refl, refl));
  complete = λ b x r i st w l m e f v. complete b st w l x r e i v;
  only = λ b st l m. all_reached b;
}
  where
    field : (x : ℕ) (i : Identity) → slice_get first_record.values x ≡ Some (Reference i) → IsCopied worked_era 261 size writer identity i ⊎ StillLeads worked_era identity (heap (256 + word_of_value Fields x)) i
    field zero i v = no_number v
    field (suc zero) i v = inr (record { at = 195; points = word_258; old = (omega arith, omega arith); named = same_reference v })
    field (suc (suc x)) i v = none≢some v

    complete : (b : ℕ) → 0 < size b → writer b ≡ 0 → 256 ≤ b → (x : ℕ) (r : plain.Record) → plain.record_of worked_plain.heap (identity b) ≡ Some r → (i : Identity) → slice_get r.values x ≡ Some (Reference i)
        → IsCopied worked_era 261 size writer identity i ⊎ StillLeads worked_era identity (heap (b + word_of_value Fields x)) i
    complete = each_place (λ b. writer b ≡ 0 → 256 ≤ b → (x : ℕ) (r : plain.Record) → plain.record_of worked_plain.heap (identity b) ≡ Some r → (i : Identity) → slice_get r.values x ≡ Some (Reference i)
        → IsCopied worked_era 261 size writer identity i ⊎ StillLeads worked_era identity (heap (b + word_of_value Fields x)) i)
        (λ w l x r e i v. absurd (omega (arith, l)))
        (λ w l x r e i v. absurd (omega (arith, l)))
        (λ w l x r e i v. let s : first_record ≡ r = some_same e in field x i (ap (λ (o : plain.Record). slice_get o.values x) s ∙ v))
        (λ w l x r e i v. absurd (omega (arith, w)))

rooted : Rooted worked_era 261 2 size writer identity heap (team worked).worker worked_plain
rooted = record { roots = λ i r. inl (first_copied i (root i r)); sound = λ k r i l mu n b s. still_reached (((team worked).worker k).registers r) i s }
  where
    root : (i : Identity) → IsRoot worked_plain i → made 1 ≡ i
    root i (InRegister m j q e n f) = mutator_one m q j i e f
    root i (OnTheBoard x e) = board_one x i e

-- nothing stands from LOW up, and the mutator has made two records
made_since : MadeSince worked_era 320 1 size identity (team worked).worker worked_plain
made_since = record {
  new = λ a st l n. absurd (let z = sizes a st in omega (arith, z, l));
  grown = one;
}
  where
    one : (k : ℕ) → k < 1 → plain.serial_of worked_plain.heap k ≤ ((team worked).worker k).account.serial
    one zero l = omega arith
    one (suc k) l = absurd (omega arith)

cycle : Cycle (era_of worked_table) (memory_of worked_table) (team worked) worked_ghost worked_plain
unfolding put
cycle = record { copying = copying; rooted = rooted; made = made_since }

sound : IsSound worked worked_plain
sound = record { holds = holds worked stands.ghost stands.formed stands.invariant; represents = represents worked stands.ghost stands.formed stands.invariant worked_plain stands.shown }

pub worked_out : IsWorkedOut
worked_out = record { stands = stands; sound = sound; copies = copies; old = old; uncopied_words = uncopied_words; number = number; copied = copied; forwarded = forwarded; in_copy = in_copy; not_there = not_there; live = live; cycle = rw table_is.says cycle }
