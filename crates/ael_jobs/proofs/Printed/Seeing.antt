-- What is told of the elements of a list, one after another.
use Rattle.std.proofs.Common.{◌≡◌, ℕ, ◌+◌, ◌<◌, ◌^◌, zero, suc, true, false, List, [], ◌∷◌, ◌++◌, Option, Some, None, drop, get_or, slice_get, refl, ap, subst, sym, ◌∙◌, add-one, append_assoc}
use Rattle.std.specs.List.{AllByRecursion, flat_map, list_all}
use Rattle.std.specs.Option.{option_map}
use Rattle.std.proofs.lemmas.Option.{same_Some}
use Rattle.plain_state.specs.declared.end.End.{End}
use Rattle.plain_heap.specs.Print.{Seen, printed_lines, lines_seen}
use Rattle.dump_text.specs.Text.{IsWord}
use Rattle.ael_jobs.specs.declared.status.Status.TheVariants.{Done, Ended, StepsOut}
use Rattle.ael_jobs.specs.Runs.Verdict.{is_halt, has_ended, has_halted, status_seen}

-- the element at m is the first of those from m on
pub found-next : {A : Type 0} (xs : List A) (m : ℕ) (x : A) → slice_get xs m ≡ Some x → drop m xs ≡ x ∷ drop (m + 1) xs
found-next [] m x is = cc
found-next (y ∷ xs) zero x is = ap (λ z. z ∷ xs) (same_Some y x is)
found-next (y ∷ xs) (suc m) x is = rw add-one (found-next xs m x is ∙ (rw add-one refl))

-- ---- a text for each

-- the texts told so far and those still to come are all
pub record TextsToldSoFar {A : Type 0} (text : A → List ℕ) (told : List ℕ) (m : ℕ) (xs : List A) (all : List ℕ) : Type 0 where
  pub rest : told ++ flat_map text (drop m xs) ≡ all

pub told_more : {A : Type 0} (text : A → List ℕ) (told all : List ℕ) (m : ℕ) (xs : List A) (x : A) → slice_get xs m ≡ Some x → TextsToldSoFar text told m xs all → TextsToldSoFar text (told ++ text x) (m + 1) xs all
told_more text told all m xs x is h = record { rest = rw append_assoc (rw (found-next xs m x is) at h.rest) }

-- ---- mutators

-- what is seen of a mutator, by its numbers and its end
pub seen_is : (o : Option Seen) (printed : List ℕ) (end : Option End) → option_map (λ k. k.printed) o ≡ Some printed → option_map (λ k. k.end) o ≡ Some end → o ≡ Some (record { printed = printed; end = end })
seen_is None printed end is_printed is_end = cc
seen_is (Some k) printed end is_printed is_end = rw (← same_Some k.printed printed is_printed, ← same_Some k.end end is_end) refl

-- the lines told so far and those still to come are all
pub record LinesToldSoFar (told : List ℕ) (m : ℕ) (ks : List Seen) (all : List ℕ) : Type 0 where
  pub rest : told ++ lines_seen m (drop m ks) ≡ all

pub tells_more : (told all : List ℕ) (m : ℕ) (ks : List Seen) (printed : List ℕ) (end : Option End) → option_map (λ k. k.printed) (slice_get ks m) ≡ Some printed
    → option_map (λ k. k.end) (slice_get ks m) ≡ Some end → LinesToldSoFar told m ks all → LinesToldSoFar (told ++ printed_lines m printed end) (m + 1) ks all
tells_more told all m ks printed end is_printed is_end h =
    record { rest = rw append_assoc (rw (found-next ks m (record { printed = printed; end = end }) (seen_is (slice_get ks m) printed end is_printed is_end)) at h.rest) }

end_is : (o : Option Seen) (end : Option End) → option_map (λ k. k.end) o ≡ Some end → (k : Seen) × (o ≡ Some k) × (k.end ≡ end)
end_is None end is = cc
end_is (Some k) end is = (k, refl, same_Some k.end end is)

-- the mutators before m made `halt`
pub record HaltsBelow (m : ℕ) (ks : List Seen) : Type 0 where
  pub rest : list_all has_halted (drop m ks) ≡ list_all has_halted ks

pub halts_more : (m : ℕ) (ks : List Seen) (end : Option End) → option_map (λ k. k.end) (slice_get ks m) ≡ Some end → is_halt end ≡ true → HaltsBelow m ks → HaltsBelow (m + 1) ks
halts_more m ks end is halts h =
    let at_m = end_is (slice_get ks m) end is in
    record { rest = rw (at_m.2, halts) at (rw (found-next ks m at_m.0 at_m.1) at h.rest) }

pub halts_not : (m : ℕ) (ks : List Seen) (end : Option End) → option_map (λ k. k.end) (slice_get ks m) ≡ Some end → is_halt end ≡ false → HaltsBelow m ks → list_all has_halted ks ≡ false
halts_not m ks end is goes h =
    let at_m = end_is (slice_get ks m) end is in
    sym (rw (at_m.2, goes) at (rw (found-next ks m at_m.0 at_m.1) at h.rest))

-- ---- how a run went

pub went_out : (ks : List Seen) → list_all has_ended ks ≡ false → StepsOut ≡ status_seen ks
went_out ks out = rw out

pub went_done : (ks : List Seen) → list_all has_ended ks ≡ true → list_all has_halted ks ≡ true → Done ≡ status_seen ks
went_done ks over halts = rw (over, halts)

pub went_otherwise : (ks : List Seen) → list_all has_ended ks ≡ true → list_all has_halted ks ≡ false → Ended ≡ status_seen ks
went_otherwise ks over halts = rw (over, halts)

-- ---- what is so of each

-- if it is so of those from m on, it is so of all
pub record IsSoBefore {A : Type 0} (IsSo : A → Type 0) (m : ℕ) (xs : List A) : Type 0 where
  pub all : AllByRecursion IsSo (drop m xs) → AllByRecursion IsSo xs

pub so_more : {A : Type 0} (IsSo : A → Type 0) (m : ℕ) (xs : List A) (x : A) → slice_get xs m ≡ Some x → IsSo x → IsSoBefore IsSo m xs → IsSoBefore IsSo (m + 1) xs
so_more IsSo m xs x is so h = record { all = λ rest. h.all (subst (AllByRecursion IsSo) (sym (found-next xs m x is)) (so, rest)) }

-- each item that fits is a word
pub fit_words : (words : List ℕ) → ((i : ℕ) → get_or words i 0 < 2 ^ 64) → AllByRecursion IsWord words
fit_words [] fit = tt
fit_words (word ∷ words) fit = (fit 0, fit_words words (λ i. fit (suc i)))
