-- A text whose lines are read one by one.
use Rattle.std.proofs.Common.{◌≡◌, ℕ, ◌+◌, ◌*◌, ◌<◌, ◌≤◌, true, List, [], ◌∷◌, ◌++◌, length, map, refl, sym, ap, ◌∙◌, subst, append_assoc, arith}
use borrow.Author.Tests.{eqb-true}
use lib.Dec.{eqb}
use Rattle.concordance_text.specs.Words.{HasShortWords, Mention, lines_of, lower_cased, mention, mentions_from, mentions_in, words_in}
use Rattle.ael_threads.specs.Seats.{Seated, first_number}
use Rattle.concordance.specs.Full.{WasFullFor}
use Rattle.concordance.specs.Lone.{IsLone, KeepsSeat, desk_of}
use Rattle.concordance.specs.Notes.Desks.{KeepsNotesTo, HasNotedJust}
use Rattle.concordance.specs.Notes.Invariant.{NoneIsLater}
use Rattle.concordance.proofs.Desks.Seats.{seat_stays, seat_then}
use Rattle.concordance.proofs.FoundFull.{full_from}
use Rattle.concordance.proofs.Lists.Elements.{all_append, all_map}

-- A clerk that has noted the lines before the rest of the text, which are numbered from the first number on.
pub record ReadsText (a : Seated) (first : ℕ) (text : List ℕ) (number : ℕ) (rest : List ℕ) (s : Seated) : Type 0 where
  pub same : KeepsSeat a s
  pub lone : IsLone s
  pub made : length (desk_of s).records + 3 * length rest ≤ length (desk_of a).records + 3 * length text
  pub lines : number + length rest ≤ first + length text
  pub short : HasShortWords rest
  pub now : List Mention
  pub is : HasNotedJust (desk_of s) now
  pub none_later : NoneIsLater now number
  pub all : now ++ mentions_from number (lines_of rest) ≡ mentions_from first (lines_of text)

pub begins : (a : Seated) (first : ℕ) (text : List ℕ) → IsLone a → HasShortWords text → HasNotedJust (desk_of a) [] → ReadsText a first text first text a
begins a first text lone short none = record { same = seat_stays a; lone = lone; made = omega arith; lines = omega arith; short = short; now = []; is = none; none_later = tt; all = refl }

in_line : (number : ℕ) (runs : List (List ℕ)) → NoneIsLater (map (λ word. mention (lower_cased word) number) runs) (number + 1)
in_line number [] = tt
in_line number (run ∷ runs) = (omega arith, in_line number runs)

module _ (a : Seated) (first : ℕ) (text : List ℕ) (number : ℕ) (rest : List ℕ) (s : Seated) (on : ReadsText a first text number rest s) where
  pub notes_there : KeepsNotesTo (desk_of s) number
  notes_there = record { noted = on.now; is = on.is; none_later = on.none_later }

  module _ (line behind : List ℕ) (mentions : (n : ℕ) → mentions_from n (lines_of rest) ≡ mentions_in n line ++ mentions_from (n + 1) (lines_of behind)) where
    pub goes : (t : Seated) → HasShortWords behind → length line + length behind ≤ length rest → length behind < length rest → KeepsSeat s t → IsLone t
        → ((noted : List Mention) → HasNotedJust (desk_of s) noted → NoneIsLater noted number → HasNotedJust (desk_of t) (noted ++ mentions_in number line)) → length (desk_of t).records ≤ length (desk_of s).records + 3 * length line → ReadsText a first text (number + 1) behind t
    goes t short bytes shorter same lone note few = record {
      same = seat_then a s t on.same same;
      lone = lone;
      made = (let m = on.made in omega (arith, m, few, bytes));
      lines = (let l = on.lines in omega (arith, l, shorter));
      short = short;
      now = on.now ++ mentions_in number line;
      is = note on.now on.is on.none_later;
      none_later = all_append (λ (n : Mention). n.line ≤ number + 1) on.now (mentions_in number line) (all_map (λ (n : Mention). n.line ≤ number) (λ (n : Mention). n.line ≤ number + 1) on.now (λ n at less. omega (arith, less)) on.none_later) (in_line number (words_in line));
      all = append_assoc on.now (mentions_in number line) (mentions_from (number + 1) (lines_of behind)) ∙ (ap (λ (ms : List Mention). on.now ++ ms) (sym (mentions number)) ∙ on.all);
    }

    -- the heap is full while the line is read
    pub full_in_text : (asked room : ℕ) → ((noted more : List Mention) → HasNotedJust (desk_of s) noted → NoneIsLater noted number → WasFullFor s.knows.plan (first_number s.knows.hands) (noted ++ mentions_in number line ++ more) asked room)
        → WasFullFor a.knows.plan (first_number a.knows.hands) (mentions_from first (lines_of text)) asked room
    full_in_text asked room full = full_from a s (mentions_from first (lines_of text)) asked room on.same
        (subst (λ (ms : List Mention). WasFullFor s.knows.plan (first_number s.knows.hands) ms asked room) (append_assoc on.now (mentions_in number line) (mentions_from (number + 1) (lines_of behind)) ∙ (ap (λ (ms : List Mention). on.now ++ ms) (sym (mentions number)) ∙ on.all)) (full on.now (mentions_from (number + 1) (lines_of behind)) on.is on.none_later))

-- no byte is left
nothing_behind : (xs : List Mention) → xs ++ [] ≡ xs
nothing_behind [] = refl
nothing_behind (x ∷ xs) = ap (λ (ys : List Mention). x ∷ ys) (nothing_behind xs)

pub ends : (a : Seated) (first : ℕ) (text : List ℕ) (number : ℕ) (rest : List ℕ) (s : Seated) → ReadsText a first text number rest s → rest ≡ [] → HasNotedJust (desk_of s) (mentions_from first (lines_of text))
ends a first text number rest s on none = subst (HasNotedJust (desk_of s)) (sym (nothing_behind on.now) ∙ (ap (λ (r : List ℕ). on.now ++ mentions_from number (lines_of r)) (sym none) ∙ on.all)) on.is

pub none_left : (rest : List ℕ) → eqb (length rest) 0 ≡ true → rest ≡ []
none_left [] is = refl
none_left (x ∷ xs) is = absurd (let none = eqb-true (length (x ∷ xs)) 0 is in omega (arith, none))
