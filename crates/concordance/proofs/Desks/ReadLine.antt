-- A line whose words are noted one by one.
use Rattle.std.proofs.Common.{◌≡◌, ℕ, ◌+◌, ◌*◌, ◌<◌, ◌≤◌, Bool, true, false, ◌||◌, List, [], ◌∷◌, ◌++◌, length, map, refl, sym, ap, ◌∙◌, subst, append_assoc, arith}
use Rattle.std.specs.List.{list_any}
use Rattle.std.proofs.lemmas.Bool.{ltb-false}
use Rattle.concordance_text.specs.declared.letters.TheConstants.{MOST_LETTERS}
use Rattle.concordance_text.specs.Words.{Mention, has_long_word, is_too_long, lower_cased, mention, mentions_in, words_in}
use Rattle.ael_threads.specs.Seats.{Seated, first_number}
use Rattle.concordance.specs.Full.{WasFullFor}
use Rattle.concordance.specs.Lone.{IsLone, KeepsSeat, desk_of}
use Rattle.concordance.specs.Notes.Desks.{KeepsNotesTo, HasNotedJust}
use Rattle.concordance.specs.Notes.Invariant.{NoneIsLater}
use Rattle.concordance.proofs.Desks.Seats.{seat_stays, seat_then}
use Rattle.concordance.proofs.FoundFull.{full_from}
use Rattle.concordance.proofs.Lists.Elements.{all_append}

-- with the words that are left, it comes to all of the line
pub record NotesOn (number : ℕ) (line rest : List ℕ) (noted : List Mention) (s : Seated) : Type 0 where
  pub now : List Mention
  pub is : HasNotedJust (desk_of s) now
  pub none_later : NoneIsLater now number
  pub all : now ++ mentions_in number rest ≡ noted ++ mentions_in number line

-- a clerk that has noted the words before the rest of the line
pub record ReadsOn (a : Seated) (number : ℕ) (line rest : List ℕ) (s : Seated) : Type 0 where
  pub same : KeepsSeat a s
  pub lone : IsLone s
  pub made : length (desk_of s).records + 3 * length rest ≤ length (desk_of a).records + 3 * length line
  pub short : has_long_word rest ≡ false
  pub noted : (noted : List Mention) → HasNotedJust (desk_of a) noted → NoneIsLater noted number → NotesOn number line rest noted s

pub begins : (a : Seated) (number : ℕ) (line : List ℕ) → IsLone a → has_long_word line ≡ false → ReadsOn a number line line a
begins a number line lone short = record { same = seat_stays a; lone = lone; made = omega arith; short = short; noted = λ noted is none_later. record { now = noted; is = is; none_later = none_later; all = refl } }

neither : (b c : Bool) → (b || c) ≡ false → (b ≡ false) × (c ≡ false)
neither true c e = absurd (cc)
neither false c e = (refl, e)

module _ (a : Seated) (number : ℕ) (line rest : List ℕ) (s : Seated) (on : ReadsOn a number line rest s) (word behind : List ℕ) (words : words_in rest ≡ word ∷ words_in behind) where
  shorts : (is_too_long word ≡ false) × (has_long_word behind ≡ false)
  shorts = neither (is_too_long word) (has_long_word behind) (sym (ap (list_any is_too_long) words) ∙ on.short)

  pub word_short : length word ≤ MOST_LETTERS
  word_short = let e = ltb-false MOST_LETTERS (length word) shorts.0 in omega (arith, e)

  pub notes_there : KeepsNotesTo (desk_of a) number → KeepsNotesTo (desk_of s) number
  notes_there h = let n = on.noted h.noted h.is h.none_later in record { noted = n.now; is = n.is; none_later = n.none_later }

  pub goes : (t : Seated) (w : List ℕ) → w ≡ lower_cased word → length behind < length rest → KeepsSeat s t → IsLone t → ((noted : List Mention) → HasNotedJust (desk_of s) noted → NoneIsLater noted number → HasNotedJust (desk_of t) (noted ++ mention w number ∷ []))
      → length (desk_of t).records ≤ length (desk_of s).records + 3 → ReadsOn a number line behind t
  goes t w is_word shorter same lone note few = record {
    same = seat_then a s t on.same same;
    lone = lone;
    made = (let m = on.made in omega (arith, m, few, shorter));
    short = shorts.1;
    noted = λ noted is none_later.
        let n = on.noted noted is none_later in record {
          now = n.now ++ mention w number ∷ [];
          is = note n.now n.is n.none_later;
          none_later = all_append (λ (k : Mention). k.line ≤ number) n.now (mention w number ∷ []) n.none_later (omega arith, tt);
          all = append_assoc n.now (mention w number ∷ []) (mentions_in number behind)
              ∙ (ap (λ (v : List ℕ). n.now ++ mention v number ∷ mentions_in number behind) is_word
              ∙ (ap (λ (ws : List (List ℕ)). n.now ++ map (λ v. mention (lower_cased v) number) ws) (sym words) ∙ n.all));
        };
  }

  -- the heap is full while its next word is noted
  pub full_in_line : (w : List ℕ) → w ≡ lower_cased word → (asked room : ℕ) → ((noted more : List Mention) → HasNotedJust (desk_of s) noted → WasFullFor s.knows.plan (first_number s.knows.hands) (noted ++ mention w number ∷ more) asked room)
      → (noted more : List Mention) → HasNotedJust (desk_of a) noted → NoneIsLater noted number → WasFullFor a.knows.plan (first_number a.knows.hands) (noted ++ mentions_in number line ++ more) asked room
  full_in_line w is_word asked room full noted more is none_later =
      let n = on.noted noted is none_later in
      full_from a s (noted ++ mentions_in number line ++ more) asked room on.same
      (subst (λ (ms : List Mention). WasFullFor s.knows.plan (first_number s.knows.hands) ms asked room) (all_of n) (full n.now (mentions_in number behind ++ more) n.is))
    where
      all_of : (n : NotesOn number line rest noted s) → n.now ++ mention w number ∷ (mentions_in number behind ++ more) ≡ noted ++ mentions_in number line ++ more
      all_of n =
          ap (λ (v : List ℕ). n.now ++ mention v number ∷ (mentions_in number behind ++ more)) is_word
          ∙ (ap (λ (ws : List (List ℕ)). n.now ++ (map (λ v. mention (lower_cased v) number) ws ++ more)) (sym words)
          ∙ (sym (append_assoc n.now (mentions_in number rest) more) ∙ ap (λ (ms : List Mention). ms ++ more) n.all))

-- no word is left
pub ends : (a : Seated) (number : ℕ) (line rest : List ℕ) (s : Seated) → ReadsOn a number line rest s → words_in rest ≡ [] → (noted : List Mention) → HasNotedJust (desk_of a) noted → NoneIsLater noted number → HasNotedJust (desk_of s) (noted ++ mentions_in number line)
ends a number line rest s on none noted is none_later =
    let n = on.noted noted is none_later in
    subst (HasNotedJust (desk_of s)) (sym (nothing_behind n.now) ∙ (ap (λ (ws : List (List ℕ)). n.now ++ map (λ v. mention (lower_cased v) number) ws) (sym none) ∙ n.all)) n.is
  where
    nothing_behind : (xs : List Mention) → xs ++ [] ≡ xs
    nothing_behind [] = refl
    nothing_behind (x ∷ xs) = ap (λ (ys : List Mention). x ∷ ys) (nothing_behind xs)
