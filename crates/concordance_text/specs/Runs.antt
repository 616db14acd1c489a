-- The words of a text by its bytes alone.
use Rattle.std.specs.Prelude.{◌≡◌, ⊤, ℕ, ◌+◌, ◌<◌, ◌≤◌, Bool, true, false, List, [], ◌∷◌, ◌++◌, length, count_by}
use Rattle.std.specs.List.{AllByRecursion}
use Rattle.concordance_text.specs.declared.letters.TheConstants.{MOST_LETTERS}
use Rattle.concordance_text.specs.Words.{Mention, ends_line, lower_cased, separates}

-- the first element, if there is one, passes the test
abbrev pub BeginsWith : {X : Type 0} → (X → Bool) → List X → Type 0
BeginsWith p [] = ⊤
BeginsWith p (x ∷ xs) = p x ≡ true

-- the last element, if there is one, passes the test
abbrev pub EndsWith : {X : Type 0} → (X → Bool) → List X → Type 0
EndsWith p [] = ⊤
EndsWith p (x ∷ []) = p x ≡ true
EndsWith p (x ∷ y ∷ ys) = EndsWith p (y ∷ ys)

-- The word is a run of letters, lower-cased, with no letter before it or behind it; its line is the one after those that ended before it.
pub record IsWordRun (text : List ℕ) (m : Mention) : Type 0 where
  pub front : List ℕ
  pub run : List ℕ
  pub back : List ℕ
  pub text_is : text ≡ front ++ (run ++ back)
  pub some : 0 < length run
  pub letters : AllByRecursion (λ byte. separates byte ≡ false) run
  pub before : EndsWith separates front
  pub behind : BeginsWith separates back
  pub word_is : m.word ≡ lower_cased run
  pub line_is : m.line ≡ count_by ends_line front + 1

-- A run with more letters than a word may have is in the line with this number, and none is in a line before it.
pub record IsFirstLongRun (text : List ℕ) (number : ℕ) : Type 0 where
  pub found : Mention
  pub is : IsWordRun text found
  pub long : MOST_LETTERS < length found.word
  pub here : found.line ≡ number
  pub none_before : (m : Mention) → IsWordRun text m → MOST_LETTERS < length m.word → number ≤ m.line
