-- Texts worked out by hand.
use Rattle.std.specs.Prelude.{◌≡◌, [], ◌∷◌, ◌++◌, codes, replicate}
use Rattle.concordance_text.specs.Words.{HasShortWords, IsFirstTooLong, mention, mentions_of}
use Rattle.concordance_text.specs.Rows.{IsConcordanceOf, need, row}

-- two words, one of them in two lines, the last of which has no LF
abbrev pub TwoWordsAreTold : Type 0
TwoWordsAreTold = IsConcordanceOf (codes "b a\nA") (codes "a: 1, 2\nb: 1\n")

-- no bytes have no words
abbrev pub NothingIsTold : Type 0
NothingIsTold = IsConcordanceOf [] []

-- a word is told once, however often it stands in a line, and in the order of bytes, in which a shorter word is before those that it begins
abbrev pub WordsAreToldInOrder : Type 0
WordsAreToldInOrder = IsConcordanceOf (codes "to be or\nnot to be, to Be\n\nB") (codes "b: 4\nbe: 1, 2\nnot: 2\nor: 1\nto: 1, 2\n")

-- a text whose lines end with CR and LF
abbrev pub CarriageReturnsSeparate : Type 0
CarriageReturnsSeparate = mentions_of (97 ∷ 13 ∷ 10 ∷ 98 ∷ 13 ∷ 10 ∷ []) ≡ mention (codes "a") 1 ∷ mention (codes "b") 2 ∷ []

-- the bytes 0, 128 and 255, and those beside the letters
abbrev pub OtherBytesSeparate : Type 0
OtherBytesSeparate =
    mentions_of (97 ∷ 0 ∷ 98 ∷ 128 ∷ 99 ∷ 255 ∷ 65 ∷ 64 ∷ 90 ∷ 91 ∷ 97 ∷ 96 ∷ 122 ∷ 123 ∷ [])
    ≡ mention (codes "a") 1 ∷ mention (codes "b") 1 ∷ mention (codes "c") 1 ∷ mention (codes "a") 1 ∷ mention (codes "z") 1 ∷ mention (codes "a") 1 ∷ mention (codes "z") 1 ∷ []

-- the last line may lack its LF
abbrev pub LastLineNeedsNoEnd : Type 0
LastLineNeedsNoEnd = mentions_of (codes "a\nb") ≡ mentions_of (codes "a\nb\n")

-- upper and lower case of one word
abbrev pub CasesAreOneWord : Type 0
CasesAreOneWord = mentions_of (codes "Az aZ\nAZ") ≡ mention (codes "az") 1 ∷ mention (codes "az") 1 ∷ mention (codes "az") 2 ∷ []

-- 64 letters are a word
abbrev pub LongestWordIsShort : Type 0
LongestWordIsShort = HasShortWords (replicate 64 97)

-- 65 are too many
abbrev pub LongerWordIsTooLong : Type 0
LongerWordIsTooLong = IsFirstTooLong (replicate 65 97) 1

-- of two lines with such words the first is told
abbrev pub FirstLongLineIsTold : Type 0
FirstLongLineIsTold = IsFirstTooLong (codes "a\n" ++ replicate 65 98 ++ codes "\n" ++ replicate 65 99) 2

-- what the first text fills: two words of one letter, with three lines
abbrev pub NeedIsCounted : Type 0
NeedIsCounted = need (row (codes "a") (1 ∷ 2 ∷ []) ∷ row (codes "b") (1 ∷ []) ∷ []) ≡ 25
