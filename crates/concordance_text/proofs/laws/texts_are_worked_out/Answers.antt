use Rattle.std.proofs.Common.{List, ℕ, [], ◌∷◌, codes, refl, replicate}
use Rattle.std.specs.Fmt.{digits}
use Rattle.concordance_text.specs.Words.{mentions_of}
use Rattle.concordance_text.proofs.Existence.{are_rows, rows_for}
use Rattle.concordance_text.proofs.laws.texts_are_worked_out.Goals as goal

pub returns-clause-two_words_are_told : goal.returns-clause-two_words_are_told
unfolding digits
returns-clause-two_words_are_told c = let text : List ℕ = codes "b a\nA" in record { rows = rows_for (mentions_of text); are = are_rows (mentions_of text); told_is = refl }

pub returns-clause-nothing_is_told : goal.returns-clause-nothing_is_told
returns-clause-nothing_is_told c = let text : List ℕ = [] in record { rows = rows_for (mentions_of text); are = are_rows (mentions_of text); told_is = refl }

pub returns-clause-words_are_told_in_order : goal.returns-clause-words_are_told_in_order
unfolding digits
returns-clause-words_are_told_in_order c = let text : List ℕ = codes "to be or\nnot to be, to Be\n\nB" in record { rows = rows_for (mentions_of text); are = are_rows (mentions_of text); told_is = refl }

pub returns-clause-carriage_returns_separate : goal.returns-clause-carriage_returns_separate
returns-clause-carriage_returns_separate c = refl

pub returns-clause-other_bytes_separate : goal.returns-clause-other_bytes_separate
returns-clause-other_bytes_separate c = refl

pub returns-clause-last_line_needs_no_end : goal.returns-clause-last_line_needs_no_end
returns-clause-last_line_needs_no_end c = refl

pub returns-clause-cases_are_one_word : goal.returns-clause-cases_are_one_word
returns-clause-cases_are_one_word c = refl

pub returns-clause-need_is_counted : goal.returns-clause-need_is_counted
returns-clause-need_is_counted c = refl

pub returns-clause-longest_word_is_short : goal.returns-clause-longest_word_is_short
returns-clause-longest_word_is_short c = (refl, tt)

pub returns-clause-longer_word_is_too_long : goal.returns-clause-longer_word_is_too_long
returns-clause-longer_word_is_too_long c = record { before = []; line = replicate 65 97; after = []; lines = refl; number_is = refl; short = tt; long = refl }

pub returns-clause-first_long_line_is_told : goal.returns-clause-first_long_line_is_told
returns-clause-first_long_line_is_told c = record { before = codes "a" ∷ []; line = replicate 65 98; after = replicate 65 99 ∷ []; lines = refl; number_is = refl; short = (refl, tt); long = refl }
