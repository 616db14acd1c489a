use Rattle.heap_laws.proofs.Fields.SameWords.{same_words}
use Rattle.heap_laws.proofs.laws.answers.words_are_compared.Goals as goal

pub returns : goal.returns
returns c = same_words
