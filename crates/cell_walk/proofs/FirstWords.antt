-- What replaces a target, by what is read in the first word of the old record.
use Rattle.std.proofs.Common.{◌≡◌, ℕ, Some, None, refl, ap}
use Rattle.heap_words.specs.Decoded.{Decoded, ForwardWord, copy_in}
use Rattle.heap_words.specs.Word.{number_word, pointer_word}
use Rattle.cell_walk.specs.Taken.{replacement}

pub replacement-copy : (d : Decoded) (address : ℕ) → Some address ≡ copy_in d → replacement d ≡ pointer_word address
replacement-copy (ForwardWord len a) address is = let same : a ≡ address = cc in ap pointer_word same
replacement-copy _ address is = absurd (cc)

pub replacement-none : (d : Decoded) → None ≡ copy_in d → replacement d ≡ number_word 0
replacement-none (ForwardWord len a) is = absurd (cc)
replacement-none _ is = refl
