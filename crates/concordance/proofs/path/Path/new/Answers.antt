use Rattle.std.proofs.Common.{◌≡◌, ℕ, ◌+◌, ◌*◌, ◌%◌, ◌<◌, List, length, get_or, take, refl, sym, ap₂, ◌∙◌}
use Rattle.std.proofs.lemmas.List.Sums.{fold_more}
use Rattle.concordance.specs.Notes.Paths.{MODULUS, bits_of}
use Rattle.concordance.specs.declared.path.TheConstants.{MULTIPLIER}
use Rattle.concordance.proofs.path.Path.new.Goals as goal

-- one letter more
more : (word : List ℕ) (i : ℕ) → i < length word → bits_of (take (i + 1) word) ≡ (bits_of (take i word) + get_or word i 0) % MODULUS * MULTIPLIER % MODULUS
unfolding bits_of
more word i within = fold_more (λ bits letter. (bits + letter) % MODULUS * MULTIPLIER % MODULUS) 0 word i 0 within

pub loop-letter-init : goal.loop-letter-init
unfolding bits_of
loop-letter-init c = refl

pub loop-letter-preserved : goal.loop-letter-preserved
loop-letter-preserved c =
    let letter : c.from.result ≡ get_or c.args.word.now c.loop-letter.letter-index 0 = c.from.ensures in
    ap₂ (λ (bits letter : ℕ). (bits + letter) % MODULUS * MULTIPLIER % MODULUS) c.loop-letter.invariant letter ∙ sym (more c.args.word.now c.loop-letter.letter-index c.loop-letter-test.true)
