use Rattle.std.proofs.Common.{◌/◌, ◌^◌, refl, arith, sym}
use Rattle.std.proofs.lemmas.Nat.{and_mask}
use Rattle.space_map.specs.AreaWord.{area_in}
use Rattle.space_map.proofs.AreaWords.{decode_area-short, decode_area-long, encode_area-decode_area}
use Rattle.space_map.proofs.area_word.AreaWord.read.Goals as goal

pub returns-then-word-ne0-clause-decoded : goal.returns-then-word-ne0-clause-decoded
returns-then-word-ne0-clause-decoded c = sym (decode_area-long c.args.word (omega arith))

pub returns-clause-decoded : goal.returns-clause-decoded
unfolding area_in
returns-clause-decoded c =
    rw (decode_area-short c.args.word (omega arith), and_mask c.args.word 18, and_mask (c.args.word / 2 ^ 18) 18) refl

pub returns-clause-one_spelling : goal.returns-clause-one_spelling
returns-clause-one_spelling c = sym (encode_area-decode_area c.args.word _ (sym (returns-clause-decoded c)))
