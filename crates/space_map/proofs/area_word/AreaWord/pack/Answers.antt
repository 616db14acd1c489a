use Rattle.std.proofs.Common.{◌≡◌, ◌+◌, ◌*◌, ◌%◌, ◌^◌, arith}
use Rattle.space_map.specs.AreaWord.{encode_area}
use Rattle.space_map.proofs.AreaWords.{decode_area-encode_area}
use Rattle.space_map.proofs.Bits.{or_above}
use Rattle.space_map.proofs.area_word.AreaWord.pack.Goals as goal

pub returns-clause-word : goal.returns-clause-word
unfolding encode_area
returns-clause-word c =
    let front = c.from.result in
    let low = c.from-2.result in
    let owed = c.from-3.result in
    let low_whole : low * 2 ^ 18 % 2 ^ 64 ≡ low * 2 ^ 18 = omega arith in
    let owed_whole : owed * 2 ^ 36 % 2 ^ 64 ≡ owed * 2 ^ 36 = omega arith in
    rw (low_whole, owed_whole, or_above front low 18 (omega arith), or_above (front + low * 2 ^ 18) owed 36 (omega arith)) (omega arith)

pub returns-clause-reads_back : goal.returns-clause-reads_back
returns-clause-reads_back c = rw (returns-clause-word c) (decode_area-encode_area c.args.self c.requires)
