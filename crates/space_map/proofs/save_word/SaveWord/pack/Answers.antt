use Rattle.std.proofs.Common.{refl, arith}
use Rattle.space_map.specs.SaveWord.{encode_save}
use Rattle.space_map.proofs.SaveWords.{decode_save-encode_save}
use Rattle.space_map.proofs.StateWords.{packed, packed-without_worker}
use Rattle.space_map.proofs.save_word.SaveWord.pack.Goals as goal

pub returns-in-Unsaved-clause-word : goal.returns-in-Unsaved-clause-word
unfolding encode_save
returns-in-Unsaved-clause-word c = rw c.in-Unsaved.is refl

pub returns-in-Unsaved-clause-reads_back : goal.returns-in-Unsaved-clause-reads_back
returns-in-Unsaved-clause-reads_back c =
    rw (returns-in-Unsaved-clause-word c) (decode_save-encode_save c.args.self (rw c.in-Unsaved.is tt))

pub returns-in-Saving-clause-word : goal.returns-in-Saving-clause-word
unfolding encode_save
returns-in-Saving-clause-word c =
    let worker = c.from.result in
    let number = c.from-in-Saving.result in
    rw (packed 1 worker number (omega arith) (omega arith) (omega arith), c.in-Saving.is) (omega arith)

pub returns-in-Saving-clause-reads_back : goal.returns-in-Saving-clause-reads_back
returns-in-Saving-clause-reads_back c =
    rw (returns-in-Saving-clause-word c) (decode_save-encode_save c.args.self (rw c.in-Saving.is (omega arith, omega arith)))

pub returns-in-Saved-clause-word : goal.returns-in-Saved-clause-word
unfolding encode_save
returns-in-Saved-clause-word c =
    rw (packed-without_worker 2 c.from-in-Saved.result (omega arith) (omega arith), c.in-Saved.is) (omega arith)

pub returns-in-Saved-clause-reads_back : goal.returns-in-Saved-clause-reads_back
returns-in-Saved-clause-reads_back c =
    rw (returns-in-Saved-clause-word c) (decode_save-encode_save c.args.self (rw c.in-Saved.is (omega arith)))

pub returns-in-New-clause-word : goal.returns-in-New-clause-word
unfolding encode_save
returns-in-New-clause-word c =
    rw (packed-without_worker 3 c.from-in-New.result (omega arith) (omega arith), c.in-New.is) (omega arith)

pub returns-in-New-clause-reads_back : goal.returns-in-New-clause-reads_back
returns-in-New-clause-reads_back c =
    rw (returns-in-New-clause-word c) (decode_save-encode_save c.args.self (rw c.in-New.is (omega arith)))
