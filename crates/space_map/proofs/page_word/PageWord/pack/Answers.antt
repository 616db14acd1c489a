use Rattle.std.proofs.Common.{refl, arith}
use Rattle.space_map.specs.PageWord.{encode_page}
use Rattle.space_map.proofs.PageWords.{decode_page-encode_page}
use Rattle.space_map.proofs.StateWords.{packed, packed-without_worker}
use Rattle.space_map.proofs.page_word.PageWord.pack.Goals as goal

pub returns-in-Unset-clause-word : goal.returns-in-Unset-clause-word
unfolding encode_page
returns-in-Unset-clause-word c = rw c.in-Unset.is refl

pub returns-in-Unset-clause-reads_back : goal.returns-in-Unset-clause-reads_back
returns-in-Unset-clause-reads_back c =
    rw (returns-in-Unset-clause-word c) (decode_page-encode_page c.args.self (rw c.in-Unset.is tt))

pub returns-in-Open-clause-word : goal.returns-in-Open-clause-word
unfolding encode_page
returns-in-Open-clause-word c =
    rw (packed-without_worker 1 c.from.result (omega arith) (omega arith), c.in-Open.is) (omega arith)

pub returns-in-Open-clause-reads_back : goal.returns-in-Open-clause-reads_back
returns-in-Open-clause-reads_back c =
    rw (returns-in-Open-clause-word c) (decode_page-encode_page c.args.self (rw c.in-Open.is (omega arith)))

pub returns-in-Scanning-clause-word : goal.returns-in-Scanning-clause-word
unfolding encode_page
returns-in-Scanning-clause-word c =
    let worker = c.from-in-Scanning.result in
    let epoch = c.from-in-Scanning-2.result in
    rw (packed 2 worker epoch (omega arith) (omega arith) (omega arith), c.in-Scanning.is) (omega arith)

pub returns-in-Scanning-clause-reads_back : goal.returns-in-Scanning-clause-reads_back
returns-in-Scanning-clause-reads_back c =
    rw (returns-in-Scanning-clause-word c) (decode_page-encode_page c.args.self (rw c.in-Scanning.is (omega arith, omega arith)))
