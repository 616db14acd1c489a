use Rattle.std.proofs.Common.{◌≤◌, ◌++◌, length, take, rules, arith}
use Rattle.std.proofs.lemmas.List.{take-append-le}
use Rattle.ael_jobs.proofs.Inputs.Growing.{all_came, few_more, front_more, past_limit}
use Rattle.ael_jobs.proofs.streams.reading.read_all.Goals as goal

pub returns-in_err-extend_from_slice-in-Bytes-clause-bounded : goal.returns-in_err-extend_from_slice-in-Bytes-clause-bounded
returns-in_err-extend_from_slice-in-Bytes-clause-bounded g c = record {
  bytes = c.loop-buf.bytes.items ++ take c.in-Bytes.count c.read.new.buf;
  front = front_more _ _ _ _ _ _ c.loop-buf.invariant.front c.in-Bytes.ensures.bytes.2;
  few = few_more _ _ _ c.min-room.result _ (search (rules, arith)) (search (rules, arith));
}

pub loop-buf-preserved : goal.loop-buf-preserved
loop-buf-preserved g c =
    let within : c.in-Bytes.count ≤ length c.read.new.buf = c.in-Bytes.ensures.bytes.1 in
    record {
      front = rw (c.in_ok-extend_from_slice-in-Bytes.ensures.items, take-append-le) (front_more _ _ _ _ _ _ c.loop-buf.invariant.front c.in-Bytes.ensures.bytes.2);
      within = search (rules, arith);
      steady = search rules;
    }

pub returns-in-End-clause-whole : goal.returns-in-End-clause-whole
returns-in-End-clause-whole g c =
    let ended = c.in-End.ensures.bytes in
    record {
      all = all_came _ _ _ c.loop-buf.invariant.front ended.1;
      within = search (rules, arith);
      ended = rw ended.0 ended.1;
    }

pub returns-in-End-clause-bounded : goal.returns-in-End-clause-bounded
returns-in-End-clause-bounded g c = record {
  bytes = c.loop-buf.bytes.items;
  front = rw c.in-End.ensures.bytes.0 c.loop-buf.invariant.front;
  few = search (rules, arith);
}

pub returns-in-Failed-clause-bounded : goal.returns-in-Failed-clause-bounded
returns-in-Failed-clause-bounded g c = record {
  bytes = c.loop-buf.bytes.items;
  front = rw c.in-Failed.ensures.bytes c.loop-buf.invariant.front;
  few = search (rules, arith);
}

pub returns-clause-too_long : goal.returns-clause-too_long
returns-clause-too_long g c = λ _. past_limit _ _ _ c.loop-buf.invariant.front (search (rules, arith))

pub returns-clause-bounded : goal.returns-clause-bounded
returns-clause-bounded g c = record {
  bytes = c.loop-buf.bytes.items;
  front = c.loop-buf.invariant.front;
  few = search (rules, arith);
}
