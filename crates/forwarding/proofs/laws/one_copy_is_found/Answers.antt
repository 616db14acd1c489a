use Rattle.forwarding.proofs.Finding.{follows_forwards, ends_behind_forwards, reads_headers, takes_by_exchange, announces_first, reserves_by_exchange}
use Rattle.forwarding.proofs.laws.one_copy_is_found.Goals as goal

pub returns : goal.returns
returns c = record {
  follows_forwards = follows_forwards;
  ends_behind_forwards = ends_behind_forwards;
  reads_headers = reads_headers;
  takes_by_exchange = takes_by_exchange;
  announces_first = announces_first;
  reserves_by_exchange = reserves_by_exchange;
}
