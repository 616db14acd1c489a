use Rattle.record_layout.proofs.Apart.{header_in-alone, forward_in-alone, busy_in-alone}
use Rattle.record_layout.proofs.laws.first_words_are_distinct.Goals as goal

pub returns : goal.returns
returns c = record { headers = header_in-alone; forwards = forward_in-alone; busy = busy_in-alone }
