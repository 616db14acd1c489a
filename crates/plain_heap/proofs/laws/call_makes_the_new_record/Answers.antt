use Rattle.plain_heap.proofs.Calls.Rest.{call-makes, new_record-made, call-none, asks-new_record}
use Rattle.plain_heap.proofs.laws.call_makes_the_new_record.Goals as goal

pub returns : goal.returns
returns c = record { made = call-makes; no_other = new_record-made; else_none = call-none; asked = asks-new_record }
