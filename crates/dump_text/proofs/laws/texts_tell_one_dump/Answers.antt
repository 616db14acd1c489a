use Rattle.dump_text.proofs.WholeDump.{one_dump}
use Rattle.dump_text.proofs.laws.texts_tell_one_dump.Goals as goal

pub returns : goal.returns
returns c = one_dump
