use Rattle.dump_text.proofs.Answering.{is_found, is_only, names_wrong}
use Rattle.dump_text.proofs.reading.read.Goals as goal

pub returns : goal.returns
returns c = record {
  found = is_found c.args.bytes.now c.all.result c.all.ensures;
  only = is_only c.args.bytes.now c.all.result c.all.ensures;
  first_wrong = names_wrong c.args.bytes.now c.all.result c.all.ensures;
}
