use Rattle.std.proofs.Common.{◌≡◌, true, take}
use Rattle.std.specs.List.{list_all, filter_map}
use Rattle.mutator_asm.specs.Item.{item_of}
use Rattle.mutator_asm.specs.Line.{is_item_token}
use Rattle.program_text.specs.Read.{tokens_view}
use Rattle.program_text.proofs.text.line.schedules.Given as goal

abbrev pub invariant-loop-operand : goal.invariant-loop-operand
invariant-loop-operand l = record {
  items : l.items.items ≡ filter_map item_of (tokens_view (take l.operand-index l.operands));
  all : list_all is_item_token (tokens_view (take l.operand-index l.operands)) ≡ true;
}
