use Rattle.ael_runtime.proofs.BoardCalls.{got_root, sure_get, within_board}
use Rattle.ael_runtime.proofs.local.Local.read_shared.Goals as goal

pub does-requires-clause-sure : goal.does-requires-clause-sure
does-requires-clause-sure g c = sure_get c.args.self.now c.register.result c.from-2.result (within_board c.args.word c.from.result c.from-2.result c.from.ensures c.from-2.ensures c.if-from-ge-BOARD_WORDS.false)

pub returns-clause-value : goal.returns-clause-value
returns-clause-value g c =
    (got_root c.args.self.now c.does.new.self c.args.to c.args.word c.from-2.result c.register.result c.from-2.ensures c.register.ensures
    (within_board c.args.word c.from.result c.from-2.result c.from.ensures c.from-2.ensures c.if-from-ge-BOARD_WORDS.false) c.does.ensures.executed).0

pub returns-clause-effects : goal.returns-clause-effects
returns-clause-effects g c =
    (got_root c.args.self.now c.does.new.self c.args.to c.args.word c.from-2.result c.register.result c.from-2.ensures c.register.ensures
    (within_board c.args.word c.from.result c.from-2.result c.from.ensures c.from-2.ensures c.if-from-ge-BOARD_WORDS.false) c.does.ensures.executed).1
