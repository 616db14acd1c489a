use Rattle.ael_runtime.proofs.BoardCalls.{sure_swap, taken_root, within_board}
use Rattle.ael_runtime.proofs.NumberCalls.{sure_li}
use Rattle.ael_runtime.proofs.local.Local.take.Goals as goal

pub does-requires-clause-sure : goal.does-requires-clause-sure
does-requires-clause-sure g c = sure_li c.args.self.now c.register.result 0

pub does-requires-2-clause-sure : goal.does-requires-2-clause-sure
does-requires-2-clause-sure g c =
    sure_swap c.does.new.self c.register-2.result c.from-2.result (within_board c.args.word c.from.result c.from-2.result c.from.ensures c.from-2.ensures c.if-from-ge-BOARD_WORDS.false)

pub returns-clause-value : goal.returns-clause-value
returns-clause-value g c =
    (taken_root c.args.self.now c.does.new.self c.does-2.new.self c.args.to c.args.word c.from-2.result c.register.result c.register-2.result c.from-2.ensures c.register.ensures c.register-2.ensures
    (within_board c.args.word c.from.result c.from-2.result c.from.ensures c.from-2.ensures c.if-from-ge-BOARD_WORDS.false) c.does.ensures.executed c.does-2.ensures.executed).value

pub returns-clause-empty : goal.returns-clause-empty
returns-clause-empty g c =
    (taken_root c.args.self.now c.does.new.self c.does-2.new.self c.args.to c.args.word c.from-2.result c.register.result c.register-2.result c.from-2.ensures c.register.ensures c.register-2.ensures
    (within_board c.args.word c.from.result c.from-2.result c.from.ensures c.from-2.ensures c.if-from-ge-BOARD_WORDS.false) c.does.ensures.executed c.does-2.ensures.executed).empty

pub returns-clause-effects : goal.returns-clause-effects
returns-clause-effects g c =
    (taken_root c.args.self.now c.does.new.self c.does-2.new.self c.args.to c.args.word c.from-2.result c.register.result c.register-2.result c.from-2.ensures c.register.ensures c.register-2.ensures
    (within_board c.args.word c.from.result c.from-2.result c.from.ensures c.from-2.ensures c.if-from-ge-BOARD_WORDS.false) c.does.ensures.executed c.does-2.ensures.executed).effects
