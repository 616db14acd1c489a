use Rattle.ael_runtime.proofs.BoardCalls.{put_root, sure_put, within_board}
use Rattle.ael_runtime.proofs.local.Local.share.Goals as goal

pub does-requires-clause-sure : goal.does-requires-clause-sure
does-requires-clause-sure g c = sure_put c.args.self.now c.from-2.result c.register.result (within_board c.args.word c.from.result c.from-2.result c.from.ensures c.from-2.ensures c.if-from-ge-BOARD_WORDS.false)

pub returns-clause-put : goal.returns-clause-put
returns-clause-put g c =
    (put_root c.args.self.now c.does.new.self c.args.from c.args.word c.from-2.result c.register.result c.from-2.ensures c.register.ensures
    (within_board c.args.word c.from.result c.from-2.result c.from.ensures c.from-2.ensures c.if-from-ge-BOARD_WORDS.false) c.does.ensures.executed).0

pub returns-clause-effects : goal.returns-clause-effects
returns-clause-effects g c =
    (put_root c.args.self.now c.does.new.self c.args.from c.args.word c.from-2.result c.register.result c.from-2.ensures c.register.ensures
    (within_board c.args.word c.from.result c.from-2.result c.from.ensures c.from-2.ensures c.if-from-ge-BOARD_WORDS.false) c.does.ensures.executed).1
