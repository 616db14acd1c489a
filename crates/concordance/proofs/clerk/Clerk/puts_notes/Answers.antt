use Rattle.std.proofs.Common.{◌<◌, ℕ, sym, subst}
use Rattle.plain_state.specs.declared.sizes.TheConstants.{BOARD_WORDS}
use Rattle.concordance.proofs.Working.PutNotes.{put_begins, put_not_end}
use Rattle.concordance.proofs.clerk.Clerk.puts_notes.Goals as goal

pub call-requires-clause-may_begin : goal.call-requires-clause-may_begin
call-requires-clause-may_begin g c = put_begins c.from.result (subst (λ (n : ℕ). n < BOARD_WORDS) (sym c.from.ensures) c.requires.word) c.args.self.now.worker.account c.args.self.now.worker.registers

pub unreachable-requires : goal.unreachable-requires
unreachable-requires g c =
    put_not_end c.from.result (subst (λ (n : ℕ). n < BOARD_WORDS) (sym c.from.ensures) c.requires.word) c.args.self.now c.call.new.self c.call.result c.call.ensures.called c.in-Trap.field-0 c.in-Trap.is
