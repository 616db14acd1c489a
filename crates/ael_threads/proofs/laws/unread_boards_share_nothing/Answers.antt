use Rattle.ael_threads.proofs.Unread.WholeHistory.{unread_boards_share_nothing}
use Rattle.ael_threads.proofs.laws.unread_boards_share_nothing.Goals as goal

pub returns : goal.returns
returns c = unread_boards_share_nothing
