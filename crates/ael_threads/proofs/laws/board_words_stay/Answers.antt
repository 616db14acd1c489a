use Rattle.ael_threads.proofs.Unread.BoardWords.{board_words_stay, last_put_stands}
use Rattle.ael_threads.proofs.laws.board_words_stay.Goals as goal

pub returns : goal.returns
returns c = record { stays = board_words_stay; put = last_put_stands }
