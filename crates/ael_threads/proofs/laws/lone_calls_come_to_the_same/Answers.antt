use Rattle.ael_threads.proofs.Alone.LoneCalls.{lone_calls_come_to_the_same}
use Rattle.ael_threads.proofs.laws.lone_calls_come_to_the_same.Goals as goal

pub returns : goal.returns
returns c = lone_calls_come_to_the_same
