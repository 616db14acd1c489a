use Rattle.lone_mutator.proofs.Runs.Tasks.{tasks_begin}
use Rattle.lone_mutator.proofs.laws.lone_tasks_begin.Goals as goal

pub returns : goal.returns
returns c = tasks_begin
