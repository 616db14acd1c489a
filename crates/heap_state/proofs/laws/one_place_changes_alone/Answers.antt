use Rattle.heap_state.proofs.Workers.Frames.{frames_of_workers}
use Rattle.heap_state.proofs.Puts.{put_same, put_other}
use Rattle.heap_state.proofs.Workers.Teams.{team_changes, sums_by_terms}
use Rattle.heap_state.proofs.laws.one_place_changes_alone.Goals as goal

pub returns : goal.returns
returns c = record {
  functions = λ f place x. record { there = put_same f place x; elsewhere = put_other f place x };
  sums = sums_by_terms;
  teams = team_changes;
  frames = frames_of_workers;
}
