use Rattle.gc_worker.proofs.Stages.Direct.{finds_far, finds_near, load_begins, opens_record, opens_value}
use Rattle.gc_worker.proofs.laws.direct_loads_go_by_stages.Goals as goal

pub returns : goal.returns
returns c = record { begins = load_begins; opens_record = opens_record; finds_near = finds_near; finds_far = finds_far; opens_value = opens_value }
