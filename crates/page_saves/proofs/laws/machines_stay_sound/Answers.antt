use Rattle.page_saves.proofs.Staying.{save_stays, guard_stays, round_stays}
use Rattle.page_saves.proofs.laws.machines_stay_sound.Goals as goal

pub returns : goal.returns
returns c = record { saves = save_stays; looks = guard_stays; rounds = round_stays }
