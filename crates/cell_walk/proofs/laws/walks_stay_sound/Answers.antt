use Rattle.cell_walk.proofs.Sound.{stays_sound}
use Rattle.cell_walk.proofs.laws.walks_stay_sound.Goals as goal

pub returns : goal.returns
returns c = stays_sound
