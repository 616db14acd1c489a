use Rattle.concordance.proofs.LoneHeaps.DoneCalls.{lone_calls_are_done}
use Rattle.concordance.proofs.LoneHeaps.FullHeaps.{lone_fulls_are_filled}
use Rattle.concordance.proofs.LoneHeaps.LiveWords.{live_is_made}
use Rattle.concordance.proofs.laws.lone_fulls_are_filled.Goals as goal

pub returns : goal.returns
returns c = record { live = live_is_made; done = lone_calls_are_done; full = lone_fulls_are_filled }
