use Rattle.heap_audit.proofs.WrongPlaces.AllPlaces.{places_show_all}
use Rattle.heap_audit.proofs.laws.places_show_what_is_represented.Goals as goal

pub returns : goal.returns
returns c = places_show_all
