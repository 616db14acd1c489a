-- How a run went, by what is seen of its mutators.
use Rattle.std.specs.Prelude.{Bool, true, false, List, Option, Some, if◌then◌else◌}
use Rattle.std.specs.Option.{is_some}
use Rattle.std.specs.List.{list_all}
use Rattle.plain_state.specs.declared.end.End.{End}
use Rattle.plain_state.specs.declared.end.End.TheVariants as ends
use Rattle.plain_heap.specs.Print.{Seen}
use Rattle.ael_jobs.specs.declared.status.Status.{Status}
use Rattle.ael_jobs.specs.declared.status.Status.TheVariants.{Done, Ended, StepsOut}

abbrev pub is_halt : Option End → Bool
is_halt (Some ends.Halt) = true
is_halt _ = false

abbrev pub has_ended : Seen → Bool
has_ended k = is_some k.end

abbrev pub has_halted : Seen → Bool
has_halted k = is_halt k.end

-- how a run went, by the ends of its mutators
abbrev pub status_seen : List Seen → Status
status_seen ks = if list_all has_ended ks then (if list_all has_halted ks then Done else Ended) else StepsOut
