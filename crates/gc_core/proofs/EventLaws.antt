-- What holds of all events and runs, from the laws of a worker's step.
use Rattle.std.proofs.Common.{refl}
use Rattle.plain_heap.specs.Order.{Story, opening, story_after}
use Rattle.gc_worker.proofs.Between.Beginning.{tasks_may_begin}
use Rattle.gc_worker.proofs.Between.KeptTasks.{workers_go_on}
use Rattle.gc_worker.proofs.Between.Pages.ByClaims.{pages_are_opened_by_claims}
use Rattle.gc_worker.proofs.Between.Pages.Claims.{copied_pages_are_below_low, flips_are_of_traced, traced_pages_are_open}
use Rattle.gc_worker.proofs.Between.OpenedHeap.{heaps_open}
use Rattle.gc_worker.proofs.Between.Readying.{readying_stands}
use Rattle.gc_worker.proofs.Between.StandingHeaps.{what_stands_is_so}
use Rattle.gc_worker.proofs.Between.Wanting.{workers_want}
use Rattle.gc_worker.proofs.Saving.Won.{checkpoints_are_kept}
use Rattle.gc_worker.proofs.StepKeeps.{steps_keep}
use Rattle.gc_worker.proofs.StoriesKeep.{stories_keep}
use Rattle.gc_worker.specs.Laws.Stories.{StoryStands}
use Rattle.gc_core.specs.Core.{CoreState, opening_core}
use Rattle.gc_core.specs.Law.{EventsKeep, EventsMeet, EventsStand, story_in}
use Rattle.gc_core.specs.Run.{Ran, run_from}
use Rattle.gc_core.specs.Whole.{RunsArePlainRuns, RunsFollow, NoPageIsWonTwice, CopiedPagesAreWonOnce, FlipsAreOfTracedCores}
use Rattle.gc_core.proofs.Events.Law as events
use Rattle.gc_core.proofs.Events.OpenedCore.{opening_stands, opening_steady, opening_story, opening_epoch}
use Rattle.gc_core.proofs.Runs.WonPages.{pages_are_won_once}
use Rattle.gc_core.proofs.Runs.CopiedPages.{pages_are_won, flipped_of_traced}
use Rattle.gc_core.proofs.Told.Dumps.{told_represents}
use Rattle.gc_core.proofs.Runs.Stories.{run_law, run_acts, run_full, stands_seen}

pub events_stand : EventsStand
events_stand = events.events_stand steps_keep readying_stands tasks_may_begin workers_go_on workers_want what_stands_is_so

pub events_keep : EventsKeep
events_keep = events.events_keep steps_keep readying_stands tasks_may_begin workers_go_on workers_want what_stands_is_so stories_keep

pub events_meet : EventsMeet
events_meet = events.events_meet steps_keep readying_stands tasks_may_begin workers_go_on workers_want what_stands_is_so

pub runs_are_plain_runs : RunsArePlainRuns
runs_are_plain_runs schedule at n s p lawful for_it cells =
    let story : Story = story_in s lawful p in
    let stands : StoryStands s.heap p lawful.flip = record { stands = events.represented_lawful s p lawful for_it; cells = cells } in
    let r : Ran = run_from schedule at n s in
    let last : Story = story_after s.code s.turns story r.order in
    let law = run_law events_keep schedule at n s story lawful.steady stands in
    let all = what_stands_is_so r.last.heap last.now last.flip law.stands.stands in (
      record {
        lawful = record { steady = law.steady; plain = last.now; flip = last.flip; stands = law.stands.stands };
        flip = refl;
        represents = all.sound.represents;
        kept = events.kept_itself r.last.heap.checkpoints last.now;
        tells = λ room. record { counted = law.stands.stands.stands.size; whole = law.steady.whole; says = checkpoints_are_kept r.last.heap last.now last.flip law.stands.stands room };
        dump = told_represents r.last last.now all.enough all.sound.represents.dump;
        seen = stands_seen what_stands_is_so r.last last.now last.flip law.stands.stands;
        acts = run_acts events_keep schedule at n s story lawful.steady stands;
        full = run_full events_keep schedule at n s story lawful.steady stands;
      },
      law.stands.cells,
    )

pub runs_follow : RunsFollow
runs_follow code items turns config schedule n program size turns_fit few =
    let s : CoreState = opening_core code turns config in
    let story = opening_story heaps_open code items turns config program size turns_fit few in
    let steady = opening_steady heaps_open code items turns config program size turns_fit few in
    (runs_are_plain_runs schedule 0 n s (opening code) (record { steady = steady; plain = opening code; flip = opening code; stands = story.stands })
    (record { represents = (what_stands_is_so s.heap _ _ story.stands).sound.represents; kept = events.kept_itself config.snap (opening code) }) story.cells).0

-- ---- pages and flips

pub no_page_is_won_twice : NoPageIsWonTwice
no_page_is_won_twice schedule at n s l =
    pages_are_won_once steps_keep readying_stands tasks_may_begin events_stand schedule at n s (record { flip = l.flip; now = l.plain }) l.steady l.stands

pub copied_pages_are_won_once : CopiedPagesAreWonOnce
copied_pages_are_won_once code items turns config schedule n program size turns_fit few later =
    let s : CoreState = opening_core code turns config in
    let story : Story = record { flip = opening code; now = opening code } in
    let stands = opening_stands heaps_open code items turns config program size turns_fit few in
    let steady = opening_steady heaps_open code items turns config program size turns_fit few in
    let law = run_law events_keep schedule 0 n s story steady (opening_story heaps_open code items turns config program size turns_fit few) in
    let apart = pages_are_won_once steps_keep readying_stands tasks_may_begin events_stand schedule 0 n s story steady stands in
    pages_are_won pages_are_opened_by_claims readying_stands tasks_may_begin events_stand traced_pages_are_open copied_pages_are_below_low schedule n s story steady stands
    (opening_epoch heaps_open code items turns config program size turns_fit few) apart later _ _ law.stands.stands

pub flips_are_of_traced_cores : FlipsAreOfTracedCores
flips_are_of_traced_cores s w asked l e = flipped_of_traced flips_are_of_traced readying_stands tasks_may_begin s w asked l.plain l.flip l.steady l.stands e
