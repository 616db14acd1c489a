-- A lone mutator opens a page that was scanned, and goes back: what is due before a round is paid.
use Rattle.std.proofs.Common.{◌≡◌, ◌+◌, ◌≤◌, Some, ap, ◌∙◌, arith}
use Rattle.plain_state.specs.State.{Plain}
use Rattle.atom_store.specs.declared.step.Step.TheVariants.{Store}
use Rattle.space_map.specs.declared.page_word.PageWord.TheVariants.{Open}
use Rattle.space_map.specs.PageWord.{encode_page}
use Rattle.space_map.specs.Spaces.{to_space}
use Rattle.space_map.specs.Table.{Page, place_of}
use Rattle.page_scan.specs.Scanning.{Scanning}
use Rattle.page_slots.specs.declared.open_stage.OpenStage.{OpenStage}
use Rattle.page_slots.specs.declared.open_stage.OpenStage.TheVariants.{StoresOpen, Ended}
use Rattle.page_slots.specs.Open.{Opening}
use Rattle.heap_state.specs.Configuration.{Configuration, Stands, table}
use Rattle.heap_state.specs.Memory.Entries.{Entry, PageIs, with_entry}
use Rattle.heap_state.specs.Memory.Table.{Table}
use Rattle.gc_worker.specs.declared.stage.back.Back.{Back}
use Rattle.gc_worker.specs.declared.stage.Stage.TheVariants.{Opens}
use Rattle.gc_worker.specs.Workers.Held.{Held, at_stage}
use Rattle.gc_worker.specs.Steps.Turned.{back_from}
use Rattle.lone_mutator.specs.Law.{Lowers, IsAlone, StepsLower, saves}
use Rattle.lone_mutator.specs.Potential.{again_left, back_left, due_in, left_in, size_in}
use Rattle.lone_mutator.specs.Bound.{round_cost}
use Rattle.lone_mutator.proofs.Stages.Gate.LoneGateCounts.{present}
use Rattle.lone_mutator.proofs.Steps.GoingBack.{past_look, runs}
use Rattle.lone_mutator.proofs.Steps.ResumedCosts.{GoesAt, goes_back}
use Rattle.lone_mutator.proofs.Steps.Owed.{wants, stores}
use Rattle.lone_mutator.proofs.Epochs.Cost.{due_opened, due_le_left}

module _ (c : Configuration) (p : Plain) (s : Stands c p) (y : Held) (o : Opening) (scan : Scanning) (back : Back) where
  module _ (a : IsAlone c (at_stage y (Opens (record o { stage = StoresOpen }) scan back))) where
    abbrev x : Held
    x = at_stage y (Opens (record o { stage = StoresOpen }) scan back)

    abbrev t : Table
    t = table c

    abbrev entry : Entry
    entry = PageIs o.page (Open o.epoch)

    now : o.epoch ≡ t.gate.epoch
    now = a.is.fits.stage.0.epoch ∙ present c p s x a (runs back a.remembers.stands)

    goes : GoesAt c.pages (saves c) (with_entry entry t) (back_from x back) (back_left c.pages (size_in t) x back + again_left c.pages back + due_in c.pages (with_entry entry t))
    goes = goes_back c.pages (saves c) (with_entry entry t) x a.is.fits.pages (a.remembers.began (past_look back a.remembers.stands)) a.remembers.quiet back a.remembers.stands a.is.fits.task

    paid : due_in c.pages (with_entry entry t) ≤ left_in c.pages t + round_cost c.pages
    paid =
        let fewer = due_opened c.pages t.gate.epoch t.traced t.weak_turn (t.area (to_space t.gate.epoch)).owed t.page o.page (Open o.epoch) (ap (λ e. e + 1) now) in
        let before = due_le_left c.pages t.gate.epoch t.traced t.weak_turn (t.area (to_space t.gate.epoch)).owed t.page in
        omega (arith, fewer, before)

    lower : Lowers c.pages (saves c) t (with_entry entry t) x (back_from x back)
    lower = record { remembers = goes.remembers; falls = (let within = goes.within in let less = paid in omega (arith, within, less)) }

    opens_page : StepsLower c x
    opens_page =
        let own = a.is.fits.stage.0 in
        let pages : o.layout.pages ≡ c.pages = ap (λ l. l.pages) own.layout ∙ a.is.fits.pages in
        wants c p s x (Store (place_of c.pages (Page o.page)) (encode_page (Open o.epoch))) (ap (λ n. Some (Store (place_of n (Page o.page)) (encode_page (Open o.epoch)))) pages)
        (stores c p s x entry ((let few = own.sound.page in omega (arith, few, pages)), own.sound.epoch) tt lower)

  by_stage : (stage : OpenStage) → IsAlone c (at_stage y (Opens (record o { stage = stage }) scan back)) → StepsLower c (at_stage y (Opens (record o { stage = stage }) scan back))
  by_stage StoresOpen a = opens_page a
  by_stage (Ended result) a = λ q asked. absurd (let none = asked in cc)

  pub opens : IsAlone c (at_stage y (Opens o scan back)) → StepsLower c (at_stage y (Opens o scan back))
  opens a = by_stage o.stage a
