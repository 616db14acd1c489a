-- A mutator that makes an access: what is so of it, and how it goes on to the next stage, or to a round for a page that isn't open.
use Rattle.std.proofs.Common.{◌≡◌, ℕ, ◌<◌, ◌≤◌, ◌==◌, Bool, true, false, cond, slice_index, Option, Some, None, is_some, refl, sym, ap, subst, ◌∙◌}
use Rattle.std.proofs.lemmas.Bool.{eqb-true}
use Rattle.std.proofs.lemmas.Option.{same_Some}
use Rattle.plain_state.specs.State.{Plain}
use Rattle.plain_heap.specs.declared.action.Action.{Action}
use Rattle.plain_heap.specs.declared.action.Action.TheVariants.{Loads, Stores, Compares}
use Rattle.plain_heap.specs.Call.{may_hold}
use Rattle.atom_store.specs.declared.reply.Reply.{Reply}
use Rattle.atom_store.specs.declared.reply.Reply.TheVariants.{Value}
use Rattle.space_map.specs.declared.page_word.PageWord.TheVariants.{Open}
use Rattle.space_map.specs.Spaces.{Layout, board_page, page_of}
use Rattle.fault_duty.specs.declared.caller.Caller.TheVariants as callers
use Rattle.fault_duty.specs.Duty as duty
use Rattle.fault_duty.specs.Soundness.{IsSoundRound}
use Rattle.plain_state.specs.declared.end.End.{End}
use Rattle.heap_state.specs.Configuration.{Configuration, Stands, table, era, memory, team}
use Rattle.heap_state.specs.Invariant.Inductive as inductive
use Rattle.heap_state.specs.Invariant.Parts.Knowledge as parts
use Rattle.heap_state.specs.Known.{Known, is_running}
use Rattle.heap_state.specs.Known as workers
use Rattle.heap_laws.specs.Fields.Held.{MayHold, MutatorGoesOn, going_on}
use Rattle.heap_laws.specs.Steps.{Ready}
use Rattle.heap_laws.proofs.Fields.RunningMutators.{runs, timely}
use Rattle.heap_laws.proofs.Fields.Laws.{goes_on_so, mutators_learn}
use Rattle.heap_laws.proofs.Fields.Shown.{registers_are_held}
use Rattle.record_access.specs.declared.access.Access.{Access}
use Rattle.record_access.specs.declared.access_stage.AccessStage.{AccessStage}
use Rattle.record_access.specs.declared.access_stage.AccessStage.TheVariants.{LooksAtField, LoadsField, StoresField, LoadsForCas, ExchangesField, StoresBoard, SwapsBoard}
use Rattle.record_access.specs.declared.accessed.Accessed.TheVariants.{Faults}
use Rattle.record_access.specs.declared.field_access.FieldAccess.{FieldAccess}
use Rattle.record_access.specs.declared.field_access.FieldExchange.{FieldExchange}
use Rattle.record_access.specs.declared.field_access.FieldUse.{FieldUse}
use Rattle.record_access.specs.declared.field_access.FieldUse.TheVariants as field_uses
use Rattle.record_access.specs.declared.field_access.Role.{Role}
use Rattle.record_access.specs.declared.field_access.Role.TheVariants as roles
use Rattle.gc_worker.specs.declared.stage.back.Back.TheVariants.{ToAccess, ToTarget}
use Rattle.gc_worker.specs.declared.stage.Stage.TheVariants.{Accesses, Serves}
use Rattle.record_access.specs.Access.{Answered, GoesTo, WaitsAt, Comes, FitsFieldUse, FitsStage, IsHeapAddress, answered, answered_at, field_at, goes_at, goes_by, goes_to_field, is_at_target, is_target, kind_of, read_before, to_field, turn_by, uses_field, writes_on}
use Rattle.gc_worker.specs.Steps.Access.{IsFieldOfAction}
use Rattle.record_access.specs.Access as access
use Rattle.gc_worker.specs.Workers.Fits.{ExecutesAction, Fits, IsAccessing, IsFaulting}
use Rattle.gc_worker.specs.Steps.Goes.{Is, Goes}
use Rattle.gc_worker.specs.Workers.Held.{Held, at_stage}
use Rattle.gc_worker.specs.Workers.Knows.{knows, access_at, known_access, known_at, opened_at}
use Rattle.gc_worker.specs.Steps.Turned.{back_to, guards_access, serves_target, turned_access, told_access}
use Rattle.gc_worker.proofs.Workers.ResumedMutators.{targets_fit}
use Rattle.gc_worker.proofs.Workers.Guarded.{guards_access_fits, guards_access_known}
use Rattle.gc_worker.proofs.Workers.KeptParts.{refit, page_count}
use Rattle.gc_worker.proofs.Words.RowSteps.{Law, becomes, prepared}

pub no_end_by : (o : Option End) → is_some o ≡ false → o ≡ None
no_end_by None e = refl
no_end_by (Some end) e = absurd (cc)

-- an access faults where it looks at a page, and not where it writes
faults_at_look : (l : Layout) (epoch : ℕ) (stage : AccessStage) (reply : Reply) (page : ℕ) → answered_at l epoch stage reply ≡ Comes (Faults page) → writes_on l stage ≡ None
faults_at_look l epoch (StoresField f new) (Value _) page comes = absurd (cc)
faults_at_look l epoch (StoresField f new) _ page comes = absurd (cc)
faults_at_look l epoch (ExchangesField f e old) (Value _) page comes = absurd (cc)
faults_at_look l epoch (ExchangesField f e old) _ page comes = absurd (cc)
faults_at_look l epoch (StoresBoard word new) (Value _) page comes = absurd (cc)
faults_at_look l epoch (StoresBoard word new) _ page comes = absurd (cc)
faults_at_look l epoch (SwapsBoard s old) (Value _) page comes = absurd (cc)
faults_at_look l epoch (SwapsBoard s old) _ page comes = absurd (cc)
faults_at_look l epoch stage reply page comes = refl

-- nothing is stored in a cell
no_store : (act : Action) (f : FieldAccess) (new : ℕ) → f.role ≡ roles.Target → IsFieldOfAction act f (field_uses.Stores new) → ⊥
no_store (Stores i x v) f new is_role of = let e = ap (λ (role : Role). may_hold (kind_of role) x v) (sym is_role) ∙ of.1 in cc
no_store (Loads d i x) f new is_role of = let e = of.1 in cc
no_store (Compares d i x u v) f new is_role of = let e = of.2 in cc
no_store _ f new is_role of = absurd of

no_exchange : (act : Action) (f : FieldAccess) (e : FieldExchange) → f.role ≡ roles.Target → IsFieldOfAction act f (field_uses.Compares e) → ⊥
no_exchange (Compares d i x u v) f e is_role of = let e = ap (λ (role : Role). may_hold (kind_of role) x v) (sym is_role) ∙ of.1 in cc
no_exchange (Loads d i x) f e is_role of = let e = of.1 in cc
no_exchange (Stores i x v) f e is_role of = let e = of.2 in cc
no_exchange _ f e is_role of = absurd of

module _ (c : Configuration) (p : Plain) (s : Stands c p) (k : ℕ) (y : Held) where
  abbrev pub own : AccessStage → Access
  own stage = record { spaces = y.layout; epoch = y.epoch; stage = stage }

  abbrev pub at : AccessStage → Held
  at stage = record y { stage = Accesses (own stage) }

  module _ (stage : AccessStage) (is : Is c k (at stage)) where
    abbrev pub x : Held
    x = at stage

    pub ready : Ready (era c) (memory c) (team c) s.ghost k
    ready = prepared c p s k x is

    me : inductive.Knows (era c) (memory c).gate (memory c).traced (memory c).front (memory c).low (memory c).old_front (memory c).old_low (memory c).old_owed s.ghost (memory c).page (memory c).cross (memory c).announced (memory c).heap k ((team c).worker k)
    me = s.invariant.workers k is.below

    pub running : is_running ((team c).worker k).post ≡ true
    running = ap (λ (w : Known). is_running w.post) is.as_known

    pub present : y.epoch ≡ (era c).epoch
    present = ap (λ (w : Known). w.epoch) (sym is.as_known) ∙ me.timely.running running

    pub no_end : y.account.end ≡ None
    no_end = no_end_by y.account.end is.fits.end

    pub held : (j : ℕ) → j < 8 → MayHold (era c) s.ghost.size s.ghost.writer (slice_index y.registers j)
    held j small =
        let w = (team c).worker k in
        subst (λ (u : Known). MayHold (era c) s.ghost.size s.ghost.writer (u.registers j)) is.as_known
        (registers_are_held (era c) (memory c) (team c) s.ghost k j ready (runs w.post running).mutator (timely (era c) w running me.timely.running)
        (ap (λ (u : Known). u.account.end) is.as_known ∙ no_end) small)

    -- what it knew is so
    pub knew_access : (f : workers.Access) → access_at stage ≡ Some f → parts.Accesses (era c) s.ghost.size s.ghost.writer s.ghost.kind f
    knew_access f e = me.access f (ap (λ (w : Known). w.access) is.as_known ∙ e)

    pub knew_opened : (page : ℕ) → opened_at y.layout stage ≡ Some page → (table c).page page ≡ Open (era c).epoch
    knew_opened page e = (me.opened page (ap (λ (w : Known). w.opened) is.as_known ∙ e)).1

    -- ---- the next stage: before a word is written, the look at its page

    -- whether it has seen its epoch traced or not
    forgetting : (seen : Bool) → (seen ≡ true → is_at_target stage ≡ true) → (next : AccessStage)
        → ((f : workers.Access) → access_at next ≡ Some f → parts.Accesses (era c) s.ghost.size s.ghost.writer s.ghost.kind f)
        → ((page : ℕ) → opened_at y.layout next ≡ Some page → (table c).page page ≡ Open (era c).epoch)
        → Law c p s k x None (record (knows (at next)) { traced_seen = seen }) s.ghost
    forgetting seen saw next accesses opens =
        let w = (team c).worker k in
        let then : Known = record (knows (at next)) { traced_seen = seen } in
        let goes : MutatorGoesOn (era c) (memory c) s.ghost (knows x) then =
        subst (λ (u : Known). MutatorGoesOn (era c) (memory c) s.ghost u (going_on u y.account (λ r. slice_index y.registers r) (access_at next) (opened_at y.layout next) seen)) is.as_known
        (goes_on_so (era c) (memory c) (team c) s.ghost k y.account (λ r. slice_index y.registers r) (access_at next) (opened_at y.layout next) seen ready
        (ap (λ (u : Known). u.account.serial) (sym is.as_known)) accesses opens (λ _ j small. held j small) (λ e. ap (λ (u : Known). u.traced_seen) is.as_known ∙ saw e)) in
        mutators_learn (era c) (memory c) (team c) s.ghost k then ready running (rw is.as_known goes)
        (ap (λ (u : Known). u.account) (sym is.as_known)) (ap (λ (u : Known). u.registers) (sym is.as_known))

    pub learns : (next : AccessStage) → (is_at_target next ≡ true → is_at_target stage ≡ true)
        → ((f : workers.Access) → access_at next ≡ Some f → parts.Accesses (era c) s.ghost.size s.ghost.writer s.ghost.kind f)
        → ((page : ℕ) → opened_at y.layout next ≡ Some page → (table c).page page ≡ Open (era c).epoch) → Law c p s k x None (knows (at next)) s.ghost
    learns next saw accesses opens = forgetting (is_at_target next) saw next accesses opens

    pub next_fits : (next : AccessStage) → IsAccessing y.account y.registers y.task next → FitsStage y.layout.pages next → Fits c.pages c.mutators k (at next)
    next_fits next task fits =
        refit c.pages c.mutators k x is.fits (Accesses (own next)) is.fits.end is.fits.side task
        (record { layout = refl; epoch = refl; sound = record { pages = page_count c.pages c.mutators k x is.fits; stage = fits } })

    pub goes_to : (next : AccessStage) (reply : Reply) → answered (own stage) reply ≡ GoesTo next → Law c p s k x None (knows (at next)) s.ghost
        → IsAccessing y.account y.registers y.task next → FitsStage y.layout.pages next → access.AccessTakes stage reply → Goes c p s k None x reply
    goes_to next reply e law task fits takes =
        becomes c p s k x None reply (at_stage y (guards_access y (own next))) s.ghost (ap (λ (r : Answered). turned_access x (goes_by (own stage) r) (turn_by r)) e) is.below
        (subst (λ (w : Known). Law c p s k x None w s.ghost) (sym (guards_access_known y (own next))) law)
        (ap (λ (r : Answered). told_access y.task (turn_by r)) e) refl takes (guards_access_fits c.pages c.mutators k y (own next) (next_fits next task fits))

    -- ---- it waits for its epoch to be traced

    -- the round goes back to this access
    abbrev waiting : AccessStage → Held
    waiting next = at_stage y (serves_target y (own next))

    pub waits_at : (next : AccessStage) (reply : Reply) → answered (own stage) reply ≡ WaitsAt next → is_at_target next ≡ true
        → ((f : workers.Access) → access_at next ≡ Some f → parts.Accesses (era c) s.ghost.size s.ghost.writer s.ghost.kind f)
        → ((page : ℕ) → opened_at y.layout next ≡ Some page → (table c).page page ≡ Open (era c).epoch)
        → IsAccessing y.account y.registers y.task next → FitsStage y.layout.pages next → access.AccessTakes stage reply → Goes c p s k None x reply
    waits_at next reply e target accesses opens task fits takes =
        becomes c p s k x None reply (waiting next) s.ghost (ap (λ (r : Answered). turned_access x (goes_by (own stage) r) (turn_by r)) e) is.below
        (forgetting false (λ seen. absurd (let e = seen in cc)) next accesses opens)
        (ap (λ (r : Answered). told_access y.task (turn_by r)) e) refl takes
        (targets_fit c.pages c.mutators k x is.fits is.fits.end is.fits.side (own next)
        (record { layout = refl; epoch = refl; sound = record { pages = page_count c.pages c.mutators k x is.fits; stage = fits } }, target) task)

    -- what it then accesses is this alone
    pub it_only : (f g : workers.Access) → parts.Accesses (era c) s.ghost.size s.ghost.writer s.ghost.kind f → Some f ≡ Some g → parts.Accesses (era c) s.ghost.size s.ghost.writer s.ghost.kind g
    it_only f g allowed e = subst (parts.Accesses (era c) s.ghost.size s.ghost.writer s.ghost.kind) (same_Some f g e) allowed

    -- a word on a page that was found open already
    pub same_page : (last at : ℕ) → opened_at y.layout stage ≡ Some (page_of last) → (page_of last == page_of at) ≡ true → (page : ℕ) → Some (page_of at) ≡ Some page → (table c).page page ≡ Open (era c).epoch
    same_page last at found same page e = knew_opened page (found ∙ ap Some (eqb-true (page_of last) (page_of at) same) ∙ e)

    -- ---- a field, behind the word that was read last

    module _ (act : Action) (executes : ExecutesAction y.account y.registers y.task act) (f : FieldAccess) (reply : Reply) (allowed : parts.Accesses (era c) s.ghost.size s.ghost.writer s.ghost.kind (known_access f))
        (in_heap : IsHeapAddress y.layout.pages (field_at f)) (found : opened_at y.layout stage ≡ Some (page_of (read_before f))) (takes : access.AccessTakes stage reply) where
      -- the page of the word that was read last is that of this one, or not
      same_then : (page_of (read_before f) == page_of (field_at f)) ≡ true → (page : ℕ) → Some (page_of (field_at f)) ≡ Some page → (table c).page page ≡ Open (era c).epoch
      same_then same = same_page (read_before f) (field_at f) found same

      other_then : (page : ℕ) → Some (page_of (read_before f)) ≡ Some page → (table c).page page ≡ Open (era c).epoch
      other_then page e = knew_opened page (found ∙ e)

      accesses_it : (g : workers.Access) → Some (known_access f) ≡ Some g → parts.Accesses (era c) s.ghost.size s.ghost.writer s.ghost.kind g
      accesses_it g e = it_only (known_access f) g allowed e

      field_by : is_target f.role ≡ false → (usage : FieldUse) (b : Bool) → (page_of (read_before f) == page_of (field_at f)) ≡ b → IsFieldOfAction act f usage → FitsFieldUse usage
          → answered (own stage) reply ≡ GoesTo (cond b (uses_field f usage) (LooksAtField f usage)) → Goes c p s k None x reply
      field_by other (field_uses.Loads into) true same of fits comes =
          goes_to (LoadsField f into) reply comes (learns (LoadsField f into) (λ e. absurd (let z = sym other ∙ e in cc)) accesses_it (same_then same))
          (record { act = act; executes = executes; is = of }) (in_heap, fits) takes
      field_by other (field_uses.Stores new) true same of fits comes =
          goes_to (StoresField f new) reply comes (learns (StoresField f new) (λ e. absurd (let z = e in cc)) accesses_it (same_then same))
          (record { act = act; executes = executes; is = of }) in_heap takes
      field_by other (field_uses.Compares e) true same of fits comes =
          goes_to (LoadsForCas f e) reply comes (learns (LoadsForCas f e) (λ e. absurd (let z = e in cc)) accesses_it (same_then same))
          (record { act = act; executes = executes; is = of }) (in_heap, fits) takes
      field_by other usage false apart of fits comes =
          goes_to (LooksAtField f usage) reply comes (learns (LooksAtField f usage) (λ e. absurd (let z = sym other ∙ e in cc)) accesses_it other_then)
          (record { act = act; executes = executes; is = of }) (in_heap, fits) takes

      -- the target of a cell
      target_by : f.role ≡ roles.Target → (usage : FieldUse) (b : Bool) → (page_of (read_before f) == page_of (field_at f)) ≡ b → IsFieldOfAction act f usage → FitsFieldUse usage
          → answered (own stage) reply ≡ WaitsAt (cond b (uses_field f usage) (LooksAtField f usage)) → Goes c p s k None x reply
      target_by is_role (field_uses.Loads into) true same of fits comes =
          waits_at (LoadsField f into) reply comes (ap is_target is_role) accesses_it (same_then same) (record { act = act; executes = executes; is = of }) (in_heap, fits) takes
      target_by is_role (field_uses.Stores new) true same of fits comes = absurd (no_store act f new is_role of)
      target_by is_role (field_uses.Compares e) true same of fits comes = absurd (no_exchange act f e is_role of)
      target_by is_role usage false apart of fits comes =
          waits_at (LooksAtField f usage) reply comes (ap is_target is_role) accesses_it other_then (record { act = act; executes = executes; is = of }) (in_heap, fits) takes

      role_by : (usage : FieldUse) → IsFieldOfAction act f usage → FitsFieldUse usage → (role : Role) → f.role ≡ role → answered (own stage) reply ≡ goes_at role (goes_to_field f usage)
          → Goes c p s k None x reply
      role_by usage of fits roles.Field is_role comes = field_by (ap is_target is_role) usage (page_of (read_before f) == page_of (field_at f)) refl of fits comes
      role_by usage of fits roles.Number is_role comes = field_by (ap is_target is_role) usage (page_of (read_before f) == page_of (field_at f)) refl of fits comes
      role_by usage of fits roles.Target is_role comes = target_by is_role usage (page_of (read_before f) == page_of (field_at f)) refl of fits comes

      pub goes_on_to_field : (usage : FieldUse) → IsFieldOfAction act f usage → FitsFieldUse usage → answered (own stage) reply ≡ to_field usage f → Goes c p s k None x reply
      goes_on_to_field usage of fits comes = role_by usage of fits f.role refl comes

    -- ---- a fault

    abbrev faulted : ℕ → Held
    faulted page = at_stage x (Serves (duty.begun y.layout (callers.Faulted page) y.epoch y.number) (back_to (own stage)))

    fault_known : (page : ℕ) (target : Bool) → is_at_target stage ≡ target
        → known_at y (Serves (duty.begun y.layout (callers.Faulted page) y.epoch y.number) (cond target (ToTarget (own stage)) (ToAccess (own stage)))) ≡ record (knows x) { traced_seen = false }
    fault_known page true target = refl
    fault_known page false target = refl

    fault_sound : (page : ℕ) → page ≤ board_page y.layout.pages → IsSoundRound (duty.begun y.layout (callers.Faulted page) y.epoch y.number)
    fault_sound page within =
        record { pages = page_count c.pages c.mutators k x is.fits; caller = within; epoch = is.fits.epoch; worker = rw is.fits.number is.fits.few; stage = tt }

    fault_fits : (page : ℕ) (target : Bool) → is_at_target stage ≡ target → writes_on y.layout stage ≡ None → page ≤ board_page y.layout.pages → IsFaulting x page
        → Fits c.pages c.mutators k (at_stage x (Serves (duty.begun y.layout (callers.Faulted page) y.epoch y.number) (cond target (ToTarget (own stage)) (ToAccess (own stage)))))
    fault_fits page true target none within faulting =
        refit c.pages c.mutators k x is.fits (Serves (duty.begun y.layout (callers.Faulted page) y.epoch y.number) (ToTarget (own stage))) is.fits.end is.fits.side is.fits.task (
          record { layout = refl; worker = refl; caller = faulting; epoch = refl; going = tt; sound = fault_sound page within },
          (is.fits.stage, target),
        )
    fault_fits page false target none within faulting =
        refit c.pages c.mutators k x is.fits (Serves (duty.begun y.layout (callers.Faulted page) y.epoch y.number) (ToAccess (own stage))) is.fits.end is.fits.side is.fits.task (
          record { layout = refl; worker = refl; caller = faulting; epoch = refl; going = tt; sound = fault_sound page within },
          (is.fits.stage, none, target),
        )

    pub goes_faulting : (page : ℕ) (reply : Reply) → answered (own stage) reply ≡ Comes (Faults page) → page ≤ board_page y.layout.pages → IsFaulting x page → access.AccessTakes stage reply
        → Goes c p s k None x reply
    goes_faulting page reply e within faulting takes =
        becomes c p s k x None reply (faulted page) s.ghost (ap (λ (r : Answered). turned_access x (goes_by (own stage) r) (turn_by r)) e) is.below
        (subst (λ (w : Known). Law c p s k x None w s.ghost) (sym (fault_known page (is_at_target stage) refl))
        (forgetting false (λ seen. absurd (let e = seen in cc)) stage knew_access knew_opened))
        (ap (λ (r : Answered). told_access y.task (turn_by r)) e) refl takes
        (fault_fits page (is_at_target stage) refl (faults_at_look y.layout y.epoch stage reply page e) within faulting)
