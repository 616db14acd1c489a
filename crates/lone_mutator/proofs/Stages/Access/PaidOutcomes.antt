-- What an access of a lone mutator comes to, or where it goes on.
use Rattle.std.proofs.Common.{◌≡◌, ℕ, ◌+◌, ◌<◌, ◌≤◌, ◌==◌, inl, Bool, true, false, cond, Option, None, Some, Result, Ok, Err, refl, sym, ap, subst, arith}
use Rattle.plain_state.specs.declared.end.End.{End}
use Rattle.plain_state.specs.State.{Plain}
use Rattle.plain_state.specs.declared.value.Value.{Value}
use Rattle.space_map.specs.Spaces.{page_of}
use Rattle.heap_state.specs.Configuration.{Configuration, Stands, table}
use Rattle.heap_state.specs.Memory.Table.{Table}
use Rattle.record_access.specs.declared.access_stage.AccessStage.{AccessStage}
use Rattle.record_access.specs.declared.access_stage.AccessStage.TheVariants.{LooksAtField, LoadsField}
use Rattle.record_access.specs.declared.accessed.Accessed.TheVariants.{Brings, Stored, Fails}
use Rattle.record_access.specs.declared.field_access.FieldAccess.{FieldAccess}
use Rattle.record_access.specs.declared.field_access.FieldUse.{FieldUse}
use Rattle.record_access.specs.declared.field_access.FieldUse.TheVariants as field_uses
use Rattle.record_access.specs.declared.field_access.Role.{Role}
use Rattle.record_access.specs.declared.field_access.Role.TheVariants as roles
use Rattle.gc_worker.specs.declared.stage.write.Write.TheVariants.{OfAccess}
use Rattle.gc_worker.specs.declared.stage.Stage.{Stage}
use Rattle.gc_worker.specs.declared.stage.Stage.TheVariants.{Accesses}
use Rattle.gc_worker.specs.declared.task.Task.{Task}
use Rattle.record_access.specs.Access.{Answered, GoesTo, WaitsAt, Comes, field_at, goes_at, goes_by, goes_to_field, left_at, loading, read_before, storing, to_field, turn_by, uses_field, with_new, word_as, writes_on}
use Rattle.gc_worker.specs.Workers.Held.{Held, at_stage}
use Rattle.gc_worker.specs.Steps.Turned.{ended, loads, told_access, told_effect, told_end, turned_access, went_on}
use Rattle.gc_worker.proofs.Stages.Access.NextAccessStage.{own, at}
use Rattle.lone_mutator.specs.Bound.{guard_cost, round_cost}
use Rattle.lone_mutator.specs.Law.{IsAlone, Lowers, LowersWhereTold, saves}
use Rattle.lone_mutator.specs.Lone.{AccessStands, NobodyElseAnnounces}
use Rattle.lone_mutator.specs.Potential.{access_left, look_left, wait_left}
use Rattle.lone_mutator.proofs.Steps.ResumedCosts.{goes_writing}

look_left-le : (written : Option ℕ) → look_left written ≤ guard_cost
look_left-le None = omega arith
look_left-le (Some page) = omega arith

module _ (c : Configuration) (p : Plain) (s : Stands c p) (y : Held) (stage : AccessStage) (a : IsAlone c (at c p s 0 y stage)) where
  abbrev x : Held
  x = at c p s 0 y stage

  -- what the step then owes, where the table then is this
  abbrev pub Owed : Table → Answered → Type 0
  Owed after z = LowersWhereTold c.pages (saves c) (table c) after x (turned_access x (goes_by (own c p s 0 y stage) z) (turn_by z)) (told_access y.task (turn_by z))

  pub fails : (after : Table) (why : End) → Owed after (Comes (Fails why))
  fails after why = subst (λ (task : Option Task). LowersWhereTold c.pages (saves c) (table c) after x (ended x why) (told_end task why)) (sym a.is.fits.task.executes.task_is) tt

  pub brings : (after : Table) (into word : ℕ) → NobodyElseAnnounces after.announced false → Owed after (Comes (Brings into word))
  brings after into word quiet = subst (λ (task : Option Task). LowersWhereTold c.pages (saves c) (table c) after x (loads x into word) (told_effect task)) (sym a.is.fits.task.executes.task_is) quiet

  pub stored : (after : Table) → NobodyElseAnnounces after.announced false → Owed after (Comes Stored)
  stored after quiet = subst (λ (task : Option Task). LowersWhereTold c.pages (saves c) (table c) after x (went_on x) (told_effect task)) (sym a.is.fits.task.executes.task_is) quiet

  -- it goes on; where it writes next, it may look at the page first
  pub goes : (next : AccessStage) → AccessStands (table c) y.layout next → left_at next + wait_left c.pages next + guard_cost < access_left c.pages (own c p s 0 y stage)
      → Owed (table c) (GoesTo next)
  goes next stands fewer =
      let then = own c p s 0 y next in
      let look = look_left-le (writes_on y.layout next) in
      goes_writing (λ (z : Stage). Lowers c.pages (saves c) (table c) (table c) x (at_stage x z)) x (OfAccess then) (writes_on y.layout next) (Accesses then)
      (record { remembers = record { began = a.remembers.began; quiet = a.remembers.quiet; stands = stands }; falls = omega (arith, fewer, look) })
      (λ on is.
      let none : look_left (writes_on y.layout next) ≡ 0 = ap look_left is in
      record { remembers = record { began = a.remembers.began; quiet = a.remembers.quiet; stands = (tt, stands) }; falls = omega (arith, fewer, none) })

  -- the target of a cell waits: a round is paid for that finds the epoch traced
  waits : (next : AccessStage) → left_at next + wait_left c.pages next + guard_cost + round_cost c.pages ≤ access_left c.pages (own c p s 0 y stage) → Owed (table c) (WaitsAt next)
  waits next fewer =
      let look = look_left-le (writes_on y.layout next) in
      let n = a.is.fits.pages in
      record {
        remembers = record { began = a.remembers.began; quiet = a.remembers.quiet; stands = (record { untraced = inl tt; found = λ wanted is. absurd (cc) }, tt) };
        falls = omega (arith, fewer, look, n);
      }

  -- ---- a field, behind the word that was read last

  -- what the wait for it costs
  abbrev pub wait_for : Role → ℕ
  wait_for roles.Field = 0
  wait_for roles.Number = 0
  wait_for roles.Target = round_cost c.pages

  module _ (f : FieldAccess) (behind : 3 + wait_for f.role + guard_cost < access_left c.pages (own c p s 0 y stage)) where
    field_by : (usage : FieldUse) (b : Bool) → Owed (table c) (GoesTo (cond b (uses_field f usage) (LooksAtField f usage)))
    field_by (field_uses.Loads into) true = goes (LoadsField f into) tt (omega (arith, behind))
    field_by usage true = goes (uses_field f usage) tt (omega (arith, behind))
    field_by usage false = goes (LooksAtField f usage) tt (omega (arith, behind))

    target_by : f.role ≡ roles.Target → (usage : FieldUse) (b : Bool) → Owed (table c) (WaitsAt (cond b (uses_field f usage) (LooksAtField f usage)))
    target_by is (field_uses.Loads into) true = let wait = ap wait_for is in waits (LoadsField f into) (omega (arith, behind, wait))
    target_by is usage true = let wait = ap wait_for is in waits (uses_field f usage) (omega (arith, behind, wait))
    target_by is usage false = let wait = ap wait_for is in waits (LooksAtField f usage) (omega (arith, behind, wait))

    role_by : (usage : FieldUse) (role : Role) → f.role ≡ role → Owed (table c) (goes_at role (goes_to_field f usage))
    role_by usage roles.Field is = field_by usage (page_of (read_before f) == page_of (field_at f))
    role_by usage roles.Number is = field_by usage (page_of (read_before f) == page_of (field_at f))
    role_by usage roles.Target is = target_by is usage (page_of (read_before f) == page_of (field_at f))

    pub goes_to_it : (usage : FieldUse) → Owed (table c) (to_field usage f)
    goes_to_it usage = role_by usage f.role refl

    pub loads_it : (into : ℕ) (o : Result ℕ End) → Owed (table c) (loading f into o)
    loads_it into (Ok v) = goes_to_it (field_uses.Loads into)
    loads_it into (Err why) = fails (table c) why

    pub stores_it : (usage : FieldUse) (o : Result Value End) → Owed (table c) (storing f usage o)
    stores_it usage (Ok v) = goes_to_it (with_new usage (word_as f.role v))
    stores_it usage (Err why) = fails (table c) why
