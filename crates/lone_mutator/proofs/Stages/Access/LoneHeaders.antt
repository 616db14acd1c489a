-- The load of a header by a lone mutator: it is one, and the access goes on by it or is done.
use Rattle.std.proofs.Common.{◌≡◌, ℕ, ◌+◌, ◌-◌, ◌<◌, ◌==◌, Bool, true, false, cond, Result, Ok, Err, Some, sym, ap, subst, ◌∙◌, arith}
use Rattle.heap_words.specs.declared.kind.Kind.{Kind as HeaderKind}
use Rattle.heap_words.specs.declared.kind.Kind.TheVariants as headers
use Rattle.heap_words.specs.Decoded.{decode}
use Rattle.heap_words.specs.Word.{number_word}
use Rattle.plain_state.specs.declared.end.End.{End}
use Rattle.plain_state.specs.State.{Plain}
use Rattle.plain_heap.specs.Action.{in_record}
use Rattle.atom_store.specs.declared.step.Step.TheVariants.{Load}
use Rattle.atom_store.specs.declared.reply.Reply.TheVariants as replies
use Rattle.space_map.specs.Spaces.{page_of}
use Rattle.space_map.specs.Table.{HeapWord, place_of}
use Rattle.heap_state.specs.Configuration.{Configuration, Stands, table}
use Rattle.heap_state.specs.Invariant.Ghost.{header_kind}
use Rattle.heap_state.specs.Memory.Table.{word_in}
use Rattle.record_access.specs.declared.access_stage.AccessStage.TheVariants.{LoadsHeader, LooksAtCount, LoadsCount}
use Rattle.record_access.specs.declared.field_access.FieldUse.{FieldUse}
use Rattle.record_access.specs.declared.field_access.FieldUse.TheVariants as field_uses
use Rattle.record_access.specs.declared.field_access.Role.{Role}
use Rattle.record_access.specs.declared.field_access.Role.TheVariants as roles
use Rattle.record_access.specs.declared.mixed_access.MixedAccess.{MixedAccess}
use Rattle.record_access.specs.declared.record_access.RecordAccess.{RecordAccess}
use Rattle.record_access.specs.declared.record_access.RecordUse.{RecordUse}
use Rattle.record_access.specs.declared.record_access.RecordUse.TheVariants as record_uses
use Rattle.record_access.specs.Access.{Answered, GoesTo, answered, by_kind, counted_by, counting, field_of, may_store, read_header, used_by}
use Rattle.gc_worker.specs.Workers.Held.{Held}
use Rattle.gc_worker.proofs.Stages.Access.NextAccessStage.{own, at}
use Rattle.gc_worker.proofs.Stages.Scan.ScannedHeaders.{heap_word}
use Rattle.lone_mutator.specs.Bound.{guard_cost}
use Rattle.lone_mutator.specs.Law.{IsAlone, StepsLower}
use Rattle.lone_mutator.specs.Potential.{access_left}
use Rattle.lone_mutator.proofs.Steps.Owed.{loads, wants}
use Rattle.lone_mutator.proofs.Stages.Access.LonePageLooks.{leads}
use Rattle.lone_mutator.proofs.Stages.Access.PaidOutcomes.{Owed, brings, fails, goes, loads_it, stores_it, wait_for}

module _ (c : Configuration) (p : Plain) (s : Stands c p) (y : Held) (r : RecordAccess) (a : IsAlone c (at c p s 0 y (LoadsHeader r))) where
  abbrev Owes : Answered → Type 0
  Owes z = Owed c p s y (LoadsHeader r) a (table c) z

  -- ---- by what is done with the record

  -- the header is read before the wait for a target
  pays_wait : (role : Role) → 3 + wait_for c p s y (LoadsHeader r) a role + guard_cost < access_left c.pages (own c p s 0 y (LoadsHeader r))
  pays_wait roles.Field = omega arith
  pays_wait _ = omega arith

  uses_by : (role : Role) (len : ℕ) (usage : RecordUse) → Owes (used_by r role len usage)
  uses_by role len (record_uses.TellsLength into) = brings c p s y (LoadsHeader r) a (table c) into (number_word len) a.remembers.quiet
  uses_by role len (record_uses.Loads into) = loads_it c p s y (LoadsHeader r) a (field_of r.at 1 role r.value) (pays_wait role) into (in_record len r.value)
  uses_by role len (record_uses.Stores new) = stores_it c p s y (LoadsHeader r) a (field_of r.at 1 role r.value) (pays_wait role) (field_uses.Stores new) (may_store role new (in_record len r.value))
  uses_by role len (record_uses.Compares e) = stores_it c p s y (LoadsHeader r) a (field_of r.at 1 role r.value) (pays_wait role) (field_uses.Compares e) (may_store role e.new (in_record len r.value))

  -- a mixed record's count is loaded, if it has the value
  count_by : (m : MixedAccess) (b : Bool) → Owes (GoesTo (cond b (LoadsCount m) (LooksAtCount m)))
  count_by m true = goes c p s y (LoadsHeader r) a (LoadsCount m) tt (omega arith)
  count_by m false = goes c p s y (LoadsHeader r) a (LooksAtCount m) tt (omega arith)

  counts_by : (usage : FieldUse) (o : Result ℕ End) → Owes (counting r.at usage o)
  counts_by usage (Ok v) = count_by (record { at = r.at; value = v; usage = usage }) (page_of r.at == page_of (r.at + 1))
  counts_by usage (Err why) = fails c p s y (LoadsHeader r) a (table c) why

  uses_mixed : (len : ℕ) (usage : RecordUse) → Owes (counted_by r len usage)
  uses_mixed len (record_uses.TellsLength into) = brings c p s y (LoadsHeader r) a (table c) into (number_word len) a.remembers.quiet
  uses_mixed len (record_uses.Loads into) = counts_by (field_uses.Loads into) (in_record len r.value)
  uses_mixed len (record_uses.Stores new) = counts_by (field_uses.Stores new) (in_record len r.value)
  uses_mixed len (record_uses.Compares e) = counts_by (field_uses.Compares e) (in_record len r.value)

  by_head : (head : HeaderKind) (len : ℕ) → Owes (by_kind r head len)
  by_head headers.Fields len = uses_by roles.Field len r.usage
  by_head headers.Raw len = uses_by roles.Number len r.usage
  by_head headers.Mixed len = uses_mixed (len - 1) r.usage
  by_head headers.Weak len = uses_by roles.Target (len - 1) r.usage

  -- ---- the load

  pub loads_header : StepsLower c (at c p s 0 y (LoadsHeader r))
  loads_header =
      let inside = a.is.fits.stage.sound.stage.0 in
      let n = a.is.fits.pages in
      let there = leads c p s y r (LoadsHeader r) a inside a.is.fits.task.act a.is.fits.task.executes a.is.fits.task.is in
      let word = word_in c.pages c.words (HeapWord r.at) in
      let reads : answered (own c p s 0 y (LoadsHeader r)) (replies.Value word) ≡ by_kind r (header_kind (s.ghost.kind r.at)) (s.ghost.size r.at - 1) =
      ap (read_header r) (ap decode (sym (heap_word c r.at)) ∙ there.header) in
      wants c p s (at c p s 0 y (LoadsHeader r)) (Load (place_of c.pages (HeapWord r.at))) (ap (λ n. Some (Load (place_of n (HeapWord r.at)))) a.is.fits.pages)
      (loads c p s (at c p s 0 y (LoadsHeader r)) (HeapWord r.at) (omega (arith, inside, n)) (subst Owes (sym reads) (by_head (header_kind (s.ghost.kind r.at)) (s.ghost.size r.at - 1))))
