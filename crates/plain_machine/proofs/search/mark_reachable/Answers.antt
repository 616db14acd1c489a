use Rattle.std.proofs.Common.{ap, ◌∙◌}
use Rattle.plain_machine.specs.Search.{Search}
use Rattle.plain_machine.proofs.Found.Closed.{search-begins, search-falls, search-goes_on, search-is_done}
use Rattle.plain_machine.proofs.search.mark_reachable.Goals as goal

pub loop-identity-init : goal.loop-identity-init
loop-identity-init c = search-begins _ c.follow_roots.new.self (rw (c.in_ok-new.ensures, c.records.ensures, c.new-2.ensures.items) at c.in_ok-follow_roots.ensures)

pub loop-identity-smaller : goal.loop-identity-smaller
loop-identity-smaller c = search-falls _ c.loop-identity.search c.in-Some.identity c.next.new.self _ c.loop-identity.invariant c.in-Some.ensures.work c.in-Some.ensures.marks c.in_ok-follow_record.ensures

pub loop-identity-preserved : goal.loop-identity-preserved
loop-identity-preserved c = search-goes_on _ c.loop-identity.search c.in-Some.identity c.next.new.self _ c.loop-identity.invariant c.in-Some.ensures.work c.in-Some.ensures.marks c.in_ok-follow_record.ensures

pub returns : goal.returns
returns c = search-is_done _ c.loop-identity.search _ c.loop-identity.invariant c.in_default.ensures.work (ap (λ (s : Search). s.marks) c.search-2.view_is ∙ c.in_default.ensures.marks)
