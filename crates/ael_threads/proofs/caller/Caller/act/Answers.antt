use Rattle.std.proofs.Common.{◌≡◌, ◌∙◌, sym, subst}
use Rattle.gc_worker.specs.Workers.Held.{Held}
use Rattle.ael_threads.specs.declared.view.View.{View}
use Rattle.ael_threads.specs.Seats.{Acts, Heads, Seated, ShowsSeen}
use Rattle.ael_threads.proofs.WholeCalls.Acts.{acts}
use Rattle.ael_threads.proofs.WholeCalls.BetweenSteps.{has_heard_all, moved_heads, still_live}
use Rattle.ael_threads.proofs.caller.Caller.act.Goals as goal

heads_at : (v : View) (x y : Held) → x ≡ y → Heads v.plan y v.hands → Heads v.plan x v.hands
heads_at v x y same heads = subst (λ (z : Held). Heads v.plan z v.hands) (sym same) heads

shows_at : (v : View) (x y : Held) → x ≡ y → ShowsSeen y v → ShowsSeen x v
shows_at v x y same shows = subst (λ (z : Held). ShowsSeen z v) (sym same) shows

pub step-reply-requires-clause-shows : goal.step-reply-requires-clause-shows
step-reply-requires-clause-shows g c = shows_at c.self.inside.seat.me.0 _ _ c.deref_mut-worker.ensures.value c.self.invariant.4

pub invariant_of-self : goal.invariant_of-self
invariant_of-self g c =
    let seat = c.self.inside.seat in (
      c.step-reply.ensures.table.2 ∙ c.self.invariant.0,
      moved_heads _ _ _ _ _ (heads_at seat.me.0 _ _ c.deref_mut-worker.ensures.value c.self.invariant.1) c.step-reply.ensures.moved c.take_look.ensures.state,
      still_live _ _ seat.me.0 c.step-reply.new.seat.me.0 c.step-reply.ensures.table.0 c.step-reply.ensures.moved.plan c.self.invariant.2,
      c.step-reply.ensures.moved.mine,
      shows_at c.step-reply.new.seat.me.0 _ _ c.take_look.ensures.state c.step-reply.ensures.moved.shows,
      has_heard_all _ _ _ _ _ c.step-reply.ensures.moved,
    )

pub returns-in-Some-clause-act : goal.returns-in-Some-clause-act
returns-in-Some-clause-act g c =
    let seat = c.self.inside.seat in
    let value = c.deref_mut-worker.ensures.value in
    let a : Seated = record { table = seat.table_id; worker = c.deref_mut-worker.result.now; knows = seat.me.0 } in
    let b : Seated = record { table = c.step-reply.new.seat.table_id; worker = c.take_look.new.self; knows = c.step-reply.new.seat.me.0 } in
    let same : a ≡ c.args.self.now = (λ i. record { table = seat.table_id; worker = value i; knows = seat.me.0 }) ∙ c.self.view_is in
    subst (λ (z : Seated). Acts z c.take_look.result b) same
    (acts a c.step-reply.result c.take_look.result b c.in-Some.look (heads_at seat.me.0 _ _ value c.self.invariant.1) (c.in-Some.ensures.wanted.1) c.take_look.ensures.tells c.take_look.ensures.state c.step-reply.ensures.moved)

pub invariant_of-self-in_default-want : goal.invariant_of-self-in_default-want
invariant_of-self-in_default-want g c =
    let seat = c.self.inside.seat in
    let value = c.deref_mut-worker.ensures.value in
    (c.self.invariant.0, heads_at seat.me.0 _ _ value c.self.invariant.1, c.self.invariant.2, c.self.invariant.3, shows_at seat.me.0 _ _ value c.self.invariant.4, c.self.invariant.5)

pub step-reply-requires-2-clause-shows : goal.step-reply-requires-2-clause-shows
step-reply-requires-2-clause-shows g c = shows_at c.self.inside.seat.me.0 _ _ c.deref_mut-worker.ensures.value c.self.invariant.4

pub invariant_of-self-2 : goal.invariant_of-self-2
invariant_of-self-2 g c =
    let seat = c.self.inside.seat in (
      c.step-reply-2.ensures.table.2 ∙ c.self.invariant.0,
      moved_heads _ _ _ _ _ (heads_at seat.me.0 _ _ c.deref_mut-worker.ensures.value c.self.invariant.1) c.step-reply-2.ensures.moved c.take.ensures.state,
      still_live _ _ seat.me.0 c.step-reply-2.new.seat.me.0 c.step-reply-2.ensures.table.0 c.step-reply-2.ensures.moved.plan c.self.invariant.2,
      c.step-reply-2.ensures.moved.mine,
      shows_at c.step-reply-2.new.seat.me.0 _ _ c.take.ensures.state c.step-reply-2.ensures.moved.shows,
      has_heard_all _ _ _ _ _ c.step-reply-2.ensures.moved,
    )

pub returns-clause-act : goal.returns-clause-act
returns-clause-act g c =
    let seat = c.self.inside.seat in
    let value = c.deref_mut-worker.ensures.value in
    let a : Seated = record { table = seat.table_id; worker = c.deref_mut-worker.result.now; knows = seat.me.0 } in
    let b : Seated = record { table = c.step-reply-2.new.seat.table_id; worker = c.take.new.self; knows = c.step-reply-2.new.seat.me.0 } in
    let same : a ≡ c.args.self.now = (λ i. record { table = seat.table_id; worker = value i; knows = seat.me.0 }) ∙ c.self.view_is in
    subst (λ (z : Seated). Acts z c.take.result b) same
    (acts a c.step-reply-2.result c.take.result b c.in-Some-want.step (heads_at seat.me.0 _ _ value c.self.invariant.1) (sym c.in-Some-want.ensures.wanted) c.take.ensures.tells c.take.ensures.state c.step-reply-2.ensures.moved)
