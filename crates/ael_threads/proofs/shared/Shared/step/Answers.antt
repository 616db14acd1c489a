use Rattle.std.proofs.Common.{◌≡◌, ℕ, ◌≢◌, Bool, refl, sym, ap, ◌∙◌, subst, eq-eqb, ne_eqb, if◌then◌else◌}
use mathlib.Core.Option.{none}
use Rattle.atomic_table.specs.Seated.{TableId}
use Rattle.atomic_table.specs.Table.{step}
use Rattle.atom_store.specs.declared.step.Step.TheVariants.{Load, Store, Exchange}
use Rattle.atom_store.specs.declared.reply.Reply.TheVariants.{Won, Lost}
use Rattle.gc_worker.specs.Workers.Held.{Held}
use Rattle.ael_threads.specs.declared.view.View.{View}
use Rattle.ael_threads.specs.Seats.{Moves, reply_to}
use Rattle.ael_threads.proofs.TableRule.SeatSteps.{bound, moved, now_allows}
use Rattle.ael_threads.proofs.shared.Shared.step.Goals as goal

pub load-requires : goal.load-requires
load-requires g c = let q' = Load c.in-Load.place in (
  c.requires.table,
  bound _ _ _ c.args.worker.now c.args.step q' c.requires.heads (ap (λ (z : TableId). z.words) (sym c.requires.table) ∙ c.requires.live.1) c.requires.want c.in-Load.is,
  now_allows _ _ _ _ c.args.worker.now _ c.args.step q' (step 0 0 0 0 none) c.requires.heads c.requires.live.0 c.requires.mine c.requires.shows c.requires.worker c.requires.want c.in-Load.is (λ n. n) (λ n. refl),
)

pub store-requires : goal.store-requires
store-requires g c = let q' = Store c.in-Store.place c.in-Store.value in (
  c.requires.table,
  bound _ _ _ c.args.worker.now c.args.step q' c.requires.heads (ap (λ (z : TableId). z.words) (sym c.requires.table) ∙ c.requires.live.1) c.requires.want c.in-Store.is,
  now_allows _ _ _ _ c.args.worker.now _ c.args.step q' (step 0 0 0 0 none) c.requires.heads c.requires.live.0 c.requires.mine c.requires.shows c.requires.worker c.requires.want c.in-Store.is (λ n. c.in-Store.value) (λ n. refl),
)

pub compare_exchange-found-requires : goal.compare_exchange-found-requires
compare_exchange-found-requires g c = let q' = Exchange c.in-Exchange.place c.in-Exchange.old c.in-Exchange.new in (
  c.requires.table,
  bound _ _ _ c.args.worker.now c.args.step q' c.requires.heads (ap (λ (z : TableId). z.words) (sym c.requires.table) ∙ c.requires.live.1) c.requires.want c.in-Exchange.is,
  now_allows _ _ _ _ c.args.worker.now _ c.args.step q' (step 0 0 0 0 none) c.requires.heads c.requires.live.0 c.requires.mine c.requires.shows c.requires.worker c.requires.want c.in-Exchange.is (λ n. n) (λ n. refl),
)

won : (v : View) (m : ℕ) (x : Held) (place old new found : ℕ) (w : View) → found ≡ old → Moves v m x (reply_to (Exchange place old new) found) w → Moves v m x Won w
won v m x place old new found w e h = subst (λ (b : Bool). Moves v m x (if b then Won else Lost found) w) (eq-eqb found old e) h

lost : (v : View) (m : ℕ) (x : Held) (place old new found : ℕ) (w : View) → found ≢ old → Moves v m x (reply_to (Exchange place old new) found) w → Moves v m x (Lost found) w
lost v m x place old new found w e h = subst (λ (b : Bool). Moves v m x (if b then Won else Lost found) w) (ne_eqb found old e) h

pub returns-in-Load : goal.returns-in-Load
returns-in-Load g c = record {
  table = (c.load.ensures.0, c.load.ensures.1, c.load.ensures.2.0);
  moved = moved c.args.seat.now.me c.load.new.seat.me c.args.worker.now g.J.Now.now c.args.step (Load c.in-Load.place) c.load.result c.requires.worker c.requires.want c.in-Load.is c.load.ensures.2;
}

pub returns-in-Store : goal.returns-in-Store
returns-in-Store g c = record {
  table = (c.store.ensures.0, c.store.ensures.1, c.store.ensures.2.0);
  moved = moved c.args.seat.now.me c.store.new.seat.me c.args.worker.now g.J.Now.now c.args.step (Store c.in-Store.place c.in-Store.value) c.in-Store.value c.requires.worker c.requires.want c.in-Store.is c.store.ensures.2;
}

pub returns-then-found-old : goal.returns-then-found-old
returns-then-found-old g c = let made = c.compare_exchange-found.ensures in record {
  table = (made.0, made.1, made.2.0);
  moved = won _ _ _ c.in-Exchange.place c.in-Exchange.old c.in-Exchange.new c.compare_exchange-found.result _ c.if-found-old.true
      (moved c.args.seat.now.me c.compare_exchange-found.new.seat.me c.args.worker.now g.J.Now.now c.args.step (Exchange c.in-Exchange.place c.in-Exchange.old c.in-Exchange.new) c.compare_exchange-found.result
      c.requires.worker c.requires.want c.in-Exchange.is made.2);
}

pub returns-else-found-old : goal.returns-else-found-old
returns-else-found-old g c = let made = c.compare_exchange-found.ensures in record {
  table = (made.0, made.1, made.2.0);
  moved = lost _ _ _ c.in-Exchange.place c.in-Exchange.old c.in-Exchange.new c.compare_exchange-found.result _ c.if-found-old.false
      (moved c.args.seat.now.me c.compare_exchange-found.new.seat.me c.args.worker.now g.J.Now.now c.args.step (Exchange c.in-Exchange.place c.in-Exchange.old c.in-Exchange.new) c.compare_exchange-found.result
      c.requires.worker c.requires.want c.in-Exchange.is made.2);
}
