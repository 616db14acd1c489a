-- A step as the table asks for it: whatever word it finds.
use Rattle.std.proofs.Common.{◌≡◌, ℕ, ◌<◌, ◌==◌, Bool, true, false, Some, List, [], ◌∷◌, set, get_or, refl, sym, ◌∙◌, ap, subst}
use mathlib.Core.Option.{some}
use Rattle.std.proofs.lemmas.List.{set-get_or}
use Rattle.std.proofs.lemmas.Option.{same_Some}
use prog.Atomic.{either}
use lib.ListN.{get_elem?}
use Rattle.atomic_table.specs.Table as table
use Rattle.atom_store.specs.declared.reply.Reply.{Reply}
use Rattle.atom_store.specs.declared.step.Step.{Step}
use Rattle.atom_store.specs.declared.step.Step.TheVariants.{Load, Store, Exchange}
use Rattle.atom_store.specs.Step.{place_in, words_after, reply_of}
use Rattle.gc_worker.specs.Workers.Held.{Held}
use Rattle.gc_worker.specs.Steps.Wanted.{wanted}
use Rattle.ael_threads.specs.declared.view.Hand.{Hand}
use Rattle.ael_threads.specs.declared.view.Plan.{Plan}
use Rattle.ael_threads.specs.declared.view.View.{View}
use Rattle.gc_worker.specs.History.Legal.{calls_of}
use Rattle.ael_threads.specs.Rule.{RuleHolds, view}
use Rattle.ael_threads.specs.Seats.{Follows, Heads, IsMine, Me, Moves, Plays, ShowsSeen, first_number, first_own, reply_to}
use Rattle.ael_threads.proofs.TableRule.StepKeeps.{Came, TableState, moves}

-- ---- the words and the reply as the table says them

abbrev pub word_after : Step → ℕ → ℕ
word_after (Load place) x = x
word_after (Store place v) x = v
word_after (Exchange place old new) x = either (x == old) new x

exchanged : (words : List ℕ) (place old new : ℕ) (b : Bool) → (get_or words place 0 == old) ≡ b → words_after (Exchange place old new) words ≡ set words place (either (get_or words place 0 == old) new (get_or words place 0))
exchanged words place old new true e = rw e refl
exchanged words place old new false e = rw e (sym (set-get_or words place 0))

words_are : (words : List ℕ) (q : Step) → words_after q words ≡ set words (place_in q) (word_after q (get_or words (place_in q) 0))
words_are words (Load place) = sym (set-get_or words place 0)
words_are words (Store place v) = refl
words_are words (Exchange place old new) = exchanged words place old new (get_or words place 0 == old) refl

reply_is : (words : List ℕ) (q : Step) → reply_of q words ≡ reply_to q (get_or words (place_in q) 0)
reply_is words (Load _) = refl
reply_is words _ = refl

-- ---- the step of a seat

-- what is said of a view that is this is said of that one
comes : (plan : Plan) (id : ℕ) (v v' : View) (x : Held) (q : Step) (s : TableState) → v' ≡ v → Came plan id v' (first_number v'.hands) x (reply_of q s.words) s (words_after q s.words)
    → Came plan id v (first_number v.hands) x (reply_to q (get_or s.words (place_in q) 0)) s (set s.words (place_in q) (word_after q (get_or s.words (place_in q) 0)))
comes plan id v v' x q s same h =
    subst (λ (z : View × (List ℕ × Reply)). Came plan id z.0 (first_number z.0.hands) x z.1.1 s z.1.0) (λ i. (same i, (words_are s.words q i, reply_is s.words q i))) h

turns : (plan : Plan) (id : ℕ) (v : View) (x : Held) (q : Step) (hs : List Hand) → v.hands ≡ hs → Heads v.plan x hs → 0 < v.plan.spaces.pages → IsMine v → ShowsSeen x v → wanted x ≡ Some q → (s : TableState) → RuleHolds plan s
    → get_elem? s.views id ≡ some v
    → Came plan id v (first_number v.hands) x (reply_to q (get_or s.words (place_in q) 0)) s (set s.words (place_in q) (word_after q (get_or s.words (place_in q) 0)))
turns plan id v x q [] e heads live mine shows want s b at = absurd heads
turns plan id v x q (was ∷ others) e heads live mine shows want s b at =
    let fixed : v.plan ≡ plan = (b.seats id v at).same live in
    let v' : View = view plan (was ∷ others) v.seen v.heard v.claims in
    let same : v ≡ v' = (λ i. view (fixed i) (e i) v.seen v.heard v.claims) in
    let at' : get_elem? s.views id ≡ some v' = at ∙ ap some same in
    let follows : Follows plan was.number was.worker x = subst (λ (z : Plan). Follows z was.number was.worker x) fixed heads in
    let is_mine : calls_of was.number v.seen ≡ was.own = subst (λ (hands : List Hand). calls_of (first_number hands) v.seen ≡ first_own hands) e mine in
    comes plan id v v' x q s (sym same) (moves plan id was x others v.seen v.heard v.claims q s b at' follows is_mine (subst (ShowsSeen x) same shows) want)

-- the same as the table asks it, for any way in which the step tells what it found
pub allows : (plan : Plan) (slots id : ℕ) (me : Me) (x : Held) (q : Step) → Heads me.0.plan x me.0.hands → 0 < me.0.plan.spaces.pages → IsMine me.0 → ShowsSeen x me.0 → wanted x ≡ Some q → (st : table.Step ℕ) (says : ℕ → ℕ)
    → ((found : ℕ) → reply_to q (says found) ≡ reply_to q found) → table.Allows (RuleHolds plan) slots id me (place_in q) (word_after q) (λ found later. Plays x st me (says found) later)
allows plan slots id me x q heads live mine shows want st says same s b homes at small =
    let t = turns plan id me.0 x q me.0.hands refl heads live mine shows want s b at in
    let found : ℕ = get_or s.words (place_in q) 0 in (
      t.0,
      table.keeps,
      tt,
      t.1,
      (
        refl,
        λ q' want'. let e : q ≡ q' = same_Some q q' (sym want ∙ want') in subst (λ (z : Step). Moves me.0 (first_number me.0.hands) x (reply_to z (says found)) t.0) e
            (subst (λ (z : Reply). Moves me.0 (first_number me.0.hands) x z t.0) (sym (same found)) t.2),
      ),
    )
