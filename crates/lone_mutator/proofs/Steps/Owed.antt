-- What a stage owes of a step, from rows of the table. A step that says nothing of checkpoints owes what the table says alone.
use Rattle.std.proofs.Common.{◌≡◌, ℕ, Some, sym, subst, ◌∙◌, arith}
use Rattle.std.proofs.lemmas.Option.{same_Some}
use Rattle.plain_state.specs.State.{Plain}
use Rattle.atom_store.specs.declared.reply.Reply.{Reply}
use Rattle.atom_store.specs.declared.reply.Reply.TheVariants.{Value, Done, Won}
use Rattle.atom_store.specs.declared.step.Step.{Step}
use Rattle.atom_store.specs.declared.step.Step.TheVariants.{Load, Store, Exchange}
use Rattle.space_map.specs.Table.{Row, IsRow, place_of}
use Rattle.heap_state.specs.Configuration.{Configuration, Stands, table}
use Rattle.heap_state.specs.Memory.Entries.{WholeRow, IsWholeRow, whole_place_of, word_in_whole, Entry, EntryFits, with_entry, row_of, word_of}
use Rattle.heap_state.specs.Memory.Table.{Table, word_in}
use Rattle.heap_state.specs.Saving.Words.{AreFormedSaves, Saves}
use Rattle.heap_state.specs.Saving.Written.{saves_with}
use Rattle.gc_worker.specs.declared.calls.did.Did.TheVariants as did
use Rattle.gc_worker.specs.Workers.Held.{Held}
use Rattle.gc_worker.specs.Steps.Turned.{Told, Silent, Empties, Answers, Marks, turned, told}
use Rattle.gc_worker.specs.Steps.Wanted.{wanted}
use Rattle.gc_worker.proofs.Plain.Quiet.{IsQuiet}
use Rattle.lone_mutator.specs.Law.{Lowers, LowersWhereTold, Pays, PaysWhereTold, Said, StepsLower, said, saves}
use Rattle.lone_mutator.proofs.Steps.TableSteps as steps
use Rattle.lone_mutator.proofs.Steps.TableSteps.{SaysNoSaves}

module _ (c : Configuration) (p : Plain) (s : Stands c p) (x : Held) where
  -- with this reply, where the table then is this
  abbrev pub Owes : Table → Reply → Type 0
  Owes after reply = LowersWhereTold c.pages (saves c) (table c) after x (turned x reply) (told x reply)

  -- where this is said of checkpoints then
  abbrev pub OwesAll : Table → Saves → Reply → Type 0
  OwesAll after then reply = PaysWhereTold c.pages x.layout.checkpoints (said c.pages c.words) (record { table = after; saves = then }) x (turned x reply) (told x reply)

  abbrev pub OwesBy : Step → Type 0
  OwesBy q = steps.HoldsBy c p s OwesAll q

  -- a step that neither answers a task nor flips
  module _ (after : Table) (y : Held) (lower : Lowers c.pages (saves c) (table c) after x y) where
    lowers_quietly : (t : Told) → IsQuiet t → LowersWhereTold c.pages (saves c) (table c) after x y t
    lowers_quietly Silent quiet = lower
    lowers_quietly Empties quiet = lower
    lowers_quietly (Answers task outcome) quiet = absurd quiet
    lowers_quietly (Marks asked) quiet = absurd quiet

  pub owes_quietly : (after : Table) (reply : Reply) (y : Held) → turned x reply ≡ y → IsQuiet (told x reply) → Lowers c.pages (saves c) (table c) after x y → Owes after reply
  owes_quietly after reply y turns quiet lower =
      subst (λ (z : Held). LowersWhereTold c.pages (saves c) (table c) after x z (told x reply)) (sym turns) (lowers_quietly after y lower (told x reply) quiet)

  -- ---- what is said of checkpoints stays

  module _ (after : Table) (y : Held) where
    abbrev then : Said
    then = record { table = after; saves = saves c }

    lowers_pays : Lowers c.pages (saves c) (table c) after x y → Pays c.pages x.layout.checkpoints (said c.pages c.words) then x y
    lowers_pays l = record { remembers = l.remembers; falls = (let falls = l.falls in omega (arith, falls)) }

    pays_by : (t : Told) → LowersWhereTold c.pages (saves c) (table c) after x y t → PaysWhereTold c.pages x.layout.checkpoints (said c.pages c.words) then x y t
    pays_by (Answers task did.Done) quiet = quiet
    pays_by (Answers task (did.Trap end)) l = tt
    pays_by _ l = lowers_pays l

  pub pays : (after : Table) (reply : Reply) → Owes after reply → OwesAll after (saves c) reply
  pays after reply owes = pays_by after (turned x reply) (told x reply) owes

  -- ---- its next step

  pub wants : (q : Step) → wanted x ≡ Some q → OwesBy q → StepsLower c x
  wants q next owes = λ r asked. subst OwesBy (same_Some q r (sym next ∙ asked)) owes

  pub loads : (row : Row) → IsRow c.pages row → Owes (table c) (Value (word_in c.pages c.words row)) → OwesBy (Load (place_of c.pages row))
  loads row is owes = steps.loads c p s OwesAll row is (pays (table c) (Value (word_in c.pages c.words row)) owes)

  pub loads_any : (row : WholeRow) → IsWholeRow c.pages row → Owes (table c) (Value (word_in_whole c.pages c.words row)) → OwesBy (Load (whole_place_of c.pages row))
  loads_any row is owes = steps.loads_any c p s OwesAll row is (pays (table c) (Value (word_in_whole c.pages c.words row)) owes)

  pub stores : (e : Entry) → EntryFits c.pages e → SaysNoSaves e → Owes (with_entry e (table c)) Done → OwesBy (Store (whole_place_of c.pages (row_of e)) (word_of e))
  stores e fits none owes = steps.stores c p s OwesAll e fits none (pays (with_entry e (table c)) Done owes)

  -- an exchange from the word that stands there is won
  pub exchanges : (e : Entry) (old : ℕ) → EntryFits c.pages e → SaysNoSaves e → word_in_whole c.pages c.words (row_of e) ≡ old → Owes (with_entry e (table c)) Won
      → OwesBy (Exchange (whole_place_of c.pages (row_of e)) old (word_of e))
  exchanges e old fits none same owes = steps.exchanges c p s OwesAll e old fits none same (pays (with_entry e (table c)) Won owes)

  -- ---- in rows of checkpoints

  module _ (formed : AreFormedSaves c.pages c.words) where
    pub stores_any : (e : Entry) → EntryFits c.pages e → OwesAll (with_entry e (table c)) (saves_with e (saves c)) Done → OwesBy (Store (whole_place_of c.pages (row_of e)) (word_of e))
    stores_any e fits owes = steps.stores_any c p s OwesAll formed e fits owes

    pub exchanges_any : (e : Entry) (old : ℕ) → EntryFits c.pages e → word_in_whole c.pages c.words (row_of e) ≡ old → OwesAll (with_entry e (table c)) (saves_with e (saves c)) Won
        → OwesBy (Exchange (whole_place_of c.pages (row_of e)) old (word_of e))
    exchanges_any e old fits same owes = steps.exchanges_any c p s OwesAll formed e old fits same owes
