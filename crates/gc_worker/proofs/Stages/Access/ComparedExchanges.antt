-- The exchange of a value of a record, whose page was found open: the word is loaded and compared, and exchanged from there if it is
-- what is expected.
use Rattle.std.proofs.Common.{◌≡◌, ◌↔◌, ℕ, ◌<◌, ◌==◌, Bool, true, false, cond, None, Some, Ok, refl, ap, sym, subst, ◌∙◌, arith, eq-eqb}
use Rattle.std.proofs.lemmas.Bool.{eqb-true}
use Rattle.plain_state.specs.declared.value.Identity.{Identity}
use Rattle.plain_state.specs.declared.value.Value.{Value}
use Rattle.plain_state.specs.declared.value.Value.TheVariants.{Number, Reference}
use Rattle.plain_state.specs.State.{Heap, Mutator, Plain}
use Rattle.plain_heap.specs.declared.action.Action.{Action}
use Rattle.plain_heap.specs.declared.action.Action.TheVariants.{Loads, Stores, Compares}
use Rattle.plain_heap.specs.Action.{are_same}
use Rattle.plain_heap.specs.Call as plain
use Rattle.plain_heap.specs.Call.{After, may_hold, performed}
use Rattle.atom_store.specs.declared.step.Step.TheVariants.{Load, Exchange}
use Rattle.atom_store.specs.declared.reply.Reply.TheVariants as replies
use Rattle.heap_words.specs.Word.{number_word}
use Rattle.space_map.specs.Spaces.{page_of}
use Rattle.space_map.specs.Table.{HeapWord, place_of}
use Rattle.heap_state.specs.Configuration.{Configuration, Stands, era, memory, team}
use Rattle.heap_state.specs.Memory.Entries.{WordIs}
use Rattle.heap_state.specs.Memory.Table.{word_in}
use Rattle.heap_laws.specs.Fields.Effects.{word_held}
use Rattle.heap_laws.proofs.Fields.SameWords.{same_words}
use Rattle.record_access.specs.declared.access_stage.AccessStage.{AccessStage}
use Rattle.record_access.specs.declared.access_stage.AccessStage.TheVariants.{LoadsForCas, ExchangesField}
use Rattle.record_access.specs.declared.field_access.FieldAccess.{FieldAccess}
use Rattle.record_access.specs.declared.field_access.FieldExchange.{FieldExchange}
use Rattle.record_access.specs.declared.field_access.FieldUse.TheVariants as field_uses
use Rattle.record_access.specs.declared.field_access.Role.{Role}
use Rattle.record_access.specs.Access.{field_at, field_of, kind_of, role_of, word_as}
use Rattle.gc_worker.specs.Steps.Access.{IsFieldOfAction}
use Rattle.gc_worker.specs.Workers.Fits.{ExecutesAction}
use Rattle.gc_worker.specs.Steps.Goes.{Is, Goes, StepsSo}
use Rattle.gc_worker.specs.Steps.Turned as turned
use Rattle.gc_worker.specs.Workers.Held.{Held}
use Rattle.gc_worker.specs.Workers.Knows.{access_at, known_access, knows, opened_at}
use Rattle.record_access.specs.Seen.{IsValueWord, word_for}
use Rattle.gc_worker.proofs.Plain.Actions.{plain_value}
use Rattle.gc_worker.proofs.Plain.Effects.{loaded_goes, loaded_as}
use Rattle.gc_worker.proofs.Plain.Registers.{are_same-true, same-are}
use Rattle.gc_worker.proofs.Stages.Gate.GateWords.{wants}
use Rattle.gc_worker.proofs.Words.RowSteps as steps
use Rattle.gc_worker.proofs.Words.RowSteps.{nothing}
use Rattle.gc_worker.proofs.Stages.Access.Acting.{q, its, names, decode_number, number_held, Held_value}
use Rattle.gc_worker.proofs.Stages.Access.Fields.{fits_role, heap_after, holds, in_table, no_target, stored_law, stores_in_plain, value_is}
use Rattle.gc_worker.proofs.Stages.Access.NextAccessStage.{at, ready, no_end, goes_to}
use Rattle.gc_worker.proofs.Stages.Access.AccessOutcomes.{goes_bringing, goes_loading}

number_is_value : (n : ℕ) → n < 2 → IsValueWord (number_word n)
number_is_value n small = rw (decode_number n (omega (arith, small))) tt

module _ (c : Configuration) (p : Plain) (s : Stands c p) (k : ℕ) (y : Held) where
  -- the action stores v in value x of record j, if that is u
  module _ (j : Identity) (first : ℕ) (role : Role) (x d : ℕ) (u v : Value) where
    abbrev f : FieldAccess
    f = field_of j.serial first role x

    abbrev e : FieldExchange
    e = record { into = d; expected = word_for u; new = word_as role v }

    abbrev act : Action
    act = Compares d j x u v

    abbrev word : ℕ
    word = word_in c.pages c.words (HeapWord (field_at f))

    module _ (stage : AccessStage) (is : Is c k (at c p s k y stage)) (knows_it : access_at stage ≡ Some (known_access f)) (found : opened_at y.layout stage ≡ Some (page_of (field_at f)))
        (executes : ExecutesAction y.account y.registers y.task act) (holding : may_hold (kind_of role) x v ≡ Ok v) where
      abbrev value : Value
      value = (value_is c p s k y j first role x stage is knows_it found (no_target role x v holding)).value

      abbrev expected : Value
      expected = plain_value s.ghost.identity u

      abbrev mine : Mutator
      mine = q c p s k y stage is

      holds_all : Held_value c p s k y stage is (Reference j) × Held_value c p s k y stage is u × Held_value c p s k y stage is v
      holds_all = names c p s k y stage is act executes

      -- the word is what is expected just if the plain value is
      same : (word_held (role_of role) word ≡ word_for u) ↔ (value ≡ expected)
      same = same_words (era c) (memory c) (team c) s.ghost k (word_held (role_of role) word) (word_for u) value expected (ready c p s k y stage is) (holds c p s k y j first role x stage is knows_it found (no_target role x v holding)) holds_all.1

      are_same-if : word_held (role_of role) word ≡ word_for u → are_same value expected ≡ true
      are_same-if e = subst (λ (z : Value). are_same value z ≡ true) (same.0 e) (same-are value)

      are_other-if : (word_held (role_of role) word == word_for u) ≡ false → are_same value expected ≡ false
      are_other-if other = by_test (are_same value expected) refl
        where
          by_test : (b : Bool) → are_same value expected ≡ b → b ≡ false
          by_test true test = absurd (let t = eq-eqb (word_held (role_of role) word) (word_for u) (same.1 (are_same-true value expected test)) in cc)
          by_test false test = refl

      abbrev leaves : (found : Value) → Heap → After
      leaves found heap = cond (are_same found expected) (plain.loads heap mine d (Number 1)) (plain.loads p.heap mine d (Number 0))

      acts : performed k p.heap mine (Compares d (s.ghost.identity j.serial) x expected (plain_value s.ghost.identity v)) ≡ Ok (leaves value (heap_after c p s k y j first role x stage is knows_it found (no_target role x v holding) v holds_all.2 holding))
      acts = stores_in_plain c p s k y j first role x stage is knows_it found (no_target role x v holding) v holds_all.2 holding leaves

    -- ---- the load

    module _ (is : Is c k (at c p s k y (LoadsForCas f e))) (executes : ExecutesAction y.account y.registers y.task act) (holding : may_hold (kind_of role) x v ≡ Ok v) where
      abbrev loading : AccessStage
      loading = LoadsForCas f e

      loads_it : (b : Bool) → (word_held (role_of role) word == word_for u) ≡ b → Goes c p s k None (at c p s k y loading) (replies.Value word)
      loads_it true test =
          goes_to c p s k y loading is (ExchangesField f e word) (replies.Value word) (rw test refl) (nothing c p s k (at c p s k y loading) is (knows (at c p s k y (ExchangesField f e word))) refl)
          (record { act = act; executes = executes; is = ((refl, holding, refl), eqb-true (word_held (role_of role) word) (word_for u) test) }) is.fits.stage.sound.stage
          (fits_role c p s k y j first role x loading is refl refl (no_target role x v holding) role refl)
      loads_it false test =
          goes_loading c p s k y loading is act executes (replies.Value word) d (number_word 0) (Number 0) (rw test refl) is.fits.stage.sound.stage.1 (number_is_value 0 (omega arith))
          (number_held (era c) s.ghost 0 (omega arith)) (acts loading is refl refl executes holding ∙ rw (are_other-if loading is refl refl executes holding test) refl)
          (fits_role c p s k y j first role x loading is refl refl (no_target role x v holding) role refl)

    -- ---- the exchange

    module _ (old : ℕ) (is : Is c k (at c p s k y (ExchangesField f e old))) (executes : ExecutesAction y.account y.registers y.task act) (holding : may_hold (kind_of role) x v ≡ Ok v) where
      abbrev exchanging : AccessStage
      exchanging = ExchangesField f e old

      abbrev here : Held
      here = at c p s k y exchanging

      won : word_held (role_of role) old ≡ word_for u → word ≡ old → Goes c p s k (Some (WordIs (field_at f) (word_as role v))) here replies.Won
      won is_expected stands =
          let fits = is.fits.stage.sound.stage in
          let own_q = q c p s k y exchanging is in
          let new_holds = (holds_all exchanging is refl refl executes holding).2 in
          let now = plain.went_on (plain.set_register own_q d (Number 1)) in
          let later = heap_after c p s k y j first role x exchanging is refl refl (no_target role x v holding) v new_holds holding in
          let equal = are_same-if exchanging is refl refl executes holding (ap (λ (w : ℕ). word_held (role_of role) w) stands ∙ is_expected) in
          let one = number_held (era c) s.ghost 1 (omega arith) in
          goes_bringing c p s k y exchanging is act executes (Some (WordIs (field_at f) (word_as role v))) replies.Won d (number_word 1) (record { heap = later; mutator = now }) refl fits.1
          (number_is_value 1 (omega arith)) (acts exchanging is refl refl executes holding ∙ rw equal refl)
          (stored_law c p s k y j first role x exchanging is refl refl (no_target role x v holding) v new_holds holding (knows (turned.loads here d (number_word 1))) now
          (loaded_goes c p s k here is refl (no_end c p s k y exchanging is) own_q (its c p s k y exchanging is) d (number_word 1) (Number 1) fits.1 one)
          (loaded_as c p s k here is refl (no_end c p s k y exchanging is) own_q (its c p s k y exchanging is) d (number_word 1) (Number 1) fits.1 one)) tt

  -- ---- the stages

  module _ (f : FieldAccess) where
    -- an exchange of a field is of an action that exchanges
    of_action : (P : FieldAccess → FieldExchange → Type 0) (e : FieldExchange) (act : Action) → ExecutesAction y.account y.registers y.task act → IsFieldOfAction act f (field_uses.Compares e)
        → ((d : ℕ) (j : Identity) (x : ℕ) (u v : Value) → ExecutesAction y.account y.registers y.task (Compares d j x u v) → may_hold (kind_of f.role) x v ≡ Ok v
        → P (field_of j.serial f.first f.role x) (record { into = d; expected = word_for u; new = word_as f.role v })) → P f e
    of_action P e (Compares d j x u v) executes of so =
        let spelled : FieldExchange = record { into = d; expected = word_for u; new = word_as f.role v } in
        let same : e ≡ spelled = let z = of.2 in cc in
        subst (λ (g : FieldAccess). P g e) (sym of.0) (subst (P (field_of j.serial f.first f.role x)) (sym same) (so d j x u v executes of.1))
    of_action P e (Loads d j x) executes of so = absurd (let z = of.1 in cc)
    of_action P e (Stores j x v) executes of so = absurd (let z = of.2 in cc)
    of_action P e _ executes of so = absurd of

    abbrev Loaded : FieldAccess → FieldExchange → Type 0
    Loaded g e = Is c k (at c p s k y (LoadsForCas g e)) → Goes c p s k None (at c p s k y (LoadsForCas g e)) (replies.Value (word_in c.pages c.words (HeapWord (field_at g))))

    pub loads_for_cas : (e : FieldExchange) → Is c k (at c p s k y (LoadsForCas f e)) → StepsSo c p s k (at c p s k y (LoadsForCas f e))
    loads_for_cas e is =
        wants c p s k (at c p s k y (LoadsForCas f e)) (Load (place_of c.pages (HeapWord (field_at f)))) (ap (λ n. Some (Load (place_of n (HeapWord (field_at f))))) is.fits.pages)
        (steps.loads c p s k (at c p s k y (LoadsForCas f e)) (HeapWord (field_at f)) (in_table c p s k y f is.fits.stage.sound.stage.0 is.fits.pages)
        (of_action Loaded e is.fits.task.act is.fits.task.executes is.fits.task.is (λ d j x u v executes holding its.
        loads_it j f.first f.role x d u v its executes holding (word_held (role_of f.role) (word_in c.pages c.words (HeapWord (field_at (field_of j.serial f.first f.role x)))) == word_for u) refl) is))

    abbrev Won : ℕ → FieldAccess → FieldExchange → Type 0
    Won old g e = Is c k (at c p s k y (ExchangesField g e old)) → word_held (role_of g.role) old ≡ e.expected → word_in c.pages c.words (HeapWord (field_at g)) ≡ old
        → Goes c p s k (Some (WordIs (field_at g) e.new)) (at c p s k y (ExchangesField g e old)) replies.Won

    module _ (e : FieldExchange) (old : ℕ) (is : Is c k (at c p s k y (ExchangesField f e old))) where
      abbrev stage : AccessStage
      stage = ExchangesField f e old

      abbrev found : ℕ
      found = word_in c.pages c.words (HeapWord (field_at f))

      lost : Goes c p s k None (at c p s k y stage) (replies.Lost found)
      lost =
          goes_to c p s k y stage is (LoadsForCas f e) (replies.Lost found) refl (nothing c p s k (at c p s k y stage) is (knows (at c p s k y (LoadsForCas f e))) refl)
          (record { act = is.fits.task.act; executes = is.fits.task.executes; is = is.fits.task.is.0 }) is.fits.stage.sound.stage tt

      pub exchanges_field : StepsSo c p s k (at c p s k y stage)
      exchanges_field =
          wants c p s k (at c p s k y stage) (Exchange (place_of c.pages (HeapWord (field_at f))) old e.new) (ap (λ n. Some (Exchange (place_of n (HeapWord (field_at f))) old e.new)) is.fits.pages)
          (steps.exchanges c p s k (at c p s k y stage) (WordIs (field_at f) e.new) old (in_table c p s k y f is.fits.stage.sound.stage.0 is.fits.pages)
          (of_action (Won old) e is.fits.task.act is.fits.task.executes is.fits.task.is.0 (λ d j x u v executes holding its. won j f.first f.role x d u v old its executes holding) is is.fits.task.is.1)
          (λ other. lost))
